use Rattle.std.proofs.Common.{ℕ, ◌+◌, subst}
use Rattle.tm_hist.specs.Board.{ShownBoard as Board}
use Rattle.tm_hunt.specs.Attempts.{IsSearch}
use Rattle.tm_hunt.specs.Sources.{IsPlannedRun}
use Rattle.elide_hunt.specs.Shares.{share_start}
use Rattle.elide_hunt.proofs.Shares.{share_of_search}
use Rattle.elide_hunt.proofs.block.Block.share.Goals as goal

pub returns-clause-made : goal.returns-clause-made
returns-clause-made c =
    let block = c.args.self.now in
    let made : ℕ → Board → Type 0 = IsPlannedRun block.plan in
    let search = c.in_ok-search.search in
    let start : ℕ = share_start block.first block.end block.jobs c.args.job in
    let end : ℕ = share_start block.first block.end block.jobs (c.args.job + 1) in
    let given : IsSearch block.trial made c.start_of-first.result c.start_of-end.result search =
    c.in_ok-search.ensures.ok in
    share_of_search block.trial made start end search c.share_of.result
    (subst (λ (n : ℕ). IsSearch block.trial made start n search) c.start_of-end.ensures
    (subst (λ (n : ℕ). IsSearch block.trial made n c.start_of-end.result search) c.start_of-first.ensures given))
    c.share_of.ensures.failed c.share_of.ensures.ended c.share_of.ensures.cut
