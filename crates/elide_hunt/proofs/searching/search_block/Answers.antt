use Rattle.std.proofs.Common.{ℕ, arith, refl}
use Rattle.tm_hist.specs.Board.{ShownBoard as Board}
use Rattle.tm_hunt.specs.Sources.{IsPlannedRun}
use Rattle.elide_hunt.proofs.Shares.{search_behind}
use Rattle.elide_hunt.specs.Refused.{not_made}
use Rattle.elide_hunt.proofs.searching.search_block.Goals as goal

pub returns-in-Ok-clause-made : goal.returns-in-Ok-clause-made
returns-in-Ok-clause-made g c =
    let block = c.args.block.now in
    let made : ℕ → Board → Type 0 = IsPlannedRun block.plan in
    let share = c.in_ok-share.share in
    let again = c.in-Ok.again in
    let failed = rw c.in-Some.is at c.in_ok-share.ensures.made.failed in
    search_behind block.trial made block.first c.in-Some.failing block.end share.ended share.cut again _
    c.in_ok-share.ensures.made.passed failed.0 (omega (arith, failed.1))
    c.in-Ok.ensures.ok refl refl refl

pub returns-in-Err-clause-refused : goal.returns-in-Err-clause-refused
returns-in-Err-clause-refused g c = not_made c.in-Err.fault c.in-Err.ensures.err c.fault_of.ensures
