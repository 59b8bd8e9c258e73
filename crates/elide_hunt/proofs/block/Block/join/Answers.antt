use Rattle.std.proofs.Common.{rules, ◌≡◌, ◌+◌, ℕ, true, false, arith, subst, Result, Ok, None}
use Rattle.std.specs.Prelude.{IfErr, IfOk, is_some}
use Rattle.tm_hist.specs.Board.{ShownBoard as Board}
use Rattle.tm_hunt.specs.Attempts.{IsRefusal}
use Rattle.tm_hunt.specs.Sources.{IsPlannedRun}
use Rattle.tm_hunt.specs.declared.attempt.HuntFault.{HuntFault}
use Rattle.elide_hunt.specs.Refused.{not_made}
use Rattle.elide_hunt.specs.Shares.{IsShare, share_start}
use Rattle.elide_hunt.specs.declared.block.Share.{Share}
use Rattle.elide_hunt.proofs.Shares.{Joined, joined_all, joined_failed, joined_more, joined_none, joined_share, none_of}
use Rattle.elide_hunt.proofs.Shares.{share_fits, share_most, share_next}
use Rattle.elide_hunt.proofs.block.Block.join.Goals as goal

pub loop-share-init : goal.loop-share-init
loop-share-init c =
    let block = c.args.self.now in
    let made : ℕ → Board → Type 0 = IsPlannedRun block.plan in
    joined_none block.trial made block.first block.end block.jobs c.requires.some

pub then-all-requires : goal.then-all-requires
then-all-requires c =
    let block = c.args.self.now in
    let made : ℕ → Board → Type 0 = IsPlannedRun block.plan in
    let index = c.loop-share.share-index in
    let Gives : Result Share HuntFault → Type 0 =
    λ r. IfOk r (IsShare block.trial made (share_start block.first block.end block.jobs index)
    (share_start block.first block.end block.jobs (index + 1))) in
    let given =
    subst Gives c.in-Ok.is (c.requires.each index (Ok (record { failed = None; ended = 0; cut = 0 })) (omega arith)) in
    let next = share_next block.first block.end block.jobs index c.requires.ordered in
    let most = share_most block.first block.end block.jobs (index + 1) c.requires.ordered in
    let fits = share_fits block.trial made _ _ c.in-Ok.next next given in
    let before = c.loop-share.invariant.counted in
    omega arith

pub returns-then-is_some-clause-made : goal.returns-then-is_some-clause-made
returns-then-is_some-clause-made c =
    let block = c.args.self.now in
    let made : ℕ → Board → Type 0 = IsPlannedRun block.plan in
    let index = c.loop-share.share-index in
    let Gives : Result Share HuntFault → Type 0 =
    λ r. IfOk r (IsShare block.trial made (share_start block.first block.end block.jobs index)
    (share_start block.first block.end block.jobs (index + 1))) in
    let given =
    subst Gives c.in-Ok.is (c.requires.each index (Ok (record { failed = None; ended = 0; cut = 0 })) (omega arith)) in
    let some : is_some c.then-all.result.failed ≡ true = search rules in
    joined_failed block.trial made block.first block.end block.jobs index c.then-all.result c.requires.ordered some
    (joined_share block.trial made block.first block.end block.jobs index c.loop-share.all c.in-Ok.next
    c.then-all.result c.requires.ordered
    c.loop-share.invariant given c.then-all.ensures.failed c.then-all.ensures.ended c.then-all.ensures.cut)

pub loop-share-preserved : goal.loop-share-preserved
loop-share-preserved c =
    let block = c.args.self.now in
    let made : ℕ → Board → Type 0 = IsPlannedRun block.plan in
    let index = c.loop-share.share-index in
    let Gives : Result Share HuntFault → Type 0 =
    λ r. IfOk r (IsShare block.trial made (share_start block.first block.end block.jobs index)
    (share_start block.first block.end block.jobs (index + 1))) in
    let given =
    subst Gives c.in-Ok.is (c.requires.each index (Ok (record { failed = None; ended = 0; cut = 0 })) (omega arith)) in
    let none : is_some c.then-all.result.failed ≡ false = search rules in
    joined_more block.trial made block.first block.end block.jobs index c.then-all.result c.requires.ordered
    (none_of c.then-all.result.failed none)
    (joined_share block.trial made block.first block.end block.jobs index c.loop-share.all c.in-Ok.next
    c.then-all.result c.requires.ordered
    c.loop-share.invariant given c.then-all.ensures.failed c.then-all.ensures.ended c.then-all.ensures.cut)

pub returns-clause-made : goal.returns-clause-made
returns-clause-made c =
    let block = c.args.self.now in
    let made : ℕ → Board → Type 0 = IsPlannedRun block.plan in
    let last : c.loop-share.share-index ≡ block.jobs = omega arith in
    joined_all block.trial made block.first block.end block.jobs c.loop-share.all
    (subst (λ (n : ℕ). Joined block.trial made block.first block.end block.jobs n c.loop-share.all) last
    c.loop-share.invariant)

pub returns-in-Err-clause-refused : goal.returns-in-Err-clause-refused
returns-in-Err-clause-refused c =
    let trial = c.args.self.now.trial in
    let given = subst (λ (r : Result Share HuntFault). IfErr r (IsRefusal trial)) c.in-Err.is
    (c.requires.refused c.loop-share.share-index (Ok (record { failed = None; ended = 0; cut = 0 })) (omega arith)) in
    not_made c.in-Err.fault given c.fault_of.ensures
