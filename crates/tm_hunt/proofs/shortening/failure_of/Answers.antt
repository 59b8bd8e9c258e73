use Rattle.std.proofs.Common.{ℕ, subst, sym}
use Rattle.tm_pick.specs.Shown.{Picks}
use Rattle.tm_pick.specs.declared.kinds.Kinds.{Kinds}
use Rattle.tm_hunt.specs.Kept.{ComesOf}
use Rattle.tm_hunt.specs.Sources.{PicksNext}
use Rattle.tm_hunt.proofs.Ending.{failure_kinds}
use Rattle.tm_hunt.proofs.KeptKinds.{comes_of}
use Rattle.tm_hunt.proofs.shortening.failure_of.Goals as goal

pub returns-in-Failed-clause-kinds : goal.returns-in-Failed-clause-kinds
returns-in-Failed-clause-kinds c =
    let stores : ℕ = c.args.trial.now.limits.stores in
    let picker : Picks = c.picker_of-picker.result in
    let kinds_of : Picks → Kinds = λ picks. picks.kinds in
    let attempt = rw c.in-Failed.is at c.in_ok-failure.ensures.ok in
    subst (ComesOf stores c.args.front.now) (sym c.decide.ensures.picks)
    (comes_of stores picker.kinds c.args.front.now c.in-Failed.failure.picks.items c.picker_of-picker.ensures
    (failure_kinds PicksNext kinds_of picker c.args.trial.now c.in-Failed.failure attempt))
