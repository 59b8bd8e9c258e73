use Rattle.std.proofs.Common.{List, subst}
use Rattle.tm_model.specs.declared.outcome.Pick.{Pick}
use Rattle.tm_hunt.specs.Kept.{KeepsKinds}
use Rattle.tm_hunt.proofs.shortening.Front.join_at.Goals as goal

pub try_steps-requires-clause-kinds : goal.try_steps-requires-clause-kinds
try_steps-requires-clause-kinds c =
    let found = rw c.in-Some.is at c.in_ok-other.ensures in
    subst (λ (steps : List Pick). KeepsKinds steps c.in-Some.other.items) c.as_slice.ensures.value found
