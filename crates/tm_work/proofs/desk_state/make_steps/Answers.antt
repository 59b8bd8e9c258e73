use Rattle.std.proofs.Common.{inl, inr}
use Rattle.std.proofs.lemmas.Bool.{ltb-true}
use Rattle.tm_work.proofs.Turns.{steps_made}
use Rattle.tm_work.proofs.desk_state.make_steps.Goals as goal

pub returns-then-progress-clause-made : goal.returns-then-progress-clause-made
returns-then-progress-clause-made c =
    let l = c.last_of-last.ensures in
    rw c.from.ensures (steps_made _ _ _ _ _ _ _ c.steps-made.ensures.made l.few l.limited l.none l.last (λ e. inl e))

pub returns-else-progress-clause-made : goal.returns-else-progress-clause-made
returns-else-progress-clause-made c =
    let s = c.steps-made.ensures in
    let l = c.last_of-last.ensures in
    rw c.from.ensures
    (steps_made _ _ _ _ _ _ _ s.made l.few l.limited l.none l.last
    (λ e. inr (s.fewer (ltb-true c.steps-made.result c.args.most e))))
