use Rattle.std.proofs.Common.{◌<◌, ◌++◌, ◌∷◌, [], ℕ, length, ap, subst}
use Rattle.tm_model.specs.declared.outcome.Pick.{Pick}
use Rattle.tm_outcomes.proofs.Alone.{all_made, first_ahead, none_ahead, one_ahead}
use Rattle.tm_outcomes.proofs.place.Place.take_up.Goals as goal

pub returns-then-is_behind-clause-ahead : goal.returns-then-is_behind-clause-ahead
returns-then-is_behind-clause-ahead c = λ schedule so_far.
    one_ahead c.args.trial.now c.args.self.now c.args.ahead c.args.pick
    (c.is_behind.ensures.alone c.if-is_behind.true) schedule so_far

pub returns-then-is_behind-clause-core : goal.returns-then-is_behind-clause-core
returns-then-is_behind-clause-core c =
    subst (λ (n : ℕ). n < length c.args.trial.now.program.now.entries)
    (ap (λ (p : Pick). p.core) (c.is_behind.ensures.alone c.if-is_behind.true)) c.requires.pick

pub returns-then-is_alone-clause-ahead : goal.returns-then-is_alone-clause-ahead
returns-then-is_alone-clause-ahead c = λ schedule so_far.
    first_ahead c.args.trial.now c.steps_alone.new.self c.args.pick.core c.args.pick
    (c.is_alone.ensures c.if-is_alone.true) schedule
    (all_made c.args.trial.now c.args.self.now c.steps_alone.new.self c.args.ahead schedule so_far
    c.steps_alone.ensures.at)

pub returns-clause-ahead : goal.returns-clause-ahead
returns-clause-ahead c = λ schedule so_far.
    none_ahead c.args.trial.now c.step.new.self c.args.pick.core (schedule ++ c.args.pick ∷ [])
    (c.step.ensures.at schedule
    (all_made c.args.trial.now c.args.self.now c.steps_alone.new.self c.args.ahead schedule so_far
    c.steps_alone.ensures.at))
