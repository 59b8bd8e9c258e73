use Rattle.tm_outcomes.specs.Searching.{IsMade}
use Rattle.tm_outcomes.proofs.cycle.make_all.Given as goal

-- the steps of the picks so far were made
abbrev pub invariant-loop-pick : goal.invariant-loop-pick
invariant-loop-pick l = IsMade l.task.trial l.initial.here l.here l.initial.noted l.noted l.steps.items
