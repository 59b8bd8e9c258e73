use Rattle.std.proofs.Common.{take}
use Rattle.elide_checks.specs.Added.{AreAdded}
use Rattle.elide_checks.specs.Checks.{IsStopCheck}
use Rattle.elide_checks.proofs.demands.add_stops.Given as goal

-- each option so far has its check
abbrev pub invariant-loop-word : goal.invariant-loop-word
invariant-loop-word l = AreAdded IsStopCheck (take l.word-index l.words) l.initial.checks.items l.checks.items
