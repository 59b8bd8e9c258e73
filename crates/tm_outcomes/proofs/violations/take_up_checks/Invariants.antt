use Rattle.std.proofs.Common.{◌≡◌, ℕ, ◌<◌, Some, length}
use Rattle.std.specs.Prelude.{slice_get}
use Rattle.tm_condition.specs.Conditions.{Violates}
use Rattle.tm_condition.specs.declared.check.Check.{Check}
use Rattle.tm_core.specs.Theorem.{StandsFor}
use Rattle.tm_outcomes.specs.Schedules.{Situation}
use Rattle.tm_outcomes.specs.Searching.{AreViolations}
use Rattle.tm_outcomes.specs.Verdicts.{IsViolationTold, seen_at}
use Rattle.tm_outcomes.proofs.violations.take_up_checks.Given as goal

-- those so far are found, and none is lost
abbrev pub invariant-loop-check : goal.invariant-loop-check
invariant-loop-check l = record {
  end : l.check-end ≡ length l.task.trial.checks.now;
  violations : AreViolations l.task.trial l.violations.items;
  kept : (check : ℕ) → IsViolationTold l.initial.violations.items check → IsViolationTold l.violations.items check;
  found : (check : ℕ) (what : Check) → check < l.check → slice_get l.task.trial.checks.now check ≡ Some what →
      (now : Situation) → StandsFor l.at.place.now.machine now.state now.doomed → Violates (seen_at now.state) what →
      IsViolationTold l.violations.items check;
}
