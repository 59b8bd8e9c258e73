use Rattle.std.proofs.Common.{ℕ, ◌<◌}
use Rattle.tm_core.specs.Theorem.{StandsFor, machine_setting}
use Rattle.tm_outcomes.specs.Schedules.{Situation}
use Rattle.tm_outcomes.specs.Verdicts.{WaitsForRoom}
use Rattle.tm_outcomes.proofs.place.Place.has_waiting.Given as goal

-- none of the cores below waits
abbrev pub invariant-loop-core : goal.invariant-loop-core
invariant-loop-core l =
    (core : ℕ) → core < l.core → (now : Situation) → StandsFor l.self.machine now.state now.doomed
    → WaitsForRoom (machine_setting l.self.machine) now core → ⊥
