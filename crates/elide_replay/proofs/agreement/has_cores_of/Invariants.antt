use Rattle.std.proofs.Common.{◌≡◌, ℕ, ◌<◌, ◌≤◌, length}
use Rattle.tm_hist.specs.Replay.{cores_of}
use Rattle.elide_replay.specs.Alike.{SameCore}
use Rattle.elide_replay.proofs.agreement.has_cores_of.Given as goal

-- the serial run has no core more, and those before this one are the same
abbrev pub invariant-loop-core : goal.invariant-loop-core
invariant-loop-core l = (l.cores ≡ length l.machine.views) × (1 ≤ l.cores) × (length (cores_of l.serial) ≤ l.cores)
    × ((number : ℕ) → number < l.core → SameCore l.machine l.serial number)
