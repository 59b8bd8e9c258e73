use Rattle.std.proofs.Common.{◌≡◌, ◌≤◌, not}
use Rattle.arrayvec.specs.ArrayVec.{array_vec_len}
use Rattle.std.specs.List.{filter, range_with_len}
use Rattle.elide_run.specs.Halting.{is_stopped}
use Rattle.elide_run.proofs.object.running_of.Given as goal

-- of the cores so far, those that have not stopped are there
abbrev pub invariant-loop-core : goal.invariant-loop-core
invariant-loop-core l =
    (l.cores.items ≡ filter (λ core. not (is_stopped l.machine core)) (range_with_len 0 l.core))
    × (array_vec_len l.cores ≤ l.core)
