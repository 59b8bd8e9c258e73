use Rattle.std.proofs.Common.{◌≡◌, map}
use Rattle.std.specs.List.{range_with_len}
use Rattle.tm_hist.specs.Serial.{first_core}
use Rattle.tm_hist.proofs.one_memory.first_cores.Given as goal

abbrev pub invariant-cores : goal.invariant-cores
invariant-cores l = l.cores.items ≡ map (first_core l.program) (range_with_len 0 l.core)
