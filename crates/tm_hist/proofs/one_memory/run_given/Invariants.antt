use Rattle.std.proofs.Common.{◌≡◌, ◌≤◌, Some, map, take}
use Rattle.std.specs.List.{AllByRecursion}
use Rattle.tm_hist.specs.Serial.{core_of, flat_setting, list_run, steps_of}
use Rattle.tm_hist.proofs.one_memory.run_given.Given as goal

-- the pairs before this index have run, and no core has made more steps
abbrev pub invariant-pairs : goal.invariant-pairs
invariant-pairs l =
    (list_run (flat_setting l.listing.code l.size) l.initial.memory (map core_of l.initial.cores)
    (take l.index l.pairs) ≡ Some (l.memory, map core_of l.cores))
    × AllByRecursion (λ c. steps_of c ≤ l.index) l.cores
