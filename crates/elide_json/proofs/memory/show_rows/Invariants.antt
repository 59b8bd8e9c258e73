use Rattle.std.proofs.Common.{◌≡◌, map, take}
use Rattle.std.specs.List.{zip}
use Rattle.elide_json.specs.Memory.{show_at, show_row}
use Rattle.elide_json.proofs.memory.show_rows.Given as goal

-- the rows so far are those of the doublewords so far
abbrev pub invariant-loop-index : goal.invariant-loop-index
invariant-loop-index l =
    map show_row l.rows.items ≡ map (show_at l.memory) (take l.index (zip l.texts l.addresses))
