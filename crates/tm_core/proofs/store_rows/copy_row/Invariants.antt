use Rattle.std.proofs.Common.{◌≡◌, length, take}
use Rattle.std.specs.Prelude.{vec_capacity}
use Rattle.tm_core.proofs.store_rows.copy_row.Given as goal

-- the stores so far are taken over
abbrev pub invariant-loop-store : goal.invariant-loop-store
invariant-loop-store l = record {
  items : l.row.items ≡ take l.store-index l.twin;
  count : length l.row.items ≡ l.store-index;
  capacity : vec_capacity l.row ≡ vec_capacity l.initial.row;
}
