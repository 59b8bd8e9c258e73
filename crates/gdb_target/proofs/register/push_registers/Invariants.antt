use Rattle.std.proofs.Common.{◌≡◌, ◌≤◌, ◌+◌, ◌*◌, ◌++◌, length}
use Rattle.std.specs.List.{flat_map, range_with_len}
use Rattle.gdb_target.specs.Registers.{register_of, register_text}
use Rattle.gdb_target.proofs.register.push_registers.Given as goal

-- the registers before this one were added
abbrev pub invariant-registers : goal.invariant-registers
invariant-registers l = record {
  text : l.row.items
      ≡ l.initial.row.items
      ++ flat_map (λ number. register_text (register_of l.fn.core number)) (range_with_len 0 l.number);
  few : length l.row.items ≤ length l.initial.row.items + 20 * l.number;
}
