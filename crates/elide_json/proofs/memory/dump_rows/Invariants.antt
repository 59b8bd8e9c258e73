use Rattle.std.proofs.Common.{◌≡◌, map, take}
use Rattle.elide_json.specs.Memory.{dump_at, dump_row}
use Rattle.elide_json.proofs.memory.dump_rows.Given as goal

-- the rows so far are those of the parts so far
abbrev pub invariant-loop-dump : goal.invariant-loop-dump
invariant-loop-dump l = map dump_row l.rows.items ≡ map (dump_at l.memory) (take l.dump-index l.dumps)
