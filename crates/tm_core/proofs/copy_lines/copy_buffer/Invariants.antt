use Rattle.std.proofs.Common.{◌≡◌, Some, length, map, take}
use Rattle.tm_buffer.specs.Buffer.{IsPartOf}
use Rattle.tm_core.proofs.copy_lines.copy_buffer.Given as goal

-- so many lines of the other buffer were taken over
abbrev pub invariant-loop-place : goal.invariant-loop-place
invariant-loop-place g l = record {
  end : l.place-end ≡ length l.twin.order;
  order : l.buffer.order ≡ take l.place l.twin.order;
  part : IsPartOf l.buffer l.twin;
  slots : map ((g.S.Sets.content l.sets).slots l.core) l.buffer.order ≡ map Some l.buffer.slots;
  room : l.buffer.room ≡ l.fn.buffer.room;
}
