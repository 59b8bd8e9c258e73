use Rattle.std.proofs.Common.{◌≡◌, ◌+◌, ◌*◌, ◌≤◌, ◌++◌, flat_map, take}
use Rattle.arrayvec.specs.ArrayVec.{array_vec_len}
use Rattle.elide_asm.specs.Labelled.{next_byte}
use Rattle.elide_asm.proofs.foreign.push_others.Given as goal

-- the bytes so far stand on the page
abbrev pub invariant-loop-byte : goal.invariant-loop-byte
invariant-loop-byte l = (l.page.items ≡ l.initial.page.items ++ flat_map next_byte (take l.byte-index l.bytes))
    × (array_vec_len l.page ≤ array_vec_len l.initial.page + 12 * l.byte-index)
