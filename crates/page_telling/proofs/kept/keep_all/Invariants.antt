use Rattle.std.proofs.Common.{◌≡◌, ℕ, ◌&&◌, ◌||◌, take}
use Rattle.std.specs.Prelude.{nat_eq}
use Rattle.page_telling.specs.Kept.{is_kept, is_stored}
use Rattle.page_telling.proofs.kept.keep_all.Given as goal

-- the bytes so far are kept too
abbrev pub invariant-loop-byte : goal.invariant-loop-byte
invariant-loop-byte l = (other at : ℕ) → is_kept l.bytes.items other at
    ≡ (is_kept l.initial.bytes.items other at || (nat_eq other l.core && is_stored (take l.byte-index l.stored) at))
