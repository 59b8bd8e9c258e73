use Rattle.std.proofs.Common.{◌≡◌, ℕ, take}
use Rattle.tm_page.specs.Applied.{is_listed}
use Rattle.page_telling.specs.Kept.{is_kept}
use Rattle.page_telling.proofs.kept.addresses_of.Given as goal

-- the addresses of the bytes so far are there
abbrev pub invariant-loop-byte : goal.invariant-loop-byte
invariant-loop-byte l =
    (address : ℕ) → is_listed l.row.items address ≡ is_kept (take l.byte-index l.bytes) l.core address
