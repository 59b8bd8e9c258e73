-- Memory as gdb reads it (gdb manual, appendix E.2, `m`): as the selected core sees it.
use Rattle.std.specs.Prelude.{ℕ, ◌+◌, ◌^◌, ◌&&◌, Bool, if◌then◌else◌, List, [], ◌∷◌, codes, length, nat_le}
use Rattle.std.specs.List.{flat_map, range_with_len}
use Rattle.hex.specs.Hex.{encode_lower}
use Rattle.tm_core.specs.Seen.{byte_seen}
use Rattle.tm_core.specs.Theorem.{ShownMachine}

-- two digits a byte
abbrev pub bytes_text : ShownMachine → ℕ → ℕ → ℕ → List ℕ
bytes_text machine core at count =
    flat_map (λ address. encode_lower (byte_seen machine core address ∷ [])) (range_with_len at count)

-- all of the bytes are memory's, at addresses of 32 bits, and there is room for them
abbrev pub is_readable : ShownMachine → ℕ → ℕ → Bool
is_readable machine at count =
    nat_le (at + count) (length machine.memory) && nat_le (at + count) (2 ^ 32) && nat_le count 8192

-- E14 is EFAULT
abbrev pub memory_text : ShownMachine → ℕ → ℕ → ℕ → List ℕ
memory_text machine core at count =
    if is_readable machine at count then bytes_text machine core at count else codes "E14"
