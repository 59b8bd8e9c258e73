-- How the bytes are kept: the line at place k of the order has the mask at k, and the 64 bytes from 64 * k on.
use Rattle.std.specs.Prelude.{ℕ, ◌≡◌, ◌+◌, ◌*◌, ◌/◌, ◌%◌, ◌<◌, ◌≤◌, ◌==◌, List, [], ◌∷◌, ◌++◌, length, Option}
use Rattle.std.specs.Prelude.{Some, None, option_and_then, if◌then◌else◌, slice_index}
use Rattle.std.specs.List.{range_with_len}
use Rattle.std.specs.Int.{bit_at}
use Rattle.std.specs.FinMap as bytes_map
use Rattle.tm_buffer.specs.Buffer.{Bytes, place_of}

-- the byte at an offset of the line at a place
abbrev pub slot_byte : List ℕ → List ℕ → ℕ → ℕ → Option ℕ
slot_byte masks bytes offset place =
    if bit_at (slice_index masks place) offset == 1 then Some (slice_index bytes (place * 64 + offset)) else None

-- the byte stored at an address
abbrev pub found : List ℕ → List ℕ → List ℕ → ℕ → Option ℕ
found lines masks bytes address = option_and_then (slot_byte masks bytes (address % 64)) (place_of lines (address / 64))

abbrev pub entry_at : ℕ → Option ℕ → List (ℕ × ℕ) → List (ℕ × ℕ)
entry_at address None rest = rest
entry_at address (Some b) rest = (address, b) ∷ rest

abbrev pub entries_of : (ℕ → Option ℕ) → List ℕ → List (ℕ × ℕ)
entries_of f [] = []
entries_of f (q ∷ qs) = entry_at q (f q) (entries_of f qs)

-- all addresses of these lines
abbrev pub addresses : List ℕ → List ℕ
addresses [] = []
addresses (line ∷ lines) = range_with_len (line * 64) 64 ++ addresses lines

abbrev pub bytes_of : List ℕ → List ℕ → List ℕ → Bytes
bytes_of lines masks bytes = bytes_map.from_entries (entries_of (found lines masks bytes) (addresses lines))

-- no line has two places
abbrev pub AtItsPlace : List ℕ → Type 0
AtItsPlace lines = (k : ℕ) → k < length lines → place_of lines (slice_index lines k) ≡ Some k

-- the slot of the line at each place is below the room, and tells this place
pub record AreHeld (slots places : List ℕ) (room : ℕ) : Type 0 where
  pub tells : (k : ℕ) → k < length slots → slice_index places (slice_index slots k) ≡ k
  pub low : (k : ℕ) → k < length slots → slice_index slots k < room

pub record AreSlots (lines slots told marks stored : List ℕ) (room : ℕ) : Type 0 where
  pub at_its_place : AtItsPlace lines
  pub within : length lines ≤ room
  pub masks : length marks ≡ room
  pub bytes : length stored ≡ room * 64
  pub each : length slots ≡ length lines
  pub places : length told ≡ room
  pub held : AreHeld slots told room

-- two maps have the same bytes on a line
abbrev pub AreSameOn : Bytes → Bytes → ℕ → Type 0
AreSameOn m n line = (address : ℕ) → address / 64 ≡ line → bytes_map.get m address ≡ bytes_map.get n address

-- a map has no byte on a line
abbrev pub IsBareOn : Bytes → ℕ → Type 0
IsBareOn m line = (address : ℕ) → address / 64 ≡ line → bytes_map.get m address ≡ None
