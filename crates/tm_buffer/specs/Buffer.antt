-- A buffer as its callers see it: a map from addresses to bytes, and the lines of these bytes.
use Rattle.std.specs.Prelude.{ℕ, ◌≡◌, ◌+◌, ◌<◌, ◌==◌, Bool, List, [], ◌∷◌, ◌++◌, map, length, refl, Option, Some, None}
use Rattle.std.specs.Prelude.{IsSome, is_some, if◌then◌else◌, nat_eq, option_map, unwrap_or, slice_index}
use Rattle.std.specs.Prelude.{slice_index_or}
use Rattle.std.specs.List.{range_with_len}
use Rattle.std.specs.Ordering.{nat_cmp}
use Rattle.std.specs.Coded.{Coded, code_by, coded×, coded_ℕ, coded_list}
use Rattle.std.specs.FinMap as bytes_map
use Rattle.std.specs.FinSet as set
use Rattle.ia_word.specs.declared.width.Width.{Width}
use Rattle.ia_word.specs.Line.{line, last_line}
pub use Rattle.ia_word.specs.Operand.{operand_bytes, operand_of, placed_bytes}

abbrev pub Bytes : Type 0
Bytes = bytes_map.FinMap nat_cmp ℕ

abbrev pub Lines : Type 0
Lines = set.FinSet nat_cmp

-- the stored bytes, the lines that they are on in the order of each line's first store, the slot that each of these
-- lines holds, and how many lines there is room for
pub record BufferValue : Type 0 where
  pub bytes : Bytes
  pub order : List ℕ
  pub slots : List ℕ
  pub room : ℕ

abbrev pub buffer_code : Coded BufferValue
buffer_code =
    code_by (Bytes × (List ℕ × (List ℕ × ℕ)))
    (coded× (bytes_map.code coded_ℕ coded_ℕ) (coded× (coded_list coded_ℕ) (coded× (coded_list coded_ℕ) coded_ℕ)))
    (λ h. (h.bytes, (h.order, (h.slots, h.room))))
    (λ p. record { bytes = p.0; order = p.1.0; slots = p.1.1.0; room = p.1.1.1 }) (λ _. refl)

-- a map with these bytes put in
abbrev pub with_bytes : Bytes → List (ℕ × ℕ) → Bytes
with_bytes m [] = m
with_bytes m (e ∷ es) = bytes_map.insert (with_bytes m es) e.0 e.1

-- these bytes of memory, with the stored bytes laid over them
abbrev pub laid_over : Bytes → ℕ → List ℕ → List ℕ
laid_over m address [] = []
laid_over m address (b ∷ bs) = unwrap_or (bytes_map.get m address) b ∷ laid_over m (address + 1) bs

-- memory with the stored bytes written to it
abbrev pub memory_with : Bytes → List ℕ → List ℕ
memory_with m memory =
    map (λ address. unwrap_or (bytes_map.get m address) (slice_index memory address))
    (range_with_len 0 (length memory))

-- each stored byte is below the end of memory
abbrev pub Fits : Bytes → ℕ → Type 0
Fits m size = (address : ℕ) → IsSome (bytes_map.get m address) → address < size

-- the lines of an order
abbrev pub lines_of : List ℕ → Lines
lines_of order = set.from_list order

-- where a line stands in the order, or a slot among the slots
abbrev pub place_of : List ℕ → ℕ → Option ℕ
place_of [] line = None
place_of (x ∷ xs) line = if nat_eq x line then Some 0 else option_map (λ k. k + 1) (place_of xs line)

-- the line is in the order
abbrev pub holds : List ℕ → ℕ → Bool
holds order line = is_some (place_of order line)

-- the order after a store to this line, and to these lines
abbrev pub with_line : List ℕ → ℕ → List ℕ
with_line order line = if holds order line then order else order ++ line ∷ []

abbrev pub with_lines : List ℕ → List ℕ → List ℕ
with_lines order [] = order
with_lines order (l ∷ ls) = with_lines (with_line order l) ls

-- each line that holds a slot keeps it
abbrev pub Keep : List ℕ → List ℕ → Type 0
Keep before after = (slot : ℕ) → IsSome (place_of before slot) → place_of after slot ≡ place_of before slot

-- the same lines in the same order, with the same slots and room for as many: at most bytes on them differ
abbrev pub AreSameLines : BufferValue → BufferValue → Type 0
AreSameLines before after =
    (after.order ≡ before.order) × (after.slots ≡ before.slots) × (after.room ≡ before.room)

-- The slot given for a line is below the room. Where the line is new the slot is not in use,
-- and else the line holds it.
abbrev pub IsSlotOf : BufferValue → ℕ → Option ℕ → Type 0
IsSlotOf buffer line None = ⊥
IsSlotOf buffer line (Some slot) = (slot < buffer.room) × (place_of buffer.order line ≡ place_of buffer.slots slot)

-- the same, or no slot is given for a line that is new
abbrev pub IsSlotOrNone : BufferValue → ℕ → Option ℕ → Type 0
IsSlotOrNone buffer line None = place_of buffer.order line ≡ None
IsSlotOrNone buffer line (Some slot) = IsSlotOf buffer line (Some slot)

-- the slots given for the first and the last line of an access
abbrev pub first_slot : List (Option ℕ) → Option ℕ
first_slot given = slice_index_or given 0 None

abbrev pub last_slot : List (Option ℕ) → Option ℕ
last_slot given = slice_index_or given 1 None

-- the numbers of the slots given for the lines of an access, one or two
abbrev pub slots_for : ℕ → Width → List (Option ℕ) → List ℕ
slots_for address width given =
    unwrap_or (first_slot given) 0
    ∷ (if last_line address width == line address then [] else unwrap_or (last_slot given) 0 ∷ [])

-- of another's bytes a buffer has those on its own lines, and no others
abbrev pub IsPartOf : BufferValue → BufferValue → Type 0
IsPartOf part whole =
    (address : ℕ) → bytes_map.get part.bytes address
    ≡ (if holds part.order (line address) then bytes_map.get whole.bytes address else None)
