-- Reading from left to right: what stands in front and the bytes behind it, or nothing where the bytes end too early
-- (DWARF version 5, section 7.6, "Variable Length Data").
use Rattle.std.specs.Prelude.{◌≡◌, ℕ, ◌+◌, ◌-◌, ◌*◌, ◌%◌, ◌^◌, zero, suc, Bool, true, false, ◌&&◌, List, [], ◌∷◌}
use Rattle.std.specs.Prelude.{length, take, drop, Option, Some, None, nat_lt, nat_le, if◌then◌else◌}
use Rattle.std.specs.Int.{w16, w32, from_le_bytes}

infixl 10 ◌>>=◌
abbrev pub ◌>>=◌ : {A B : Type 0} → Option A → (A → Option B) → Option B
None >>= f = None
(Some x) >>= f = f x

abbrev pub Read : Type 0 → Type 0
Read A = Option (A × List ℕ)

-- what a function returned, seen by view, is what reading gives
abbrev pub Gives : {X Y : Type 0} → (X → Y) → Option X → Option Y → Type 0
Gives view None read = read ≡ None
Gives view (Some x) read = read ≡ Some (view x)

abbrev pub byte_at : List ℕ → Read ℕ
byte_at [] = None
byte_at (b ∷ rest) = Some (b, rest)

abbrev pub half_at : List ℕ → Read ℕ
half_at bytes = if nat_lt (length bytes) 2 then None else Some (from_le_bytes w16 (take 2 bytes), drop 2 bytes)

abbrev pub word_at : List ℕ → Read ℕ
word_at bytes = if nat_lt (length bytes) 4 then None else Some (from_le_bytes w32 (take 4 bytes), drop 4 bytes)

-- so many bytes
abbrev pub block_at : ℕ → List ℕ → Read (List ℕ)
block_at count bytes = if nat_lt (length bytes) count then None else Some (take count bytes, drop count bytes)

-- the last byte of a number: its high bit is clear; of a signed one the next bit is the sign, here modulo 2^32
abbrev pub last_of : Bool → ℕ → ℕ
last_of signed b = if signed && nat_le 64 b then b + 4294967168 else b

-- a number of seven bits a byte, the lowest first (LEB128), of so many bytes at most, modulo 2^32
abbrev pub leb_at : ℕ → Bool → List ℕ → Read ℕ
leb_at zero signed bytes = None
leb_at (suc more) signed bytes = byte_at bytes >>= λ b.
    if nat_lt b.0 128 then Some (last_of signed b.0, b.1)
    else (leb_at more signed b.1 >>= λ n. Some ((n.0 * 128 % 2 ^ 32 + (b.0 - 128)) % 2 ^ 32, n.1))

-- a number of at most ten bytes, which hold 64 bits
unfoldable pub unsigned_at : List ℕ → Read ℕ
unsigned_at bytes = leb_at 10 false bytes

unfoldable pub signed_at : List ℕ → Read ℕ
signed_at bytes = leb_at 10 true bytes
