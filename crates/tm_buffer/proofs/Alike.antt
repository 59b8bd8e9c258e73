-- Two buffers that have the same bytes on a line, and on all lines.
use Rattle.std.proofs.Common.{◌≡◌, ℕ, ◌+◌, ◌*◌, ◌/◌, ◌%◌, ◌^◌, ◌<◌, ◌↔◌, Bool, true, cond, eqb, List, length, get_or}
use Rattle.std.proofs.Common.{refl, sym, ap, ◌∙◌, subst, ⊎_elim, arith, Option, Some, None}
use Rattle.std.proofs.lemmas.Bool.{cases_eq, eq-eqb, ne_eqb, eqb-true, true≢false}
use Rattle.std.proofs.lemmas.Nat.Bits.{bit_at-lt, bit_at-zero, same_from_bits_below}
use Rattle.std.specs.Int.{bit_at}
use Rattle.std.specs.Option.{option_and_then, is_some}
use Rattle.std.specs.FinMap as bytes_map
use Rattle.tm_buffer.specs.Buffer.{Bytes, BufferValue, place_of}
use Rattle.tm_buffer.specs.Slots.{bytes_of, slot_byte, AreSameOn, IsBareOn}
use Rattle.tm_buffer.proofs.Places.{StandsAt, place_in}
use Rattle.tm_buffer.proofs.Entries.{get_bytes, same_bytes}

-- ---- what the map has on a line

get_on : (lines masks bytes : List ℕ) (line k q : ℕ) → q / 64 ≡ line → place_of lines line ≡ Some k
    → bytes_map.get (bytes_of lines masks bytes) q ≡ slot_byte masks bytes (q % 64) k
get_on lines masks bytes line k q on at =
    get_bytes lines masks bytes q ∙ ap (option_and_then (slot_byte masks bytes (q % 64))) (ap (place_of lines) on ∙ at)

get_off : (lines masks bytes : List ℕ) (line q : ℕ) → q / 64 ≡ line → place_of lines line ≡ None
    → bytes_map.get (bytes_of lines masks bytes) q ≡ None
get_off lines masks bytes line q on none =
    get_bytes lines masks bytes q
    ∙ ap (option_and_then (slot_byte masks bytes (q % 64))) (ap (place_of lines) on ∙ none)

-- ---- a byte that is there where its bit is set

abbrev byte_if : ℕ → ℕ → Option ℕ
byte_if bit byte = cond (eqb bit 1) (Some byte) None

none_some : (x : ℕ) → None ≡ Some x → ⊥
none_some x e = cc

some_some : (x y : ℕ) → Some x ≡ Some y → x ≡ y
some_some x y e = cc

if_set : (bit byte : ℕ) → bit ≡ 1 → byte_if bit byte ≡ Some byte
if_set bit byte e = ap (λ t. cond t (Some byte) None) (eq-eqb bit 1 e)

if_clear : (bit byte : ℕ) → (bit ≡ 1 → ⊥) → byte_if bit byte ≡ None
if_clear bit byte e = ap (λ t. cond t (Some byte) None) (ne_eqb bit 1 e)

same_if : (bit x y : ℕ) → (bit ≡ 1 → x ≡ y) → byte_if bit x ≡ byte_if bit y
same_if bit x y h = ⊎_elim
    (λ (e : bit ≡ 1). ap (byte_if bit) (h e))
    (λ (e : bit ≡ 1 → ⊥). if_clear bit x e ∙ sym (if_clear bit y e))
    (cases_eq bit 1)

same_bit : (b c x y : ℕ) → b < 2 → c < 2 → byte_if b x ≡ byte_if c y → b ≡ c
same_bit b c x y small low h = ⊎_elim
    (λ (e : b ≡ 1). ⊎_elim
    (λ (f : c ≡ 1). e ∙ sym f)
    (λ (f : c ≡ 1 → ⊥). absurd (none_some x (sym (if_clear c y f) ∙ sym h ∙ if_set b x e)))
    (cases_eq c 1))
    (λ (e : b ≡ 1 → ⊥). ⊎_elim
    (λ (f : c ≡ 1). absurd (none_some y (sym (if_clear b x e) ∙ h ∙ if_set c y f)))
    (λ (f : c ≡ 1 → ⊥). omega arith)
    (cases_eq c 1))
    (cases_eq b 1)

same_byte : (b c x y : ℕ) → b < 2 → c < 2 → byte_if b x ≡ byte_if c y → b ≡ 1 → x ≡ y
same_byte b c x y small low h e =
    some_some x y (sym (if_set b x e) ∙ h ∙ if_set c y (sym (same_bit b c x y small low h) ∙ e))

-- ---- a line that both have

-- 64 bytes are those of a place
abbrev pub IsCut : List ℕ → List ℕ → ℕ → Type 0
IsCut part bytes place = (o : ℕ) → o < 64 → get_or part o 0 ≡ get_or bytes (place * 64 + o) 0

pub same_line : (lines masks bytes others marks stored part cut : List ℕ) (line k at : ℕ)
    → place_of lines line ≡ Some k → place_of others line ≡ Some at → IsCut part bytes k → IsCut cut stored at
    → get_or masks k 0 ≡ get_or marks at 0
    → ((o : ℕ) → o < 64 → bit_at (get_or masks k 0) o ≡ 1 → get_or part o 0 ≡ get_or cut o 0)
    → AreSameOn (bytes_of lines masks bytes) (bytes_of others marks stored) line
same_line lines masks bytes others marks stored part cut line k at here there from start same each q on =
    let small : q % 64 < 64 = omega arith in
    get_on lines masks bytes line k q on here
    ∙ same_if (bit_at (get_or masks k 0) (q % 64)) (get_or bytes (k * 64 + q % 64) 0)
    (get_or stored (at * 64 + q % 64) 0)
    (λ bit. sym (from (q % 64) small) ∙ each (q % 64) small bit ∙ start (q % 64) small)
    ∙ ap (λ m. byte_if (bit_at m (q % 64)) (get_or stored (at * 64 + q % 64) 0)) same
    ∙ sym (get_on others marks stored line at q on there)

-- what the slots of a line have where the maps have the same
slots_same : (lines masks bytes others marks stored : List ℕ) (line k at o : ℕ)
    → place_of lines line ≡ Some k → place_of others line ≡ Some at → o < 64
    → AreSameOn (bytes_of lines masks bytes) (bytes_of others marks stored) line
    → slot_byte masks bytes o k ≡ slot_byte marks stored o at
slots_same lines masks bytes others marks stored line k at o here there small same =
    let on : (line * 64 + o) / 64 ≡ line = omega arith in
    let offset : (line * 64 + o) % 64 ≡ o = omega arith in
    ap (λ i. slot_byte masks bytes i k) (sym offset)
    ∙ sym (get_on lines masks bytes line k (line * 64 + o) on here)
    ∙ same (line * 64 + o) on
    ∙ get_on others marks stored line at (line * 64 + o) on there
    ∙ ap (λ i. slot_byte marks stored i at) offset

pub masks_same : (lines masks bytes others marks stored : List ℕ) (line k at : ℕ)
    → place_of lines line ≡ Some k → place_of others line ≡ Some at
    → get_or masks k 0 < 2 ^ 64 → get_or marks at 0 < 2 ^ 64
    → AreSameOn (bytes_of lines masks bytes) (bytes_of others marks stored) line
    → get_or masks k 0 ≡ get_or marks at 0
masks_same lines masks bytes others marks stored line k at here there fits low same =
    same_from_bits_below 64 (get_or masks k 0) (get_or marks at 0) fits low (λ o small.
    same_bit (bit_at (get_or masks k 0) o) (bit_at (get_or marks at 0) o) (get_or bytes (k * 64 + o) 0)
    (get_or stored (at * 64 + o) 0)
    (bit_at-lt (get_or masks k 0) o) (bit_at-lt (get_or marks at 0) o)
    (slots_same lines masks bytes others marks stored line k at o here there small same))

pub bytes_same : (lines masks bytes others marks stored part cut : List ℕ) (line k at : ℕ)
    → place_of lines line ≡ Some k → place_of others line ≡ Some at → IsCut part bytes k → IsCut cut stored at
    → AreSameOn (bytes_of lines masks bytes) (bytes_of others marks stored) line
    → (o : ℕ) → o < 64 → bit_at (get_or masks k 0) o ≡ 1 → get_or part o 0 ≡ get_or cut o 0
bytes_same lines masks bytes others marks stored part cut line k at here there from start same o small bit =
    from o small
    ∙ same_byte (bit_at (get_or masks k 0) o) (bit_at (get_or marks at 0) o) (get_or bytes (k * 64 + o) 0)
    (get_or stored (at * 64 + o) 0)
    (bit_at-lt (get_or masks k 0) o) (bit_at-lt (get_or marks at 0) o)
    (slots_same lines masks bytes others marks stored line k at o here there small same) bit
    ∙ sym (start o small)

-- ---- a line that one of them may not have

pub bare_line : (lines masks bytes : List ℕ) (line k : ℕ) → place_of lines line ≡ Some k → get_or masks k 0 ≡ 0
    → IsBareOn (bytes_of lines masks bytes) line
bare_line lines masks bytes line k here none q on =
    get_on lines masks bytes line k q on here
    ∙ ap (λ m. byte_if (bit_at m (q % 64)) (get_or bytes (k * 64 + q % 64) 0)) none
    ∙ ap (λ b. byte_if b (get_or bytes (k * 64 + q % 64) 0)) (bit_at-zero (q % 64))

pub no_line : (lines masks bytes : List ℕ) (line : ℕ) → place_of lines line ≡ None
    → IsBareOn (bytes_of lines masks bytes) line
no_line lines masks bytes line none q on = get_off lines masks bytes line q on none

pub no_mask : (lines masks bytes : List ℕ) (line k : ℕ) → place_of lines line ≡ Some k → get_or masks k 0 < 2 ^ 64
    → IsBareOn (bytes_of lines masks bytes) line → get_or masks k 0 ≡ 0
no_mask lines masks bytes line k here fits bare =
    same_from_bits_below 64 (get_or masks k 0) 0 fits (omega arith) (λ o small.
    let on : (line * 64 + o) / 64 ≡ line = omega arith in
    let offset : (line * 64 + o) % 64 ≡ o = omega arith in
    let empty : slot_byte masks bytes o k ≡ None =
    ap (λ i. slot_byte masks bytes i k) (sym offset) ∙ sym (get_on lines masks bytes line k (line * 64 + o) on here)
    ∙ bare (line * 64 + o) on in
    same_bit (bit_at (get_or masks k 0) o) (bit_at 0 o) (get_or bytes (k * 64 + o) 0) 0
    (bit_at-lt (get_or masks k 0) o) (bit_at-lt 0 o)
    (empty ∙ sym (ap (λ b. byte_if b 0) (bit_at-zero o))))

-- ---- what is answered of a line

-- both have it, and the same mask
pub both_answer : (r : Bool) (lines masks bytes others marks stored part cut : List ℕ) (line k at mask mark : ℕ)
    → place_of lines line ≡ Some k → place_of others line ≡ Some at → IsCut part bytes k → IsCut cut stored at
    → mask ≡ get_or masks k 0 → mark ≡ get_or marks at 0 → mask ≡ mark
    → ((r ≡ true) ↔ ((o : ℕ) → o < 64 → bit_at mask o ≡ 1 → get_or part o 0 ≡ get_or cut o 0))
    → (r ≡ true) ↔ AreSameOn (bytes_of lines masks bytes) (bytes_of others marks stored) line
both_answer r lines masks bytes others marks stored part cut line k at mask mark here there from start is was same h = (
  λ t. same_line lines masks bytes others marks stored part cut line k at here there from start (sym is ∙ same ∙ was)
      (λ o small bit. h.0 t o small (ap (λ m. bit_at m o) is ∙ bit)),
  λ s. h.1 (λ o small bit. bytes_same lines masks bytes others marks stored part cut line k at here there
      from start s o small
      (ap (λ m. bit_at m o) (sym is) ∙ bit)),
)

-- both have it, and their masks are not the same
pub masks_answer : (lines masks bytes others marks stored : List ℕ) (line k at mask mark : ℕ)
    → place_of lines line ≡ Some k → place_of others line ≡ Some at
    → mask ≡ get_or masks k 0 → mark ≡ get_or marks at 0 → mask < 2 ^ 64 → mark < 2 ^ 64 → (mask ≡ mark → ⊥)
    → (eqb mask mark ≡ true) ↔ AreSameOn (bytes_of lines masks bytes) (bytes_of others marks stored) line
masks_answer lines masks bytes others marks stored line k at mask mark here there is was fits low apart = (
  λ t. absurd (apart (eqb-true mask mark t)),
  λ s. absurd (apart (is ∙ masks_same lines masks bytes others marks stored line k at here there
      (subst (λ n. n < 2 ^ 64) is fits) (subst (λ n. n < 2 ^ 64) was low) s ∙ sym was)),
)

-- one has it
pub one_answer : (lines masks bytes others marks stored : List ℕ) (line k mask : ℕ)
    → place_of lines line ≡ Some k → place_of others line ≡ None → mask ≡ get_or masks k 0 → mask < 2 ^ 64
    → (eqb mask 0 ≡ true) ↔ AreSameOn (bytes_of lines masks bytes) (bytes_of others marks stored) line
one_answer lines masks bytes others marks stored line k mask here none is fits = (
  λ t q on. bare_line lines masks bytes line k here (sym is ∙ eqb-true mask 0 t) q on
      ∙ sym (no_line others marks stored line none q on),
  λ s. eq-eqb mask 0 (is ∙ no_mask lines masks bytes line k here (subst (λ n. n < 2 ^ 64) is fits)
      (λ q on. s q on ∙ no_line others marks stored line none q on)),
)

-- it has no byte
pub bare_answer : (lines masks bytes others : List ℕ) (line k mask : ℕ)
    → place_of lines line ≡ Some k → mask ≡ get_or masks k 0 → mask ≡ 0
    → (eqb mask 0 ≡ true) ↔ (place_of others line ≡ None → IsBareOn (bytes_of lines masks bytes) line)
bare_answer lines masks bytes others line k mask here is none =
    (λ _ _. bare_line lines masks bytes line k here (sym is ∙ none), λ _. eq-eqb mask 0 none)

-- it has a byte
pub held_answer : (r : Bool) (lines masks bytes others : List ℕ) (line k mask : ℕ)
    → place_of lines line ≡ Some k → mask ≡ get_or masks k 0 → mask < 2 ^ 64 → (mask ≡ 0 → ⊥)
    → r ≡ is_some (place_of others line)
    → (r ≡ true) ↔ (place_of others line ≡ None → IsBareOn (bytes_of lines masks bytes) line)
held_answer r lines masks bytes others line k mask here is fits some found =
    elim (place_of others line)
    as (λ o. r ≡ is_some o → (r ≡ true) ↔ (o ≡ None → IsBareOn (bytes_of lines masks bytes) line)) [
      | None ↦ λ e. (
        λ t. absurd (true≢false (sym t ∙ e)),
        λ bare.
            absurd (some (is ∙ no_mask lines masks bytes line k here (subst (λ n. n < 2 ^ 64) is fits) (bare refl))),
      )
      | Some j ↦ λ e. (λ _ n. absurd (none_some j (sym n)), λ _. e)
    ] found

-- the same of the buffers as they are seen
pub same_seen : (r : Bool) (place : ℕ) (a v b w : BufferValue) → a ≡ v → b ≡ w
    → ((r ≡ true) ↔ AreSameOn a.bytes b.bytes (get_or a.order place 0))
    → (r ≡ true) ↔ AreSameOn v.bytes w.bytes (get_or v.order place 0)
same_seen r place a v b w e f h =
    subst (λ x. (r ≡ true) ↔ AreSameOn x.bytes w.bytes (get_or x.order place 0)) e
    (subst (λ y. (r ≡ true) ↔ AreSameOn a.bytes y.bytes (get_or a.order place 0)) f h)

pub bare_seen : (r : Bool) (place : ℕ) (a v b w : BufferValue) → a ≡ v → b ≡ w
    → ((r ≡ true) ↔ (place_of b.order (get_or a.order place 0) ≡ None → IsBareOn a.bytes (get_or a.order place 0)))
    → (r ≡ true) ↔ (place_of w.order (get_or v.order place 0) ≡ None → IsBareOn v.bytes (get_or v.order place 0))
bare_seen r place a v b w e f h =
    subst
    (λ x. (r ≡ true) ↔ (place_of w.order (get_or x.order place 0) ≡ None → IsBareOn x.bytes (get_or x.order place 0))) e
    (subst
    (λ y. (r ≡ true) ↔ (place_of y.order (get_or a.order place 0) ≡ None → IsBareOn a.bytes (get_or a.order place 0))) f
    h)

pub rest_seen : (a v : BufferValue) → a ≡ v → ((line : ℕ) → place_of a.order line ≡ None → IsBareOn a.bytes line)
    → (line : ℕ) → place_of v.order line ≡ None → IsBareOn v.bytes line
rest_seen a v e h = subst (λ x. (line : ℕ) → place_of x.order line ≡ None → IsBareOn x.bytes line) e h

-- ---- all lines

-- each line of an order
abbrev pub EachLine : List ℕ → (ℕ → Type 0) → Type 0
EachLine order P = (place : ℕ) → place < length order → P (get_or order place 0)

pub all_same : (lines others : List ℕ) (m n : Bytes)
    → ((line : ℕ) → place_of lines line ≡ None → IsBareOn m line)
    → ((line : ℕ) → place_of others line ≡ None → IsBareOn n line)
    → EachLine lines (AreSameOn m n) → EachLine others (λ line. place_of lines line ≡ None → IsBareOn n line) → m ≡ n
all_same lines others m n bare none each rest = same_bytes m n (λ q.
    elim (place_of lines (q / 64)) as (λ o. place_of lines (q / 64) ≡ o → bytes_map.get m q ≡ bytes_map.get n q) [
      | Some k ↦ λ at.
          let s : StandsAt lines (q / 64) k = place_in lines (q / 64) k at in
          each k s.below q (sym s.is)
      | None ↦ λ at. bare (q / 64) at q refl
          ∙ sym (elim (place_of others (q / 64)) as (λ o. place_of others (q / 64) ≡ o → bytes_map.get n q ≡ None) [
            | Some j ↦ λ there.
                let s : StandsAt others (q / 64) j = place_in others (q / 64) j there in
                rest j s.below (ap (place_of lines) s.is ∙ at) q (sym s.is)
            | None ↦ λ there. none (q / 64) there q refl
          ] refl)
    ] refl)
