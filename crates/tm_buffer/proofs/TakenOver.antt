-- A buffer that takes over the next line of another.
use Rattle.std.proofs.Common.{◌≡◌, ℕ, ◌+◌, ◌*◌, ◌/◌, ◌%◌, ◌<◌, Bool, true, false, cond, eqb, List, [], ◌∷◌, ◌++◌}
use Rattle.std.proofs.Common.{length, take, get_or, set, refl, sym, ap, ◌∙◌, ⊎_elim, arith, Option, Some, None}
use Rattle.std.proofs.lemmas.Bool.{cases_eq, eq-eqb, ne_eqb}
use Rattle.std.proofs.lemmas.List.{get_or_push, get_or-take, get_or-set_same, get_or-set_other}
use Rattle.std.specs.Int.{bit_at}
use Rattle.std.specs.Option.{option_and_then, is_some}
use Rattle.std.specs.FinMap as bytes_map
use Rattle.tm_buffer.specs.Buffer.{Bytes, place_of}
use Rattle.tm_buffer.specs.Slots.{AtItsPlace, bytes_of, slot_byte}
use Rattle.tm_buffer.proofs.Places.{StandsAt, none_of, or_at, place_in, place_none, place_push}
use Rattle.tm_buffer.proofs.Entries.{get_bytes}

-- no byte lies off the lines
pub off_lines : (lines masks bytes : List ℕ) (q : ℕ) → is_some (place_of lines (q / 64)) ≡ false
    → bytes_map.get (bytes_of lines masks bytes) q ≡ None
off_lines lines masks bytes q none =
    get_bytes lines masks bytes q ∙ ap (option_and_then (slot_byte masks bytes (q % 64))) (none_of lines (q / 64) none)

-- where the one begins as the other, the other's next line is none of its own
pub next_is_new : (xs ys : List ℕ) → AtItsPlace ys → xs ≡ take (length xs) ys → length xs < length ys
    → place_of xs (get_or ys (length xs) 0) ≡ None
next_is_new xs ys own front more = place_none xs (get_or ys (length xs) 0) (λ i b e.
    let at : get_or xs i 0 ≡ get_or ys i 0 = ap (λ zs. get_or zs i 0) front ∙ get_or-take (length xs) ys i 0 b in
    let below : i < length ys = omega arith in
    let same : Some i ≡ Some (length xs) = sym (own i below) ∙ ap (place_of ys) (sym at ∙ e) ∙ own (length xs) more in
    let number : i ≡ length xs = cc in
    omega arith)

-- a line came last, and its place has the mask and the bytes that it has in the other buffer
module _ (order lines masks bytes others marks stored now : List ℕ) (part whole : Bytes) (n mark : ℕ)
    (own : AtItsPlace others) (more : n < length others) (count : length order ≡ n)
    (lines_are : lines ≡ order ++ get_or others n 0 ∷ []) (room : n < length masks) (mark_is : mark ≡ get_or marks n 0)
    (now_is : (q : ℕ) → get_or now q 0 ≡ cond (eqb (q / 64) n) (get_or stored q 0) (get_or bytes q 0))
    (part_is : bytes_of lines masks bytes ≡ part) (whole_is : bytes_of others marks stored ≡ whole)
    (is_part :
    (q : ℕ) → bytes_map.get part q ≡ cond (is_some (place_of order (q / 64))) (bytes_map.get whole q) None) where
  abbrev byte_by : ℕ → ℕ → ℕ → Option ℕ
  byte_by mask offset byte = cond (eqb (bit_at mask offset) 1) (Some byte) None

  none_some : (k : ℕ) → None ≡ Some k → ⊥
  none_some k e = cc

  -- on the new line
  at_new : (q k : ℕ) → place_of lines (q / 64) ≡ Some k → k ≡ n
      → slot_byte (set masks n mark) now (q % 64) k ≡ bytes_map.get whole q
  at_new q k is e =
      let here : StandsAt lines (q / 64) k = place_in lines (q / 64) k is in
      let line_is : q / 64 ≡ get_or others n 0 =
      sym here.is ∙ ap (λ xs. get_or xs k 0) lines_are ∙ get_or_push order (get_or others n 0) 0 k (count ∙ sym e) in
      let there : place_of others (q / 64) ≡ Some n = ap (place_of others) line_is ∙ own n more in
      let on : (n * 64 + q % 64) / 64 ≡ n = omega arith in
      ap (slot_byte (set masks n mark) now (q % 64)) e
      ∙ ap (λ m. byte_by m (q % 64) (get_or now (n * 64 + q % 64) 0)) (get_or-set_same masks n mark 0 room ∙ mark_is)
      ∙ ap (byte_by (get_or marks n 0) (q % 64)) (now_is (n * 64 + q % 64)
      ∙ ap (λ t. cond t (get_or stored (n * 64 + q % 64) 0) (get_or bytes (n * 64 + q % 64) 0))
      (eq-eqb ((n * 64 + q % 64) / 64) n on))
      ∙ sym (ap (λ m. bytes_map.get m q) (sym whole_is) ∙ get_bytes others marks stored q
      ∙ ap (option_and_then (slot_byte marks stored (q % 64))) there)

  -- a line that was there before
  was_there : (q k : ℕ) → place_of lines (q / 64) ≡ Some k → (k ≡ n → ⊥) → is_some (place_of order (q / 64)) ≡ true
  was_there q k is apart = either (eqb (get_or others n 0) (q / 64)) (place_of order (q / 64))
      (sym (place_push order (get_or others n 0) (q / 64)) ∙ ap (λ xs. place_of xs (q / 64)) (sym lines_are) ∙ is)
    where
      either : (b : Bool) (o : Option ℕ) → or_at b (length order) o ≡ Some k → is_some o ≡ true
      either true None e = let z : length order ≡ k = cc in absurd (apart (sym z ∙ count))
      either false None e = absurd (none_some k e)
      either b (Some j) e = refl

  at_old : (q k : ℕ) → place_of lines (q / 64) ≡ Some k → (k ≡ n → ⊥)
      → slot_byte (set masks n mark) now (q % 64) k ≡ bytes_map.get whole q
  at_old q k is apart =
      let off : (k * 64 + q % 64) / 64 ≡ n → ⊥ = λ e. apart (omega arith) in
      ap (λ m. byte_by m (q % 64) (get_or now (k * 64 + q % 64) 0)) (get_or-set_other masks n k mark 0 apart)
      ∙ ap (byte_by (get_or masks k 0) (q % 64)) (now_is (k * 64 + q % 64)
      ∙ ap (λ t. cond t (get_or stored (k * 64 + q % 64) 0) (get_or bytes (k * 64 + q % 64) 0))
      (ne_eqb ((k * 64 + q % 64) / 64) n off))
      ∙ sym (get_bytes lines masks bytes q ∙ ap (option_and_then (slot_byte masks bytes (q % 64))) is)
      ∙ ap (λ m. bytes_map.get m q) part_is ∙ is_part q
      ∙ ap (λ t. cond t (bytes_map.get whole q) None) (was_there q k is apart)

  pub copied : (q : ℕ) → bytes_map.get (bytes_of lines (set masks n mark) now) q
      ≡ cond (is_some (place_of lines (q / 64))) (bytes_map.get whole q) None
  copied q =
      elim (place_of lines (q / 64))
      as (λ o. place_of lines (q / 64) ≡ o
      → bytes_map.get (bytes_of lines (set masks n mark) now) q ≡ cond (is_some o) (bytes_map.get whole q) None) [
        | None ↦ λ is. get_bytes lines (set masks n mark) now q
            ∙ ap (option_and_then (slot_byte (set masks n mark) now (q % 64))) is
        | Some k ↦ λ is. get_bytes lines (set masks n mark) now q
            ∙ ap (option_and_then (slot_byte (set masks n mark) now (q % 64))) is
            ∙ ⊎_elim (λ (e : k ≡ n). at_new q k is e) (λ (e : k ≡ n → ⊥). at_old q k is e) (cases_eq k n)
      ] refl
