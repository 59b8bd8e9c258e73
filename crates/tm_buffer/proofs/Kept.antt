-- What becomes of the map when the slots change.
use Rattle.std.proofs.Common.{◌≡◌, ℕ, ◌+◌, ◌*◌, ◌/◌, ◌%◌, ◌^◌, ◌<◌, true, false, cond, eqb, List, [], ◌∷◌, ◌++◌, length}
use Rattle.std.proofs.Common.{get_or, set, refl, sym, ap, ◌∙◌, ⊎_elim, arith, Some, None}
use Rattle.std.proofs.lemmas.Bool.{cases_eq, eq-eqb, ne_eqb}
use Rattle.std.proofs.lemmas.List.{get_or-set_same, get_or-set_other}
use Rattle.std.proofs.lemmas.Nat.Bits.{bit_at_set_same, bit_at_set_other, bit_at-zero}
use Rattle.std.specs.Int.{bit_at, w64}
use Rattle.std.specs.Int.RustNames.{bit_or}
use Rattle.std.specs.Option.{option_and_then}
use Rattle.std.specs.FinMap as bytes_map
use Rattle.tm_buffer.specs.Buffer.{place_of}
use Rattle.tm_buffer.specs.Slots.{found, slot_byte, bytes_of}
use Rattle.tm_buffer.proofs.Places.{place_push, or_at, place_in, StandsAt}
use Rattle.tm_buffer.proofs.Entries.{get_bytes, get_insert, same_bytes}

-- a new slot with an empty mask has no byte
pub found_taken : (lines masks bytes : List ℕ) (l q : ℕ) → length lines < length masks
    → found (lines ++ l ∷ []) (set masks (length lines) 0) bytes q ≡ found lines masks bytes q
found_taken lines masks bytes l q room =
    ap (option_and_then (slot_byte (set masks (length lines) 0) bytes (q % 64))) (place_push lines l (q / 64))
    ∙ elim (place_of lines (q / 64))
    as (λ o. place_of lines (q / 64) ≡ o
    → option_and_then (slot_byte (set masks (length lines) 0) bytes (q % 64)) (or_at (eqb l (q / 64)) (length lines) o)
    ≡ option_and_then (slot_byte masks bytes (q % 64)) o) [
      | None ↦ λ _. elim (eqb l (q / 64)) as (λ t. option_and_then (slot_byte (set masks (length lines) 0) bytes
          (q % 64)) (cond t (Some (length lines)) None) ≡ None) [
            | true ↦
                ap (λ m. cond (eqb (bit_at m (q % 64)) 1) (Some (get_or bytes (length lines * 64 + q % 64) 0)) None)
                (get_or-set_same masks (length lines) 0 0 room)
                ∙ ap (λ b. cond (eqb b 1) (Some (get_or bytes (length lines * 64 + q % 64) 0)) None)
                (bit_at-zero (q % 64))
            | false ↦ refl
          ]
      | Some k ↦ λ is. let s : StandsAt lines (q / 64) k = place_in lines (q / 64) k is in
          ap (λ m. cond (eqb (bit_at m (q % 64)) 1) (Some (get_or bytes (k * 64 + q % 64) 0)) None)
          (get_or-set_other masks (length lines) k 0 0 (λ e. omega (arith, s.below)))
    ] refl

pub bytes_taken : (lines masks bytes : List ℕ) (l : ℕ) → length lines < length masks
    → bytes_of (lines ++ l ∷ []) (set masks (length lines) 0) bytes ≡ bytes_of lines masks bytes
bytes_taken lines masks bytes l room = same_bytes _ _
    (λ q. get_bytes (lines ++ l ∷ []) (set masks (length lines) 0) bytes q ∙ found_taken lines masks bytes l q room
    ∙ sym (get_bytes lines masks bytes q))

abbrev pub marked : ℕ → ℕ → ℕ
marked mask offset = bit_or mask (1 * 2 ^ offset % 2 ^ 64)

-- a byte that is written to a slot
pub bytes_written : (lines masks bytes : List ℕ) (a v k : ℕ)
    → place_of lines (a / 64) ≡ Some k → k < length masks → k * 64 + a % 64 < length bytes
    → bytes_of lines (set masks k (marked (get_or masks k 0) (a % 64))) (set bytes (k * 64 + a % 64) v)
    ≡ bytes_map.insert (bytes_of lines masks bytes) a v
bytes_written lines masks bytes a v k at in_masks in_bytes = same_bytes _ _ (λ q.
    get_bytes lines (set masks k mark) (set bytes (k * 64 + a % 64) v) q
    ∙ at_each q
    ∙ sym
    (get_insert (bytes_of lines masks bytes) a v q ∙ ap (cond (eqb q a) (Some v)) (get_bytes lines masks bytes q)))
  where
    mark : ℕ
    mark = marked (get_or masks k 0) (a % 64)

    at_each : (q : ℕ)
        → found lines (set masks k mark) (set bytes (k * 64 + a % 64) v) q
        ≡ cond (eqb q a) (Some v) (found lines masks bytes q)
    at_each q = ⊎_elim
        (λ (same : q / 64 ≡ a / 64). ap (λ l.
        option_and_then (slot_byte (set masks k mark) (set bytes (k * 64 + a % 64) v) (q % 64)) (place_of lines l)) same
        ∙ ap (option_and_then (slot_byte (set masks k mark) (set bytes (k * 64 + a % 64) v) (q % 64))) at
        ∙ in_slot q same
        ∙ sym (ap (λ o. cond (eqb q a) (Some v) (option_and_then (slot_byte masks bytes (q % 64)) o))
        (ap (place_of lines) same ∙ at)))
        (λ (other : q / 64 ≡ a / 64 → ⊥). off_line q other
        ∙ sym (ap (λ t. cond t (Some v) (found lines masks bytes q)) (ne_eqb q a (λ e. other (ap (λ n. n / 64) e)))))
        (cases_eq (q / 64) (a / 64))
      where
        in_slot : (p : ℕ) → p / 64 ≡ a / 64
            → slot_byte (set masks k mark) (set bytes (k * 64 + a % 64) v) (p % 64) k
            ≡ cond (eqb p a) (Some v) (slot_byte masks bytes (p % 64) k)
        in_slot p same = ⊎_elim
            (λ (e : p % 64 ≡ a % 64). let p_is : p ≡ a = omega arith in
            ap (λ n. slot_byte (set masks k mark) (set bytes (k * 64 + a % 64) v) n k) e
            ∙ ap
            (λ m. cond (eqb (bit_at m (a % 64)) 1) (Some (get_or (set bytes (k * 64 + a % 64) v) (k * 64 + a % 64) 0))
            None) (get_or-set_same masks k mark 0 in_masks)
            ∙ ap (λ b. cond (eqb b 1) (Some (get_or (set bytes (k * 64 + a % 64) v) (k * 64 + a % 64) 0)) None)
            (bit_at_set_same w64 (get_or masks k 0) (a % 64) (omega arith))
            ∙ ap Some (get_or-set_same bytes (k * 64 + a % 64) v 0 in_bytes)
            ∙ sym (ap (λ t. cond t (Some v) (slot_byte masks bytes (p % 64) k)) (eq-eqb p a p_is)))
            (λ (e : p % 64 ≡ a % 64 → ⊥).
            ap
            (λ m. cond (eqb (bit_at m (p % 64)) 1) (Some (get_or (set bytes (k * 64 + a % 64) v) (k * 64 + p % 64) 0))
            None) (get_or-set_same masks k mark 0 in_masks)
            ∙ ap (λ b. cond (eqb b 1) (Some (get_or (set bytes (k * 64 + a % 64) v) (k * 64 + p % 64) 0)) None)
            (bit_at_set_other w64 (get_or masks k 0) (a % 64) (omega arith) (p % 64) e)
            ∙ ap (λ x. cond (eqb (bit_at (get_or masks k 0) (p % 64)) 1) (Some x) None)
            (get_or-set_other bytes (k * 64 + a % 64) (k * 64 + p % 64) v 0 (λ i. e (omega arith)))
            ∙ sym
            (ap (λ t. cond t (Some v) (slot_byte masks bytes (p % 64) k)) (ne_eqb p a (λ i. e (ap (λ n. n % 64) i)))))
            (cases_eq (p % 64) (a % 64))

        off_line : (p : ℕ) → (p / 64 ≡ a / 64 → ⊥)
            → found lines (set masks k mark) (set bytes (k * 64 + a % 64) v) p ≡ found lines masks bytes p
        off_line p other =
            elim (place_of lines (p / 64))
            as (λ o. place_of lines (p / 64) ≡ o
            → option_and_then (slot_byte (set masks k mark) (set bytes (k * 64 + a % 64) v) (p % 64)) o
            ≡ option_and_then (slot_byte masks bytes (p % 64)) o) [
              | None ↦ λ _. refl
              | Some j ↦ λ is.
                  let here : StandsAt lines (p / 64) j = place_in lines (p / 64) j is in
                  let there : StandsAt lines (a / 64) k = place_in lines (a / 64) k at in
                  let apart : j ≡ k → ⊥ = λ e. other (sym here.is ∙ ap (λ n. get_or lines n 0) e ∙ there.is) in
                  ap (λ m. cond (eqb (bit_at m (p % 64)) 1)
                  (Some (get_or (set bytes (k * 64 + a % 64) v) (j * 64 + p % 64) 0)) None)
                  (get_or-set_other masks k j mark 0 apart)
                  ∙ ap (λ x. cond (eqb (bit_at (get_or masks j 0) (p % 64)) 1) (Some x) None)
                  (get_or-set_other bytes (k * 64 + a % 64) (j * 64 + p % 64) v 0 (λ i. apart (omega arith)))
            ] refl
