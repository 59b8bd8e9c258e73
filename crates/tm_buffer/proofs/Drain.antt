-- Memory, while the bytes of slots are written to it.
use Rattle.std.proofs.Common.{◌≡◌, ℕ, ◌+◌, ◌*◌, ◌/◌, ◌%◌, ◌<◌, ◌≤◌, Bool, true, false, cond, eqb, ltb, ◌&&◌, List}
use Rattle.std.proofs.Common.{length, map, get_or, Option, Some, None, refl, sym, ap, ◌∙◌, ⊎_elim, arith}
use Rattle.std.proofs.lemmas.Bool.{cases_eq, cases_lt, eq-eqb, ne_eqb, lt-ltb, le-ltb}
use Rattle.std.proofs.lemmas.List.{ext_get_or}
use Rattle.std.proofs.lemmas.List.FromFn.{length-map-range_with_len, get_or-map-range_with_len}
use Rattle.std.specs.Int.{bit_at}
use Rattle.std.specs.List.{range_with_len}
use Rattle.std.specs.Option.{unwrap_or, option_and_then, is_some}
use Rattle.std.specs.FinMap as bytes_map
use Rattle.tm_buffer.specs.Buffer.{place_of, memory_with, Fits}
use Rattle.tm_buffer.specs.Slots.{found, slot_byte, bytes_of, AtItsPlace}
use Rattle.tm_buffer.proofs.Places.{place_in, StandsAt}
use Rattle.tm_buffer.proofs.Entries.{get_bytes}

abbrev pub memory_with_at : ℕ → (ℕ → Option ℕ) → ℕ → Option ℕ → ℕ
memory_with_at n f old None = old
memory_with_at n f old (Some k) = cond (ltb k n) (unwrap_or (f k) old) old

-- a byte of memory, after the lines at places below n were written to it
abbrev pub memory_with_below : List ℕ → List ℕ → List ℕ → List ℕ → ℕ → ℕ → ℕ
memory_with_below lines masks bytes old n q =
    memory_with_at n (slot_byte masks bytes (q % 64)) (get_or old q 0) (place_of lines (q / 64))

pub drain_none : (lines masks bytes old : List ℕ) (q : ℕ) → get_or old q 0 ≡ memory_with_below lines masks bytes old 0 q
drain_none lines masks bytes old q =
    elim (place_of lines (q / 64))
    as (λ o. get_or old q 0 ≡ memory_with_at 0 (slot_byte masks bytes (q % 64)) (get_or old q 0) o) [
      | None ↦ refl
      | Some k ↦ sym (ap (λ t. cond t (unwrap_or (slot_byte masks bytes (q % 64) k) (get_or old q 0)) (get_or old q 0))
          (le-ltb k 0 (omega arith)))
    ]

pub drain_next : (lines masks bytes old part m after : List ℕ) (n line mask : ℕ) → AtItsPlace lines → n < length lines
    → line ≡ get_or lines n 0 → mask ≡ get_or masks n 0
    → ((i : ℕ) → i < 64 → get_or part i 0 ≡ get_or bytes (n * 64 + i) 0)
    → ((q : ℕ) → get_or m q 0 ≡ memory_with_below lines masks bytes old n q)
    → ((q : ℕ)
    → get_or after q 0
    ≡ cond (eqb (q / 64) line && eqb (bit_at mask (q % 64)) 1) (get_or part (q % 64) 0) (get_or m q 0))
    → (q : ℕ) → get_or after q 0 ≡ memory_with_below lines masks bytes old (n + 1) q
drain_next lines masks bytes old part m after n line mask places below line_is mask_is cut before next q =
    next q ∙ ⊎_elim
    (λ (here : q / 64 ≡ line).
    let place : place_of lines (q / 64) ≡ Some n = ap (place_of lines) (here ∙ line_is) ∙ places n below in
    let unchanged : get_or m q 0 ≡ x =
    before q ∙ ap (memory_with_at n f x) place ∙ ap (λ t. cond t (unwrap_or (f n) x) x) (le-ltb n n (omega arith)) in
    ap (λ t. cond (t && eqb (bit_at mask (q % 64)) 1) (get_or part (q % 64) 0) (get_or m q 0))
    (eq-eqb (q / 64) line here)
    ∙ ap (λ k. cond (eqb (bit_at k (q % 64)) 1) (get_or part (q % 64) 0) (get_or m q 0)) mask_is
    ∙ ap (λ y. cond bit y (get_or m q 0)) (cut (q % 64) (omega arith))
    ∙ ap (λ y. cond bit (get_or bytes (n * 64 + q % 64) 0) y) unchanged
    ∙ stored bit (get_or bytes (n * 64 + q % 64) 0)
    ∙ sym
    (ap (memory_with_at (n + 1) f x) place ∙ ap (λ t. cond t (unwrap_or (f n) x) x) (lt-ltb n (n + 1) (omega arith))))
    (λ (other : q / 64 ≡ line → ⊥).
    ap (λ t. cond (t && eqb (bit_at mask (q % 64)) 1) (get_or part (q % 64) 0) (get_or m q 0))
    (ne_eqb (q / 64) line other)
    ∙ before q
    ∙ elim (place_of lines (q / 64))
    as (λ o. place_of lines (q / 64) ≡ o → memory_with_at n f x o ≡ memory_with_at (n + 1) f x o) [
      | None ↦ λ _. refl
      | Some k ↦ λ is.
          let s : StandsAt lines (q / 64) k = place_in lines (q / 64) k is in
          let apart : k ≡ n → ⊥ = λ e. other (sym s.is ∙ ap (λ i. get_or lines i 0) e ∙ sym line_is) in
          ap (λ t. cond t (unwrap_or (f k) x) x) (more k n apart)
    ] refl)
    (cases_eq (q / 64) line)
  where
    f : ℕ → Option ℕ
    f = slot_byte masks bytes (q % 64)

    x : ℕ
    x = get_or old q 0

    bit : Bool
    bit = eqb (bit_at (get_or masks n 0) (q % 64)) 1

    stored : (b : Bool) (v : ℕ) → cond b v x ≡ unwrap_or (cond b (Some v) None) x
    stored true v = refl
    stored false v = refl

    more : (k i : ℕ) → (k ≡ i → ⊥) → ltb k i ≡ ltb k (i + 1)
    more k i apart = ⊎_elim
        (λ (l : k < i). lt-ltb k i l ∙ sym (lt-ltb k (i + 1) (omega arith)))
        (λ (l : i ≤ k). le-ltb k i l ∙ sym (le-ltb k (i + 1) (omega arith)))
        (cases_lt k i)

pub drain_all : (lines masks bytes old m : List ℕ) → length m ≡ length old
    → ((q : ℕ) → get_or m q 0 ≡ memory_with_below lines masks bytes old (length lines) q)
    → m ≡ memory_with (bytes_of lines masks bytes) old
drain_all lines masks bytes old m l h =
    let g : ℕ → ℕ = λ a. unwrap_or (bytes_map.get (bytes_of lines masks bytes) a) (get_or old a 0) in
    ext_get_or 0 m (map g (range_with_len 0 (length old))) (l ∙ sym (length-map-range_with_len g 0 (length old)))
    (λ i below. h i ∙ whole i ∙ ap (λ o. unwrap_or o (get_or old i 0)) (sym (get_bytes lines masks bytes i))
    ∙ sym (get_or-map-range_with_len g 0 (length old) i i 0 (omega arith) (omega arith)))
  where
    whole : (i : ℕ)
        → memory_with_below lines masks bytes old (length lines) i
        ≡ unwrap_or (found lines masks bytes i) (get_or old i 0)
    whole i = elim (place_of lines (i / 64)) as (λ o. place_of lines (i / 64) ≡ o
        → memory_with_at (length lines) (slot_byte masks bytes (i % 64)) (get_or old i 0) o
        ≡ unwrap_or (option_and_then (slot_byte masks bytes (i % 64)) o) (get_or old i 0)) [
          | None ↦ λ _. refl
          | Some k ↦
              λ is. ap (λ t. cond t (unwrap_or (slot_byte masks bytes (i % 64) k) (get_or old i 0)) (get_or old i 0))
              (lt-ltb k (length lines) (place_in lines (i / 64) k is).below)
        ] refl

pub slot_fits : (lines masks bytes : List ℕ) (size n k line mask : ℕ) → Fits (bytes_of lines masks bytes) size
    → AtItsPlace lines → n < length lines
    → line ≡ get_or lines n 0 → mask ≡ get_or masks n 0 → k < 64 → bit_at mask k ≡ 1 → line * 64 + k < size
slot_fits lines masks bytes size n k line mask fits places below line_is mask_is small bit =
    let at : (line * 64 + k) / 64 ≡ line = omega arith in
    let offset : (line * 64 + k) % 64 ≡ k = omega arith in
    let place : place_of lines ((line * 64 + k) / 64) ≡ Some n = ap (place_of lines) (at ∙ line_is) ∙ places n below in
    let there : found lines masks bytes (line * 64 + k) ≡ Some (get_or bytes (n * 64 + (line * 64 + k) % 64) 0) =
    ap (option_and_then (slot_byte masks bytes ((line * 64 + k) % 64))) place
    ∙ ap (λ t. cond t (Some (get_or bytes (n * 64 + (line * 64 + k) % 64) 0)) None)
    (eq-eqb (bit_at (get_or masks n 0) ((line * 64 + k) % 64)) 1
    (ap (λ j. bit_at (get_or masks n 0) j) offset ∙ ap (λ j. bit_at j k) (sym mask_is) ∙ bit)) in
    let got :
    Some (get_or bytes (n * 64 + (line * 64 + k) % 64) 0) ≡ bytes_map.get (bytes_of lines masks bytes) (line * 64 + k) =
    sym (get_bytes lines masks bytes (line * 64 + k) ∙ there) in
    fits (line * 64 + k) (ap is_some (sym got))
