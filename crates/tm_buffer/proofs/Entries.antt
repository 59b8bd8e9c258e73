-- The map that is made of a function and the addresses of some lines.
use Rattle.std.proofs.Common.{◌≡◌, ℕ, zero, suc, ◌+◌, ◌*◌, ◌/◌, ◌%◌, ◌<◌, ◌≤◌, Bool, true, false, cond, eqb, ◌||◌, List}
use Rattle.std.proofs.Common.{[], ◌∷◌, ◌++◌, refl, sym, ap, ◌∙◌, ⊎_elim, inl, inr, ◌⊎◌, arith, Option, Some, None}
use Rattle.std.proofs.lemmas.Bool.{cases_eq, eq-eqb, ne_eqb}
use Rattle.std.specs.List.{list_any, range_with_len}
use Rattle.std.specs.Option.{option_and_then, option_map}
use Rattle.std.specs.Ordering.{nat_cmp}
use Rattle.std.specs.Cmp.{nat_cmp_total, unsigned_tied}
use Rattle.std.specs.FinMap as bytes_map
use Rattle.tm_buffer.specs.Buffer.{Bytes, place_of}
use Rattle.tm_buffer.specs.Slots.{found, slot_byte, entries_of, entry_at, addresses, bytes_of}

pub get_insert : (m : Bytes) (a v q : ℕ)
    → bytes_map.get (bytes_map.insert m a v) q ≡ cond (eqb q a) (Some v) (bytes_map.get m q)
get_insert m a v q =
    bytes_map.get-insert nat_cmp_total m a v q ∙ ap (λ t. cond t (Some v) (bytes_map.get m q)) (unsigned_tied q a)

abbrev entries_map : List (ℕ × ℕ) → Bytes
entries_map es = bytes_map.from_entries es

-- what the map has at an address that is among those of the list
pub get_entries : (f : ℕ → Option ℕ) (qs : List ℕ) (q : ℕ)
    → bytes_map.get (entries_map (entries_of f qs)) q ≡ cond (list_any (eqb q) qs) (f q) None
get_entries f [] q = bytes_map.get-empty nat_cmp q
get_entries f (a ∷ qs) q =
    elim (f a) as (λ o. f a ≡ o → bytes_map.get (entries_map (entry_at a o (entries_of f qs))) q
    ≡ cond (eqb q a || list_any (eqb q) qs) (f q) None) [
      | None ↦ λ is. get_entries f qs q ∙ ⊎_elim
          (λ (e : q ≡ a). let none : f q ≡ None = ap f e ∙ is in
          nothing (list_any (eqb q) qs) (eqb q a || list_any (eqb q) qs) (f q) none)
          (λ (e : q ≡ a → ⊥). sym (ap (λ t. cond (t || list_any (eqb q) qs) (f q) None) (ne_eqb q a e)))
          (cases_eq q a)
      | Some v ↦ λ is. get_insert (entries_map (entries_of f qs)) a v q ∙ ⊎_elim
          (λ (e : q ≡ a). ap (λ t. cond t (Some v) (bytes_map.get (entries_map (entries_of f qs)) q)) (eq-eqb q a e)
          ∙ sym (ap f e ∙ is) ∙ sym (ap (λ t. cond (t || list_any (eqb q) qs) (f q) None) (eq-eqb q a e)))
          (λ (e : q ≡ a → ⊥). ap (λ t. cond t (Some v) (bytes_map.get (entries_map (entries_of f qs)) q)) (ne_eqb q a e)
          ∙ get_entries f qs q ∙ sym (ap (λ t. cond (t || list_any (eqb q) qs) (f q) None) (ne_eqb q a e)))
          (cases_eq q a)
    ] refl
  where
    nothing : (b c : Bool) (o : Option ℕ) → o ≡ None → cond b o None ≡ cond c o None
    nothing true true o e = refl
    nothing true false o e = e
    nothing false true o e = sym e
    nothing false false o e = refl

pub in_range : (a n q : ℕ) → a ≤ q → q < a + n → list_any (eqb q) (range_with_len a n) ≡ true
in_range a zero q l h = absurd (omega arith)
in_range a (suc n) q l h = ⊎_elim
    (λ (e : q ≡ a). ap (λ t. t || list_any (eqb q) (range_with_len (a + 1) n)) (eq-eqb q a e))
    (λ (e : q ≡ a → ⊥). ap (λ t. t || list_any (eqb q) (range_with_len (a + 1) n)) (ne_eqb q a e)
    ∙ in_range (a + 1) n q (omega arith) (omega arith))
    (cases_eq q a)

any_left : (p : ℕ → Bool) (xs ys : List ℕ) → list_any p xs ≡ true → list_any p (xs ++ ys) ≡ true
any_left p [] ys h = absurd (false_true h)
  where
    false_true : false ≡ true → ⊥
    false_true e = cc
any_left p (x ∷ xs) ys h =
    elim (p x)
    as (λ t. (t || list_any p xs) ≡ true
    → (t || list_any p (xs ++ ys)) ≡ true) [ true ↦ λ _. refl | false ↦ λ h. any_left p xs ys h ] h

any_right : (p : ℕ → Bool) (xs ys : List ℕ) → list_any p ys ≡ true → list_any p (xs ++ ys) ≡ true
any_right p [] ys h = h
any_right p (x ∷ xs) ys h =
    elim (p x) as (λ t. (t || list_any p (xs ++ ys)) ≡ true) [ true ↦ refl | false ↦ any_right p xs ys h ]

-- an address without a place has no byte, one with a place is among the addresses
among : (lines : List ℕ) (q : ℕ) → (place_of lines (q / 64) ≡ None) ⊎ (list_any (eqb q) (addresses lines) ≡ true)
among [] q = inl refl
among (l ∷ lines) q = ⊎_elim
    (λ (e : l ≡ q / 64). inr (any_left (eqb q) (range_with_len (l * 64) 64) (addresses lines)
    (in_range (l * 64) 64 q (omega arith) (omega arith))))
    (λ (e : l ≡ q / 64 → ⊥). ⊎_elim
    (λ (none : place_of lines (q / 64) ≡ None). inl
    (ap (λ t. cond t (Some 0) (option_map (λ k. k + 1) (place_of lines (q / 64)))) (ne_eqb l (q / 64) e)
    ∙ ap (option_map (λ k. k + 1)) none))
    (λ (there : list_any (eqb q) (addresses lines) ≡ true).
    inr (any_right (eqb q) (range_with_len (l * 64) 64) (addresses lines) there))
    (among lines q))
    (cases_eq l (q / 64))

-- the map has at each address what the slots have there
pub get_bytes : (lines masks bytes : List ℕ) (q : ℕ)
    → bytes_map.get (bytes_of lines masks bytes) q ≡ found lines masks bytes q
get_bytes lines masks bytes q =
    let f : ℕ → Option ℕ = found lines masks bytes in
    get_entries f (addresses lines) q ∙ ⊎_elim
    (λ (none : place_of lines (q / 64) ≡ None). let no : f q ≡ None =
    ap (option_and_then (slot_byte masks bytes (q % 64))) none in either (list_any (eqb q) (addresses lines)) (f q) no)
    (λ (there : list_any (eqb q) (addresses lines) ≡ true). ap (λ t. cond t (f q) None) there)
    (among lines q)
  where
    either : (b : Bool) (o : Option ℕ) → o ≡ None → cond b o None ≡ o
    either true o e = refl
    either false o e = sym e

-- two buffers with the same byte at each address are equal
pub same_bytes : (m n : Bytes) → ((q : ℕ) → bytes_map.get m q ≡ bytes_map.get n q) → m ≡ n
same_bytes m n h = bytes_map.same_map nat_cmp_total bytes_map.nat_cmp-IsAntisymmetric m n h
