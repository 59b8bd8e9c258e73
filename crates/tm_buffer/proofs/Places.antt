-- Where a line stands among the lines of the slots.
use Rattle.std.proofs.Common.{◌≡◌, ℕ, zero, suc, ◌+◌, ◌<◌, ◌≤◌, Bool, true, false, cond, eqb, List, [], ◌∷◌, ◌++◌}
use Rattle.std.proofs.Common.{length, get_or, refl, sym, ap, ◌∙◌, subst, ⊎_elim, arith, ◌||◌, Option, Some, None}
use Rattle.std.proofs.lemmas.Bool.{cases_eq, eq-eqb, ne_eqb, eqb-true}
use Rattle.std.proofs.lemmas.List.{get_or_append_left, get_or_push}
use Rattle.std.specs.Option.{option_map, is_some}
use Rattle.std.specs.List.{list_any}
use Rattle.std.specs.Ordering.{nat_cmp, eq_by_cmp}
use Rattle.std.specs.Cmp.{nat_cmp_total, unsigned_tied}
use Rattle.std.specs.FinSet as set
use Rattle.tm_buffer.specs.Buffer.{BufferValue, place_of, with_line, lines_of}
use Rattle.tm_buffer.specs.Slots.{AtItsPlace}

pub place_none : (xs : List ℕ) (l : ℕ) → ((i : ℕ) → i < length xs → get_or xs i 0 ≡ l → ⊥) → place_of xs l ≡ None
place_none [] l h = refl
place_none (x ∷ xs) l h =
    ap (λ t. cond t (Some 0) (option_map (λ k. k + 1) (place_of xs l))) (ne_eqb x l (h 0 (omega arith)))
    ∙ ap (option_map (λ k. k + 1)) (place_none xs l (λ i b e. h (suc i) (omega arith) e))

pub place_found : (xs : List ℕ) (k l : ℕ) → k < length xs → get_or xs k 0 ≡ l
    → ((i : ℕ) → i < k → get_or xs i 0 ≡ l → ⊥) → place_of xs l ≡ Some k
place_found [] k l b e h = absurd (omega arith)
place_found (x ∷ xs) zero l b e h = ap (λ t. cond t (Some 0) (option_map (λ k. k + 1) (place_of xs l))) (eq-eqb x l e)
place_found (x ∷ xs) (suc k) l b e h =
    ap (λ t. cond t (Some 0) (option_map (λ k. k + 1) (place_of xs l))) (ne_eqb x l (h 0 (omega arith)))
    ∙ ap (option_map (λ k. k + 1)) (place_found xs k l (omega arith) e (λ i b e. h (suc i) (omega arith) e))
    ∙ ap Some (let n : k + 1 ≡ suc k = omega arith in n)

-- the place, or the number n where there is none
abbrev pub or_at : Bool → ℕ → Option ℕ → Option ℕ
or_at b n None = cond b (Some n) None
or_at b n (Some k) = Some k

later : (b : Bool) (n : ℕ) (o : Option ℕ)
    → option_map (λ k. k + 1) (or_at b n o) ≡ or_at b (suc n) (option_map (λ k. k + 1) o)
later true n None = ap Some (let e : n + 1 ≡ suc n = omega arith in e)
later false n None = refl
later b n (Some k) = refl

pub place_push : (xs : List ℕ) (l q : ℕ) → place_of (xs ++ l ∷ []) q ≡ or_at (eqb l q) (length xs) (place_of xs q)
place_push [] l q = refl
place_push (x ∷ xs) l q =
    elim (eqb x q)
    as (λ t. cond t (Some 0) (option_map (λ k. k + 1) (place_of (xs ++ l ∷ []) q))
    ≡ or_at (eqb l q) (suc (length xs)) (cond t (Some 0) (option_map (λ k. k + 1) (place_of xs q)))) [
      | true ↦ refl
      | false ↦ ap (option_map (λ k. k + 1)) (place_push xs l q) ∙ later (eqb l q) (length xs) (place_of xs q)
    ]

-- a line that has a place stands there
pub record StandsAt (xs : List ℕ) (l k : ℕ) : Type 0 where
  pub below : k < length xs
  pub is : get_or xs k 0 ≡ l

not_none : (k : ℕ) → None ≡ Some k → ⊥
not_none k e = cc

pub place_in : (xs : List ℕ) (l k : ℕ) → place_of xs l ≡ Some k → StandsAt xs l k
place_in [] l k e = absurd (not_none k e)
place_in (x ∷ xs) l k e =
    elim (eqb x l)
    as (λ t. eqb x l ≡ t → cond t (Some 0) (option_map (λ j. j + 1) (place_of xs l)) ≡ Some k → StandsAt (x ∷ xs) l k) [
      | true ↦ λ t e. at_first (eqb-true x l t) k (let z : 0 ≡ k = cc in z)
      | false ↦ λ t e. elim (place_of xs l)
          as (λ o. place_of xs l ≡ o → option_map (λ j. j + 1) o ≡ Some k → StandsAt (x ∷ xs) l k) [
            | None ↦ λ p e. absurd (not_none k e)
            | Some j ↦ λ p e. at_next j (place_in xs l j p) k (let z : j + 1 ≡ k = cc in z)
          ] refl e
    ] refl e
  where
    at_first : x ≡ l → (n : ℕ) → 0 ≡ n → StandsAt (x ∷ xs) l n
    at_first same n z = subst (StandsAt (x ∷ xs) l) z (record { below = omega arith; is = same })

    at_next : (j : ℕ) → StandsAt xs l j → (n : ℕ) → j + 1 ≡ n → StandsAt (x ∷ xs) l n
    at_next j s n z =
        let next : suc j ≡ n = omega arith in
        subst (StandsAt (x ∷ xs) l) next (record { below = omega (arith, s.below); is = s.is })

pub at_place_push : (xs : List ℕ) (l : ℕ) → place_of xs l ≡ None → AtItsPlace xs → AtItsPlace (xs ++ l ∷ [])
at_place_push xs l new h k below =
    ⊎_elim (λ (e : k ≡ length xs).
    let same : get_or (xs ++ l ∷ []) k 0 ≡ l = get_or_push xs l 0 k (sym e) in
    ap (place_of (xs ++ l ∷ [])) same ∙ place_push xs l l ∙ ap (or_at (eqb l l) (length xs)) new
    ∙ ap (λ t. cond t (Some (length xs)) None) (eq-eqb l l refl) ∙ ap Some (sym e))
    (λ (e : k ≡ length xs → ⊥).
    let b : k < length xs = omega (arith, length_of xs l) in
    let same : get_or (xs ++ l ∷ []) k 0 ≡ get_or xs k 0 = get_or_append_left xs (l ∷ []) 0 k b in
    ap (place_of (xs ++ l ∷ [])) same ∙ place_push xs l (get_or xs k 0)
    ∙ ap (or_at (eqb l (get_or xs k 0)) (length xs)) (h k b))
    (cases_eq k (length xs))
  where
    length_of : (ys : List ℕ) (y : ℕ) → length (ys ++ y ∷ []) ≡ length ys + 1
    length_of ys y = Rattle.std.proofs.lemmas.List.length_push ys y

-- no line stands twice in the order, so that it is as long as its set is large
pub len_lines : (xs : List ℕ) → AtItsPlace xs → set.len (lines_of xs) ≡ length xs
len_lines [] h = set.len-empty nat_cmp
len_lines (x ∷ xs) h =
    set.len-insert nat_cmp_total (lines_of xs) x
    ∙ ap (λ t. cond t (set.len (lines_of xs)) (set.len (lines_of xs) + 1))
    (set.contains-from_list nat_cmp_total xs x ∙ absent xs (λ k b e. apart k b e))
    ∙ ap (λ n. n + 1) (len_lines xs (λ k b. tail k b))
    ∙ (let e : length xs + 1 ≡ suc (length xs) = omega arith in e)
  where
    apart : (k : ℕ) → k < length xs → get_or xs k 0 ≡ x → ⊥
    apart k b e =
        let place : place_of (x ∷ xs) (get_or xs k 0) ≡ Some (suc k) = h (suc k) (omega arith) in
        let first : place_of (x ∷ xs) (get_or xs k 0) ≡ Some 0 =
        ap (λ t. cond t (Some 0) (option_map (λ j. j + 1) (place_of xs (get_or xs k 0))))
        (eq-eqb x (get_or xs k 0) (sym e)) in
        zero_suc k (let s : Some 0 ≡ Some (suc k) = sym first ∙ place in cc)
      where
        zero_suc : (n : ℕ) → 0 ≡ suc n → ⊥
        zero_suc n z = omega arith

    absent : (ys : List ℕ) → ((k : ℕ) → k < length ys → get_or ys k 0 ≡ x → ⊥)
        → list_any (eq_by_cmp nat_cmp x) ys ≡ false
    absent [] g = refl
    absent (y ∷ ys) g =
        ap (λ t. t || list_any (eq_by_cmp nat_cmp x) ys)
        (unsigned_tied x y ∙ ne_eqb x y (λ e. g 0 (omega arith) (sym e)))
        ∙ absent ys (λ k b e. g (suc k) (omega arith) e)

    tail : (k : ℕ) → k < length xs → place_of xs (get_or xs k 0) ≡ Some k
    tail k b =
        let behind : option_map (λ j. j + 1) (place_of xs (get_or xs k 0)) ≡ Some (suc k) =
        sym (ap (λ t. cond t (Some 0) (option_map (λ j. j + 1) (place_of xs (get_or xs k 0))))
        (ne_eqb x (get_or xs k 0) (λ e. apart k b (sym e))))
        ∙ h (suc k) (omega arith) in
        elim (place_of xs (get_or xs k 0)) as (λ o. option_map (λ j. j + 1) o ≡ Some (suc k) → o ≡ Some k) [
          | None ↦ λ e. absurd (not_none (suc k) e)
          | Some n ↦ λ e. let same : n + 1 ≡ suc k = cc in ap Some (let z : n ≡ k = omega arith in z)
        ] behind

pub none_of : (xs : List ℕ) (l : ℕ) → is_some (place_of xs l) ≡ false → place_of xs l ≡ None
none_of xs l h = elim (place_of xs l)
    as (λ o. is_some o ≡ false → o ≡ None) [ None ↦ λ _. refl | Some k ↦ λ e. absurd (true_false e) ] h
  where
    true_false : true ≡ false → ⊥
    true_false e = cc

pub with_new_line : (xs : List ℕ) (l : ℕ) → place_of xs l ≡ None → with_line xs l ≡ xs ++ l ∷ []
with_new_line xs l none = ap (λ o. cond (is_some o) xs (xs ++ l ∷ [])) none

-- a line has the same place in a buffer and in what this is seen as, and it is below the room
pub place_seen : {b v : BufferValue} (line : ℕ) {p : Option ℕ} → b ≡ v → place_of v.order line ≡ p
    → place_of b.order line ≡ p
place_seen line seen at = ap (λ x. place_of x.order line) seen ∙ at

pub below_room : {b v : BufferValue} (line : ℕ) {k : ℕ} → b ≡ v → place_of v.order line ≡ Some k
    → length b.order ≤ b.room → k < b.room
below_room {b} line {k} seen at within =
    omega (arith, within, (place_in b.order line k (place_seen line seen at)).below)
