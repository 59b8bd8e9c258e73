-- Which lines hold which slots.
use Rattle.std.proofs.Common.{◌≡◌, ℕ, zero, suc, ◌+◌, ◌<◌, ◌≤◌, true, false, cond, eqb, List, [], ◌∷◌, ◌++◌, length}
use Rattle.std.proofs.Common.{get_or, set, refl, sym, ap, ◌∙◌, subst, ⊎_elim, arith, ◌||◌, Option, Some, None}
use Rattle.std.proofs.lemmas.Bool.{cases_eq, eq-eqb, ne_eqb, eqb-true, or_cases, true≢false}
use Rattle.std.proofs.lemmas.List.{get_or_append_left, get_or_push, get_or-set_same, get_or-set_other, get_or_default}
use Rattle.std.proofs.lemmas.List.{length_push}
use Rattle.std.proofs.lemmas.List.FromFn.{length-range_with_len, get_or-range_with_len}
use Rattle.std.proofs.lemmas.Map.Keys.{IsDistinct-from_apart, IsDistinct-push}
use Rattle.std.proofs.lemmas.Map.Made.{length-le_from_is_member}
use Rattle.std.specs.Option.{option_map, is_some}
use Rattle.std.specs.List.{list_any, range_with_len, IsDistinct}
use Rattle.std.specs.Cmp.{nat_eq_equiv}
use Rattle.tm_buffer.specs.Buffer.{place_of, holds, with_line}
use Rattle.tm_buffer.specs.Slots.{AreHeld}
use Rattle.tm_buffer.proofs.Places.{StandsAt, place_in, place_push, or_at}
use Rattle.tm_buffer.proofs.Entries.{in_range}

none_some : (k : ℕ) → Some k ≡ None → ⊥
none_some k e = cc

none_below : (o : Option ℕ) → option_map (λ k. k + 1) o ≡ None → o ≡ None
none_below None e = refl
none_below (Some k) e = absurd (none_some (k + 1) e)

-- what has no place stands at none
pub none_at : (xs : List ℕ) (l i : ℕ) → place_of xs l ≡ None → i < length xs → get_or xs i 0 ≡ l → ⊥
none_at [] l i n b e = omega arith
none_at (x ∷ xs) l zero n b e =
    none_some 0 (sym (ap (λ t. cond t (Some 0) (option_map (λ k. k + 1) (place_of xs l))) (eq-eqb x l e)) ∙ n)
none_at (x ∷ xs) l (suc i) n b e =
    elim (eqb x l) as (λ t. cond t (Some 0) (option_map (λ k. k + 1) (place_of xs l)) ≡ None → ⊥) [
      | true ↦ λ m. none_some 0 m
      | false ↦ λ m. none_at xs l i (none_below (place_of xs l) m) (omega arith) e
    ] n

-- a line whose slot does not tell a place where it stands has none
pub no_place : (lines slots places : List ℕ) (room line slot place : ℕ) → AreHeld slots places room
    → place_of lines line ≡ place_of slots slot → place ≡ get_or places slot 0
    → (place < length lines → get_or lines place 0 ≡ line → ⊥) → place_of lines line ≡ None
no_place lines slots places room line slot place h same is apart =
    elim (place_of lines line) as (λ o. place_of lines line ≡ o → o ≡ None) [
      | None ↦ λ _. refl
      | Some k ↦ λ at.
          let l : StandsAt lines line k = place_in lines line k at in
          let s : StandsAt slots slot k = place_in slots slot k (sym same ∙ at) in
          let here : place ≡ k = is ∙ ap (λ x. get_or places x 0) (sym s.is) ∙ h.tells k s.below in
          absurd (apart (omega (arith, here, l.below)) (ap (λ i. get_or lines i 0) here ∙ l.is))
    ] refl

-- a slot that is free is given to the next line
pub held_more : (slots places : List ℕ) (room slot n : ℕ) → AreHeld slots places room → n ≡ length slots → slot < room
    → length places ≡ room → place_of slots slot ≡ None
    → AreHeld (slots ++ slot ∷ []) (set places slot n) room
held_more slots places room slot n h end low size free = record { tells = tells; low = lows }
  where
    own : (k : ℕ) → k ≡ length slots → get_or (slots ++ slot ∷ []) k 0 ≡ slot
    own k e = get_or_push slots slot 0 k (sym e)

    old : (k : ℕ) → k < length slots → get_or (slots ++ slot ∷ []) k 0 ≡ get_or slots k 0
    old k b = get_or_append_left slots (slot ∷ []) 0 k b

    below : (k : ℕ) → k < length (slots ++ slot ∷ []) → (k ≡ length slots → ⊥) → k < length slots
    below k b e = omega (arith, length_push slots slot)

    tells : (k : ℕ) → k < length (slots ++ slot ∷ [])
        → get_or (set places slot n) (get_or (slots ++ slot ∷ []) k 0) 0 ≡ k
    tells k b = ⊎_elim
        (λ (e : k ≡ length slots). ap (λ x. get_or (set places slot n) x 0) (own k e)
        ∙ get_or-set_same places slot n 0 (omega arith) ∙ end ∙ sym e)
        (λ (e : k ≡ length slots → ⊥).
        ap (λ x. get_or (set places slot n) x 0) (old k (below k b e))
        ∙ get_or-set_other places slot (get_or slots k 0) n 0 (λ i. none_at slots slot k free (below k b e) i)
        ∙ h.tells k (below k b e))
        (cases_eq k (length slots))

    lows : (k : ℕ) → k < length (slots ++ slot ∷ []) → get_or (slots ++ slot ∷ []) k 0 < room
    lows k b = ⊎_elim
        (λ (e : k ≡ length slots). subst (λ x. x < room) (sym (own k e)) low)
        (λ (e : k ≡ length slots → ⊥). subst (λ x. x < room) (sym (old k (below k b e))) (h.low k (below k b e)))
        (cases_eq k (length slots))

-- ---- how many slots there are

found_at : (xs : List ℕ) (l : ℕ) → is_some (place_of xs l) ≡ list_any (eqb l) xs
found_at [] l = refl
found_at (x ∷ xs) l = ⊎_elim
    (λ (e : x ≡ l). ap (λ t. is_some (cond t (Some 0) (option_map (λ k. k + 1) (place_of xs l)))) (eq-eqb x l e)
    ∙ sym (ap (λ t. t || list_any (eqb l) xs) (eq-eqb l x (sym e))))
    (λ (e : x ≡ l → ⊥). ap (λ t. is_some (cond t (Some 0) (option_map (λ k. k + 1) (place_of xs l)))) (ne_eqb x l e)
    ∙ kept (place_of xs l) ∙ found_at xs l ∙ sym (ap (λ t. t || list_any (eqb l) xs) (ne_eqb l x (λ i. e (sym i)))))
    (cases_eq x l)
  where
    kept : (o : Option ℕ) → is_some (option_map (λ k. k + 1) o) ≡ is_some o
    kept None = refl
    kept (Some k) = refl

low_member : (xs : List ℕ) (room q : ℕ) → ((k : ℕ) → k < length xs → get_or xs k 0 < room)
    → list_any (eqb q) xs ≡ true → q < room
low_member [] room q h e = absurd (true≢false (sym e))
low_member (x ∷ xs) room q h e = ⊎_elim
    (λ (t : eqb q x ≡ true). subst (λ n. n < room) (sym (eqb-true q x t)) (h 0 (omega arith)))
    (λ (t : list_any (eqb q) xs ≡ true). low_member xs room q (λ k b. h (suc k) (omega arith)) t)
    (or_cases (eqb q x) (list_any (eqb q) xs) e)

distinct : (slots places : List ℕ) (room : ℕ) → AreHeld slots places room → IsDistinct eqb slots
distinct slots places room h =
    IsDistinct-from_apart eqb slots (λ i j d l b. ne_eqb (get_or slots i d) (get_or slots j d) (λ e.
    let i_below : i < length slots = omega arith in
    let same : get_or slots i 0 ≡ get_or slots j 0 =
    get_or_default slots i 0 d i_below ∙ e ∙ get_or_default slots j d 0 b in
    let one : i ≡ j = sym (h.tells i i_below) ∙ ap (λ x. get_or places x 0) same ∙ h.tells j b in
    omega arith))

-- where a slot is free, there is room for one line more
pub room_left : (slots places : List ℕ) (room slot : ℕ) → AreHeld slots places room → slot < room
    → place_of slots slot ≡ None → length slots < room
room_left slots places room slot h low free =
    let all : List ℕ = slots ++ slot ∷ [] in
    let new : list_any (eqb slot) slots ≡ false = sym (found_at slots slot) ∙ ap is_some free in
    let apart : IsDistinct eqb (slots ++ slot ∷ []) =
    IsDistinct-push nat_eq_equiv slots slot (distinct slots places room h) new in
    let lows : (k : ℕ) → k < length (slots ++ slot ∷ []) → get_or (slots ++ slot ∷ []) k 0 < room = λ k b. ⊎_elim
    (λ (e : k ≡ length slots). subst (λ x. x < room) (sym (get_or_push slots slot 0 k (sym e))) low)
    (λ (e : k ≡ length slots → ⊥).
    let below : k < length slots = omega (arith, length_push slots slot) in
    subst (λ x. x < room) (sym (get_or_append_left slots (slot ∷ []) 0 k below)) (h.low k below))
    (cases_eq k (length slots)) in
    let fits : length (slots ++ slot ∷ []) ≤ length (range_with_len 0 room) =
    length-le_from_is_member nat_eq_equiv (slots ++ slot ∷ []) (range_with_len 0 room) apart
    (λ q m. in_range 0 room q (omega arith) (omega (arith, low_member (slots ++ slot ∷ []) room q lows m))) in
    omega (arith, length_push slots slot, length-range_with_len 0 room)

-- where there is room for one more, some slot is free
pub one_free : (slots places : List ℕ) (room : ℕ) → ((slot : ℕ) → slot < room → place_of slots slot ≡ None → ⊥)
    → room ≤ length slots
one_free slots places room used =
    let apart : IsDistinct eqb (range_with_len 0 room) = IsDistinct-from_apart eqb (range_with_len 0 room) (λ i j d l b.
    let in_room : j < room = omega (arith, length-range_with_len 0 room) in
    ne_eqb (get_or (range_with_len 0 room) i d) (get_or (range_with_len 0 room) j d)
    (λ e.
    omega (arith, e, get_or-range_with_len 0 room i d (omega arith), get_or-range_with_len 0 room j d in_room))) in
    let fits : length (range_with_len 0 room) ≤ length slots =
    length-le_from_is_member nat_eq_equiv (range_with_len 0 room) slots apart (λ q m.
    let low : q < room = low_member (range_with_len 0 room) room q (λ k b.
    let in_room : k < room = omega (arith, length-range_with_len 0 room) in
    omega (arith, get_or-range_with_len 0 room k 0 in_room)) m in
    sym (found_at slots q) ∙ there (place_of slots q) (used q low)) in
    omega (arith, length-range_with_len 0 room)
  where
    there : (o : Option ℕ) → (o ≡ None → ⊥) → is_some o ≡ true
    there None h = absurd (h refl)
    there (Some k) h = refl

-- a slot that tells no place where it stands is free
pub is_free : (slots places : List ℕ) (room slot place : ℕ) → AreHeld slots places room → place ≡ get_or places slot 0
    → (place < length slots → get_or slots place 0 ≡ slot → ⊥) → place_of slots slot ≡ None
is_free slots places room slot place h is apart = no_place slots slots places room slot slot place h refl is apart

-- ---- the next slot that is given

-- a new line's place is the next
pub place_new : (xs : List ℕ) (l : ℕ) → place_of xs l ≡ None → place_of (xs ++ l ∷ []) l ≡ Some (length xs)
place_new xs l none = place_push xs l l ∙ ap (or_at (eqb l l) (length xs)) none
    ∙ ap (λ t. cond t (Some (length xs)) None) (eq-eqb l l refl)

-- a line keeps its place
pub place_still : (xs : List ℕ) (l q k : ℕ) → place_of xs l ≡ Some k → place_of (with_line xs q) l ≡ Some k
place_still xs l q k at =
    elim (holds xs q) as (λ t. place_of (cond t xs (xs ++ q ∷ [])) l ≡ Some k) [
      | true ↦ at
      | false ↦ place_push xs q l ∙ ap (or_at (eqb q l) (length xs)) at
    ]

-- two lines with two slots: the second is as new as before
pub same_behind : (lines slots : List ℕ) (line slot first own : ℕ) → (first ≡ line → ⊥) → (own ≡ slot → ⊥)
    → place_of lines first ≡ place_of slots own → place_of lines line ≡ place_of slots slot
    → place_of (with_line lines first) line ≡ place_of (with_line slots own) slot
same_behind lines slots line slot first own apart other first_same same =
    elim (place_of lines first)
    as (λ o. place_of lines first ≡ o
    → place_of (cond (is_some o) lines (lines ++ first ∷ [])) line ≡ place_of (with_line slots own) slot) [
      | None ↦ λ e.
          place_push lines first line ∙ ap (λ t. or_at t (length lines) (place_of lines line)) (ne_eqb first line apart)
          ∙ ap (or_at false (length lines)) same ∙ none_or (length lines) (length slots) (place_of slots slot)
          ∙ sym (ap (λ o. place_of (cond (is_some o) slots (slots ++ own ∷ [])) slot) (sym first_same ∙ e)
          ∙ place_push slots own slot ∙ ap (λ t. or_at t (length slots) (place_of slots slot)) (ne_eqb own slot other))
      | Some k ↦
          λ e. same ∙ sym (ap (λ o. place_of (cond (is_some o) slots (slots ++ own ∷ [])) slot) (sym first_same ∙ e))
    ] refl
  where
    none_or : (m n : ℕ) (o : Option ℕ) → or_at false m o ≡ or_at false n o
    none_or m n None = refl
    none_or m n (Some k) = refl

-- slots in use stay when one more is given
pub kept_push : (xs : List ℕ) (x slot : ℕ) → is_some (place_of xs slot) ≡ true
    → place_of (xs ++ x ∷ []) slot ≡ place_of xs slot
kept_push xs x slot there = place_push xs x slot ∙ still (place_of xs slot) there
  where
    still : (o : Option ℕ) → is_some o ≡ true → or_at (eqb x slot) (length xs) o ≡ o
    still None t = absurd (true≢false (sym t))
    still (Some k) t = refl
