-- The order of the lines, as stores add to it.
use Rattle.std.proofs.Common.{◌≡◌, ℕ, ◌+◌, Bool, true, false, cond, eqb, ◌||◌, List, [], ◌∷◌, ◌++◌, length, refl, sym}
use Rattle.std.proofs.Common.{ap, ◌∙◌, ⊎_elim, arith, Option, Some, None}
use Rattle.std.proofs.lemmas.Bool.{cases_eq, eq-eqb, ne_eqb}
use Rattle.std.proofs.lemmas.List.{length_push}
use Rattle.std.specs.Option.{option_map, is_some}
use Rattle.std.specs.Ordering.{nat_cmp, eq_by_cmp}
use Rattle.std.specs.Cmp.{nat_cmp_total, unsigned_tied}
use Rattle.std.specs.FinSet as set
use Rattle.tm_buffer.specs.Buffer.{place_of, holds, with_line, with_lines, lines_of}
use Rattle.tm_buffer.proofs.Places.{place_push, or_at}

is_some_or_at : (b : Bool) (n : ℕ) (o : Option ℕ) → is_some (or_at b n o) ≡ (is_some o || b)
is_some_or_at true n None = refl
is_some_or_at false n None = refl
is_some_or_at b n (Some k) = refl

pub holds_with : (order : List ℕ) (l q : ℕ) → holds (with_line order l) q ≡ (holds order q || eqb l q)
holds_with order l q =
    elim (holds order l)
    as (λ t. holds order l ≡ t → holds (cond t order (order ++ l ∷ [])) q ≡ (holds order q || eqb l q)) [
      | true ↦ λ there. ⊎_elim
          (λ (e : l ≡ q). let found : holds order q ≡ true = ap (holds order) (sym e) ∙ there in
          found ∙ sym (ap (λ t. t || eqb l q) found))
          (λ (e : l ≡ q → ⊥). or_false (holds order q) (eqb l q) (ne_eqb l q e))
          (cases_eq l q)
      | false ↦
          λ _. ap (λ o. is_some o) (place_push order l q) ∙ is_some_or_at (eqb l q) (length order) (place_of order q)
    ] refl
  where
    or_false : (a b : Bool) → b ≡ false → a ≡ (a || b)
    or_false true b e = refl
    or_false false b e = sym e

pub holds_own : (order : List ℕ) (l : ℕ) → holds (with_line order l) l ≡ true
holds_own order l = holds_with order l l ∙ ap (λ t. holds order l || t) (eq-eqb l l refl) ∙ or_true (holds order l)
  where
    or_true : (a : Bool) → (a || true) ≡ true
    or_true true = refl
    or_true false = refl

pub holds_still : (order : List ℕ) (l q : ℕ) → holds order q ≡ true → holds (with_line order l) q ≡ true
holds_still order l q h = holds_with order l q ∙ ap (λ t. t || eqb l q) h

pub same_with : (order : List ℕ) (l : ℕ) → holds order l ≡ true → with_line order l ≡ order
same_with order l h = ap (λ t. cond t order (order ++ l ∷ [])) h

-- the lines of an access, one after the other
pub two_lines : (order : List ℕ) (first last : ℕ)
    → with_line (with_line order first) last ≡ with_lines order (first ∷ cond (eqb last first) [] (last ∷ []))
two_lines order first last = ⊎_elim
    (λ (e : last ≡ first). ap (λ l. with_line (with_line order first) l) e
    ∙ same_with (with_line order first) first (holds_own order first)
    ∙ sym (ap (λ t. with_lines order (first ∷ cond t [] (last ∷ []))) (eq-eqb last first e)))
    (λ (e : last ≡ first → ⊥). sym (ap (λ t. with_lines order (first ∷ cond t [] (last ∷ []))) (ne_eqb last first e)))
    (cases_eq last first)

length_with : (order : List ℕ) (l : ℕ) → length (with_line order l) ≡ length order + cond (holds order l) 0 1
length_with order l =
    elim (holds order l) as (λ t. length (cond t order (order ++ l ∷ [])) ≡ length order + cond t 0 1) [
      | true ↦ omega arith
      | false ↦ length_push order l
    ]

pub length_two : (order : List ℕ) (first last : ℕ)
    → length (with_line (with_line order first) last)
    ≡ length order + cond (holds order first) 0 1 + cond (eqb last first || holds order last) 0 1
length_two order first last =
    length_with (with_line order first) last
    ∙ ap (λ t. length (with_line order first) + cond t 0 1)
    (holds_with order first last ∙ turned (holds order last) (eqb first last) (eqb last first) (eqb_sym first last))
    ∙ ap (λ n. n + cond (eqb last first || holds order last) 0 1) (length_with order first)
  where
    turned : (a b c : Bool) → b ≡ c → (a || b) ≡ (c || a)
    turned true b true e = refl
    turned true b false e = refl
    turned false b true e = e
    turned false b false e = e

    eqb_sym : (a b : ℕ) → eqb a b ≡ eqb b a
    eqb_sym a b = ⊎_elim (λ (e : a ≡ b). eq-eqb a b e ∙ sym (eq-eqb b a (sym e)))
        (λ (e : a ≡ b → ⊥). ne_eqb a b e ∙ sym (ne_eqb b a (λ i. e (sym i)))) (cases_eq a b)

contains_holds : (order : List ℕ) (q : ℕ) → set.contains (lines_of order) q ≡ holds order q
contains_holds [] q = set.contains-empty nat_cmp q
contains_holds (x ∷ xs) q =
    set.contains-insert nat_cmp_total (lines_of xs) x q
    ∙ ap (λ t. t || set.contains (lines_of xs) q) (unsigned_tied q x ∙ eqb_sym q x)
    ∙ ap (λ t. eqb x q || t) (contains_holds xs q)
    ∙ either (eqb x q) (place_of xs q)
  where
    either : (b : Bool) (o : Option ℕ) → (b || is_some o) ≡ is_some (cond b (Some 0) (option_map (λ k. k + 1) o))
    either true o = refl
    either false None = refl
    either false (Some k) = refl

    eqb_sym : (a b : ℕ) → eqb a b ≡ eqb b a
    eqb_sym a b = ⊎_elim (λ (e : a ≡ b). eq-eqb a b e ∙ sym (eq-eqb b a (sym e)))
        (λ (e : a ≡ b → ⊥). ne_eqb a b e ∙ sym (ne_eqb b a (λ i. e (sym i)))) (cases_eq a b)

one_line : (order : List ℕ) (l : ℕ) → lines_of (with_line order l) ≡ lines_of (l ∷ order)
one_line order l =
    set.same_set nat_cmp_total set.nat_cmp-IsAntisymmetric (lines_of (with_line order l)) (lines_of (l ∷ order)) (λ q.
    contains_holds (with_line order l) q ∙ holds_with order l q ∙ swapped (holds order q) (eqb l q)
    ∙ sym (contains_holds (l ∷ order) q ∙ split l q))
  where
    swapped : (a b : Bool) → (a || b) ≡ (b || a)
    swapped true true = refl
    swapped true false = refl
    swapped false true = refl
    swapped false false = refl

    split : (a q : ℕ) → holds (a ∷ order) q ≡ (eqb a q || holds order q)
    split a q = elim (eqb a q)
        as (λ t. is_some (cond t (Some 0) (option_map (λ k. k + 1) (place_of order q))) ≡ (t || holds order q)) [
          | true ↦ refl
          | false ↦ elim (place_of order q)
              as (λ o. is_some (option_map (λ k. k + 1) o) ≡ is_some o) [ None ↦ refl | Some k ↦ refl ]
        ]

insert_turned : (s : set.FinSet nat_cmp) (a b : ℕ) → set.insert (set.insert s a) b ≡ set.insert (set.insert s b) a
insert_turned s a b = set.same_set nat_cmp_total set.nat_cmp-IsAntisymmetric _ _
    (λ q. at q a b ∙ swapped (eq_by_cmp nat_cmp q b) (eq_by_cmp nat_cmp q a) (set.contains s q) ∙ sym (at q b a))
  where
    at : (q a b : ℕ)
        → set.contains (set.insert (set.insert s a) b) q
        ≡ (eq_by_cmp nat_cmp q b || (eq_by_cmp nat_cmp q a || set.contains s q))
    at q a b = set.contains-insert nat_cmp_total (set.insert s a) b q
        ∙ ap (λ t. eq_by_cmp nat_cmp q b || t) (set.contains-insert nat_cmp_total s a q)

    swapped : (x y z : Bool) → (x || (y || z)) ≡ (y || (x || z))
    swapped true true z = refl
    swapped true false z = refl
    swapped false y z = refl

-- as a set, the order is the lines stored to before and those of the access
pub lines_two : (order : List ℕ) (first last : ℕ)
    → lines_of (with_lines order (first ∷ cond (eqb last first) [] (last ∷ [])))
    ≡ lines_of ((first ∷ cond (eqb last first) [] (last ∷ [])) ++ order)
lines_two order first last =
    elim (eqb last first)
    as (λ t. lines_of (with_lines order (first ∷ cond t [] (last ∷ [])))
    ≡ lines_of ((first ∷ cond t [] (last ∷ [])) ++ order)) [
      | true ↦ one_line order first
      | false ↦ one_line (with_line order first) last ∙ ap (λ s. set.insert s last) (one_line order first)
          ∙ insert_turned (lines_of order) first last
    ]

-- the same, where the lines came one after the other
pub one_given : (order : List ℕ) (first last : ℕ) → last ≡ first
    → lines_of (with_line order first) ≡ lines_of ((first ∷ cond (eqb last first) [] (last ∷ [])) ++ order)
one_given order first last e =
    one_line order first ∙ sym (ap (λ t. lines_of ((first ∷ cond t [] (last ∷ [])) ++ order)) (eq-eqb last first e))

pub two_given : (order : List ℕ) (first last : ℕ)
    → lines_of (with_line (with_line order first) last)
    ≡ lines_of ((first ∷ cond (eqb last first) [] (last ∷ [])) ++ order)
two_given order first last = ap lines_of (two_lines order first last) ∙ lines_two order first last
