-- Lists of lines, and the sets that they make.
use Rattle.std.proofs.Common.{◌≡◌, ℕ, zero, suc, ◌+◌, ◌<◌, ◌≤◌, Bool, true, false, cond, ◌||◌, List, [], ◌∷◌, ◌++◌}
use Rattle.std.proofs.Common.{length, get_or, refl, sym, ap, ◌∙◌, ⊎_elim, arith}
use Rattle.std.proofs.lemmas.Bool.{cases_eq, eq-eqb, ne_eqb}
use Rattle.std.proofs.lemmas.List.{get_or_read}
use Rattle.std.proofs.lemmas.List.Sorted.{list_any-IsPermutation, length_permutation}
use Rattle.std.specs.List.Sorted.{IsPermutation, IsStrictlyIncreasing, IsNonDecreasing}
use Rattle.std.specs.Ordering.{nat_cmp, eq_by_cmp}
use Rattle.std.specs.Cmp.{nat_cmp_total, unsigned_tied}
use Rattle.std.specs.FinSet as set
use Rattle.tm_sets.specs.LineSet.{Lines, lines_of}

-- a number that was read at an index is the one there
pub read_at : (xs : List ℕ) {i k told : ℕ} → i < length xs → k ≡ i → told ≡ get_or xs k told → told ≡ get_or xs i 0
read_at xs {i} {k} {told} below same read = get_or_read xs i told below (rw same at read) 0

pub len_push : (s : Lines) (l : ℕ) → set.contains s l ≡ false → set.len (set.insert s l) ≡ set.len s + 1
len_push s l new = set.len-insert nat_cmp_total s l ∙ ap (λ t. cond t (set.len s) (set.len s + 1)) new

pub contains_cons : (x q : ℕ) (xs : List ℕ)
    → set.contains (lines_of (x ∷ xs)) q ≡ (eq_by_cmp nat_cmp q x || set.contains (lines_of xs) q)
contains_cons x q xs = set.contains-insert nat_cmp_total (lines_of xs) x q

pub absent : (xs : List ℕ) (l : ℕ) → ((i : ℕ) → i < length xs → get_or xs i 0 ≡ l → ⊥)
    → set.contains (lines_of xs) l ≡ false
absent [] l h = set.contains-empty nat_cmp l
absent (x ∷ xs) l h =
    contains_cons x l xs
    ∙ ap (λ t. t || set.contains (lines_of xs) l) (unsigned_tied l x ∙ ne_eqb l x (λ e. h 0 (omega arith) (sym e)))
    ∙ absent xs l (λ i b e. h (suc i) (omega arith) e)

pub present : (xs : List ℕ) (i l : ℕ) → i < length xs → get_or xs i 0 ≡ l → set.contains (lines_of xs) l ≡ true
present [] i l b e = absurd (omega arith)
present (x ∷ xs) zero l b e =
    contains_cons x l xs ∙ ap (λ t. t || set.contains (lines_of xs) l) (unsigned_tied l x ∙ eq-eqb l x (sym e))
present (x ∷ xs) (suc i) l b e = contains_cons x l xs
    ∙ ap (λ t. eq_by_cmp nat_cmp l x || t) (present xs i l (omega arith) e) ∙ or_true (eq_by_cmp nat_cmp l x)
  where
    or_true : (a : Bool) → (a || true) ≡ true
    or_true true = refl
    or_true false = refl

len_cons : (x : ℕ) (xs : List ℕ)
    → set.len (lines_of (x ∷ xs))
    ≡ cond {A = ℕ} (set.contains (lines_of xs) x) (set.len (lines_of xs)) (set.len (lines_of xs) + 1)
len_cons x xs = set.len-insert nat_cmp_total (lines_of xs) x

one_more : (b : Bool) (n a m : ℕ) → m ≡ cond {A = ℕ} b a (a + 1) → a ≤ n → m ≤ suc n
one_more true n a m e h = omega arith
one_more false n a m e h = omega arith

len_le : (xs : List ℕ) → set.len (lines_of xs) ≤ length xs
len_le [] = let e : set.len (lines_of []) ≡ 0 = set.len-empty nat_cmp in omega arith
len_le (x ∷ xs) = one_more (set.contains (lines_of xs) x) (length xs) (set.len (lines_of xs))
    (set.len (lines_of (x ∷ xs))) (len_cons x xs) (len_le xs)

-- a list without repetition begins with a line that does not come again, and goes on without repetition
record Once (x : ℕ) (xs : List ℕ) : Type 0 where
  new : set.contains (lines_of xs) x ≡ false
  rest : set.len (lines_of xs) ≡ length xs

once : (x : ℕ) (xs : List ℕ) → set.len (lines_of (x ∷ xs)) ≡ length (x ∷ xs) → Once x xs
once x xs h = either (set.contains (lines_of xs) x) refl (len_cons x xs)
  where
    either : (b : Bool) → set.contains (lines_of xs) x ≡ b
        → set.len (lines_of (x ∷ xs)) ≡ cond {A = ℕ} b (set.len (lines_of xs)) (set.len (lines_of xs) + 1) → Once x xs
    either true c e = absurd (omega (arith, len_le xs, h))
    either false c e = record { new = c; rest = omega (arith, h) }

apart : (xs : List ℕ) (k m : ℕ) → set.len (lines_of xs) ≡ length xs → m ≡ suc k → m < length xs
    → get_or xs k 0 ≡ get_or xs m 0 → ⊥
apart [] k m h next b e = omega arith
apart (x ∷ xs) k zero h next b e = omega arith
apart (x ∷ xs) zero (suc m) h next b e =
    true_false (sym (present xs m x (omega arith) (sym e)) ∙ (once x xs h).new)
  where
    true_false : true ≡ false → ⊥
    true_false i = cc
apart (x ∷ xs) (suc k) (suc m) h next b e = apart xs k m (once x xs h).rest (omega arith) (omega arith) e

pub rising : (xs : List ℕ) → IsNonDecreasing xs → set.len (lines_of xs) ≡ length xs → IsStrictlyIncreasing xs
rising xs order h k below =
    let le : get_or xs k 0 ≤ get_or xs (k + 1) 0 = order k (k + 1) 0 (omega arith) below in
    ⊎_elim (λ (e : get_or xs k 0 ≡ get_or xs (k + 1) 0). absurd (apart xs k (k + 1) h (omega arith) below e))
    (λ (e : get_or xs k 0 ≡ get_or xs (k + 1) 0 → ⊥). omega arith) (cases_eq (get_or xs k 0) (get_or xs (k + 1) 0))

pub same_lines : (xs ys : List ℕ) → IsPermutation xs ys → lines_of ys ≡ lines_of xs
same_lines xs ys moved = set.same_set nat_cmp_total set.nat_cmp-IsAntisymmetric (lines_of ys) (lines_of xs) (λ q.
    set.contains-from_list nat_cmp_total ys q ∙ sym (list_any-IsPermutation (eq_by_cmp nat_cmp q) xs ys moved)
    ∙ sym (set.contains-from_list nat_cmp_total xs q))

pub sorted_once : (xs ys : List ℕ) → IsPermutation xs ys → set.len (lines_of xs) ≡ length xs
    → set.len (lines_of ys) ≡ length ys
sorted_once xs ys moved h = ap (λ s. set.len s) (same_lines xs ys moved) ∙ h ∙ sym (length_permutation xs ys moved)

pub pushed : (xs : List ℕ) (l : ℕ) → lines_of (xs ++ l ∷ []) ≡ set.insert (lines_of xs) l
pushed xs l = set.from_list_push nat_cmp_total set.nat_cmp-IsAntisymmetric xs l

pub kept : (s : Lines) (l : ℕ) → set.contains s l ≡ true → set.insert s l ≡ s
kept s l there = set.same_set nat_cmp_total set.nat_cmp-IsAntisymmetric (set.insert s l) s (λ q.
    set.contains-insert nat_cmp_total s l q ∙ ⊎_elim
    (λ (e : q ≡ l). let found : set.contains s q ≡ true = ap (set.contains s) e ∙ there in
    ap (λ t. t || set.contains s q) (unsigned_tied q l ∙ eq-eqb q l e) ∙ sym found)
    (λ (e : q ≡ l → ⊥). ap (λ t. t || set.contains s q) (unsigned_tied q l ∙ ne_eqb q l e))
    (cases_eq q l))
