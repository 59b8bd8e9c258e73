-- Sets of lines that are the same: one is within the other, and has as many lines.
use Rattle.std.proofs.Common.{◌≡◌, ℕ, suc, ◌+◌, ◌-◌, Bool, true, false, cond, eqb, not, ◌&&◌, ◌||◌, List, [], ◌∷◌}
use Rattle.std.proofs.Common.{length, get_or, ◌<◌, ◌≤◌, refl, sym, ap, ◌∙◌, ⊎_elim, arith}
use Rattle.std.proofs.lemmas.Bool.{cases_eq, eq-eqb, ne_eqb}
use Rattle.std.specs.Ordering.{nat_cmp}
use Rattle.std.specs.Cmp.{nat_cmp_total, unsigned_tied}
use Rattle.std.specs.FinSet as set
use Rattle.tm_sets.specs.LineSet.{Lines, lines_of}
use Rattle.tm_sets.proofs.Counting.{tested, never, fails, same_test}
use Rattle.tm_sets.proofs.Lists.{contains_cons, kept, len_push, present}

-- each line of the one is in the other
abbrev pub Within : Lines → Lines → Type 0
Within s t = (q : ℕ) → set.contains s q ≡ true → set.contains t q ≡ true

pub same_sets : (s t : Lines) → Within s t → Within t s → s ≡ t
same_sets s t to back = set.same_set nat_cmp_total set.nat_cmp-IsAntisymmetric s t
    (λ q. same_test (set.contains s q) (set.contains t q) (to q) (back q))

pub itself : (s t : Lines) → s ≡ t → set.is_subset s t ≡ true
itself s t e = set.contains-is_subset nat_cmp_total s t (λ q i. sym (ap (λ u. set.contains u q) e) ∙ i)

-- a line that was put into a set is the new one or was there before
pub inserted : (s : Lines) (x q : ℕ) → set.contains (set.insert s x) q ≡ (eqb q x || set.contains s q)
inserted s x q = set.contains-insert nat_cmp_total s x q ∙ ap (λ t. t || set.contains s q) (unsigned_tied q x)

removed : (s : Lines) (x q : ℕ) → set.contains (set.remove s x) q ≡ (not (eqb q x) && set.contains s q)
removed s x q = set.contains-remove nat_cmp_total s x q ∙ ap (λ t. not t && set.contains s q) (unsigned_tied q x)

pub newest : (s : Lines) (x : ℕ) → set.contains (set.insert s x) x ≡ true
newest s x = inserted s x x ∙ ap (λ t. t || set.contains s x) (eq-eqb x x refl)

pub older : (s : Lines) (x q : ℕ) → set.contains s q ≡ true → set.contains (set.insert s x) q ≡ true
older s x q i = inserted s x q ∙ or_right (eqb q x) (set.contains s q) i
  where
    or_right : (a b : Bool) → b ≡ true → (a || b) ≡ true
    or_right true b e = refl
    or_right false b e = e

apart : (s : Lines) (x q : ℕ) → (q ≡ x → ⊥) → set.contains (set.remove s x) q ≡ set.contains s q
apart s x q d = removed s x q ∙ ap (λ t. not t && set.contains s q) (ne_eqb q x d)

gone : (s : Lines) (x : ℕ) → set.contains (set.remove s x) x ≡ false
gone s x = removed s x x ∙ ap (λ t. not t && set.contains s x) (eq-eqb x x refl)

len_gone : (s : Lines) (x : ℕ) → set.contains s x ≡ true → set.len (set.remove s x) ≡ set.len s - 1
len_gone s x i = set.len-remove nat_cmp_total s x ∙ ap (λ t. cond t (set.len s - 1) (set.len s)) i

put_back : (s : Lines) (x : ℕ) → set.contains s x ≡ true → set.insert (set.remove s x) x ≡ s
put_back s x i = same_sets (set.insert (set.remove s x) x) s
    (λ q t. ⊎_elim (λ (e : q ≡ x). ap (set.contains s) e ∙ i)
    (λ (e : q ≡ x → ⊥). sym (apart s x q e) ∙ sym (ap (λ b. b || set.contains (set.remove s x) q) (ne_eqb q x e))
    ∙ sym (inserted (set.remove s x) x q) ∙ t)
    (cases_eq q x))
    (λ q t. ⊎_elim (λ (e : q ≡ x). ap (set.contains (set.insert (set.remove s x) x)) e ∙ newest (set.remove s x) x)
    (λ (e : q ≡ x → ⊥). older (set.remove s x) x q (apart s x q e ∙ t))
    (cases_eq q x))

-- a set of lines within another that has as many is the other
pub same_of_len : (xs : List ℕ) (t : Lines) → Within (lines_of xs) t → set.len (lines_of xs) ≡ set.len t
    → lines_of xs ≡ t
same_of_len [] t to len = sym (set.empty_of_len t (sym len ∙ set.len-empty nat_cmp))
same_of_len (x ∷ xs) t to len = ⊎_elim
    (λ (there : set.contains (lines_of xs) x ≡ true).
    let same : lines_of (x ∷ xs) ≡ lines_of xs = kept (lines_of xs) x there in
    same ∙ same_of_len xs t (λ q i. to q (older (lines_of xs) x q i)) (sym (ap set.len same) ∙ len))
    (λ (new : set.contains (lines_of xs) x ≡ false).
    let here : set.contains t x ≡ true = to x (newest (lines_of xs) x) in
    let more : set.len (lines_of (x ∷ xs)) ≡ set.len (lines_of xs) + 1 = len_push (lines_of xs) x new in
    let less = len_gone t x here in
    let rest : lines_of xs ≡ set.remove t x = same_of_len xs (set.remove t x)
    (λ q i. apart t x q (λ e. never (set.contains (lines_of xs) x) (sym (ap (set.contains (lines_of xs)) e) ∙ i) new)
    ∙ to q (older (lines_of xs) x q i))
    (omega arith) in
    ap (λ s. set.insert s x) rest ∙ put_back t x here)
    (tested (set.contains (lines_of xs) x))

-- where each line of a list is in a set, the lines of the list are within it
pub all_within : (xs : List ℕ) (t : Lines) → ((k : ℕ) → k < length xs → set.contains t (get_or xs k 0) ≡ true)
    → Within (lines_of xs) t
all_within [] t h q i = never (set.contains (lines_of []) q) i (set.contains-empty nat_cmp q)
all_within (x ∷ xs) t h q i = ⊎_elim
    (λ (e : q ≡ x). ap (set.contains t) e ∙ h 0 (omega arith))
    (λ (d : q ≡ x → ⊥). all_within xs t (λ k b. h (suc k) (omega arith)) q
    (sym (ap (λ s. s || set.contains (lines_of xs) q) (unsigned_tied q x ∙ ne_eqb q x d))
    ∙ sym (contains_cons x q xs) ∙ i))
    (cases_eq q x)

pub subset_of : (xs : List ℕ) (t : Lines) → ((k : ℕ) → k < length xs → set.contains t (get_or xs k 0) ≡ true)
    → set.is_subset (lines_of xs) t ≡ true
subset_of xs t h = set.contains-is_subset nat_cmp_total (lines_of xs) t (all_within xs t h)

pub not_subset : (xs : List ℕ) (t : Lines) (i l : ℕ) → i < length xs → get_or xs i 0 ≡ l → set.contains t l ≡ false
    → set.is_subset (lines_of xs) t ≡ false
not_subset xs t i l b e f = fails (set.is_subset (lines_of xs) t)
    (λ s. never (set.contains t l) (set.is_subset-contains nat_cmp_total (lines_of xs) t s l (present xs i l b e)) f)

pub same_of_subset : (xs : List ℕ) (t : Lines) → set.len (lines_of xs) ≡ set.len t
    → set.is_subset (lines_of xs) t ≡ true → lines_of xs ≡ t
same_of_subset xs t len s = same_of_len xs t (set.is_subset-contains nat_cmp_total (lines_of xs) t s) len

-- a set of lines within another has no more
len_within : (xs : List ℕ) (t : Lines) → Within (lines_of xs) t → set.len (lines_of xs) ≤ set.len t
len_within [] t to = let none : set.len (lines_of []) ≡ 0 = set.len-empty nat_cmp in omega arith
len_within (x ∷ xs) t to = ⊎_elim
    (λ (there : set.contains (lines_of xs) x ≡ true).
    let same = ap set.len (kept (lines_of xs) x there) in
    omega (arith, same, len_within xs t (λ q i. to q (older (lines_of xs) x q i))))
    (λ (new : set.contains (lines_of xs) x ≡ false).
    let here : set.contains t x ≡ true = to x (newest (lines_of xs) x) in
    let more : set.len (lines_of (x ∷ xs)) ≡ set.len (lines_of xs) + 1 = len_push (lines_of xs) x new in
    let back : set.len t ≡ set.len (set.remove t x) + 1 =
    ap set.len (sym (put_back t x here)) ∙ len_push (set.remove t x) x (gone t x) in
    let rest = len_within xs (set.remove t x)
    (λ q i. apart t x q (λ e. never (set.contains (lines_of xs) x) (sym (ap (set.contains (lines_of xs)) e) ∙ i) new)
    ∙ to q (older (lines_of xs) x q i)) in
    omega (arith, more, back, rest))
    (tested (set.contains (lines_of xs) x))

-- and fewer, where it lacks one of the other's
pub fewer_within : (xs : List ℕ) (t : Lines) (x : ℕ) → Within (lines_of xs) t → set.contains (lines_of xs) x ≡ false
    → set.contains t x ≡ true
    → set.len (lines_of xs) < set.len t
fewer_within xs t x to new here =
    let more : set.len (lines_of (x ∷ xs)) ≡ set.len (lines_of xs) + 1 = len_push (lines_of xs) x new in
    let all = len_within (x ∷ xs) t (λ q i. ⊎_elim
    (λ (e : q ≡ x). ap (set.contains t) e ∙ here)
    (λ (d : q ≡ x → ⊥). to q
    (sym (inserted (lines_of xs) x q ∙ ap (λ b. b || set.contains (lines_of xs) q) (ne_eqb q x d)) ∙ i))
    (cases_eq q x)) in
    omega (arith, more, all)
