-- The lines of a listing with labels, one behind the other.
use Rattle.std.proofs.Common.{◌≡◌, ℕ, ◌+◌, ◌-◌, ◌<◌, ◌≤◌, Bool, true, false, leb, if◌then◌else◌, List, ◌++◌, Option}
use Rattle.std.proofs.Common.{Some, None, refl, sym, arith, subst, length, take, drop, length-drop, length-take}
use Rattle.std.proofs.Common.{leb-true, unwrap_or}
use Rattle.ia_foreign.specs.Length.{foreign_length, length_by_maps, within}
use Rattle.text_out.proofs.Writing.{rest_is}
use Rattle.elide_asm.specs.Labelled.{IsLine, IsListed, address_of, foreign_bytes, mark_lines}
use Rattle.symbols.specs.Marks.{marks_at}
use Rattle.symbols.specs.declared.marks.Mark.{Mark}

-- ---- an instruction has at most 15 bytes

picked : (x most n : ℕ) (t : Bool) → leb x most ≡ t → (if t then Some x else None) ≡ Some n → n ≤ most
picked x most n true h e =
    let le : x ≤ most = leb-true _ _ h in
    let same : x ≡ n = cc in
    omega arith
picked x most n false h e = absurd (cc e)

within_most : (most front : ℕ) (behind : Option ℕ) (n : ℕ) → within most front behind ≡ Some n → n ≤ most
within_most most front None n e = absurd (cc e)
within_most most front (Some behind) n e = picked (front + behind) most n (leb (front + behind) most) refl e

foreign_short : (code : List ℕ) (n : ℕ) → foreign_length code ≡ Some n → n ≤ 15
unfolding length_by_maps
foreign_short code n e =
    let few : n ≤ length (take 15 code) = within_most (length (take 15 code)) _ _ n e in
    omega (arith, length-take 15 code)

some_or_one : (o : Option ℕ) → ((n : ℕ) → o ≡ Some n → n ≤ 15) → unwrap_or o 1 ≤ 15
some_or_one None h = omega arith
some_or_one (Some n) h = h n refl

pub foreign_few : (code : List ℕ) → foreign_bytes code ≤ 15
foreign_few code = some_or_one (foreign_length code) (foreign_short code)

-- ---- the next line, in the words of the loop

pub place_inside : (code : List ℕ) (place shown next : ℕ) → place < length code
    → shown ≤ length (take (length code - place) (drop place code)) → next ≡ shown → place + next ≤ length code
place_inside code place shown next inside within same =
    omega (arith, length-take (length code - place) (drop place code), length-drop place code)

pub listed_more : (marks : List Mark) (code : List ℕ) (base place at count next : ℕ) (text shown : List ℕ)
    → place ≤ length code
    → at ≡ address_of base place → next ≡ count → IsListed marks code base place text
    → IsLine marks (take (length code - place) (drop place code)) at count shown
    → IsListed marks code base (place + next) (text ++ (mark_lines (marks_at marks at) ++ shown))
listed_more marks code base place at count next text shown inside here same before entry =
    let there : IsLine marks (drop place code) (address_of base place) count shown =
    subst (λ (a : ℕ). IsLine marks (drop place code) a count shown) here
    (subst (λ (rest : List ℕ). IsLine marks rest at count shown) (rest_is code place inside) entry) in
    subst (λ (a : ℕ). IsListed marks code base (place + next) (text ++ (mark_lines (marks_at marks a) ++ shown)))
    (sym here)
    (subst (λ (n : ℕ). IsListed marks code base (place + n)
    (text ++ (mark_lines (marks_at marks (address_of base place)) ++ shown))) (sym same)
    (IsListed.line place count text shown before there))
