-- Bytes that are kept, some more and some fewer.
use Rattle.std.proofs.Common.{◌≡◌, ◌∙◌, ℕ, ◌+◌, ◌<◌, Bool, true, false, cond, List, [], ◌∷◌, ◌++◌, ◌&&◌, ◌||◌, ap}
use Rattle.std.proofs.Common.{sym, refl, take, length, get_or, ⊎_elim}
use Rattle.std.proofs.lemmas.Bool.{cases_eq, eqb-true, ne_eqb}
use Rattle.std.proofs.lemmas.List.Folds.{list_any-append, list_any_more}
use Rattle.std.proofs.lemmas.List.Sorted.{IsPermutation-insert, list_any-IsPermutation}
use Rattle.std.specs.List.{insert}
use Rattle.std.specs.Prelude.{nat_eq}
use Rattle.tm_page.specs.Applied.{is_listed}
use Rattle.tm_page.specs.declared.delta.StoredByte.{StoredByte}
use Rattle.page_telling.specs.Kept.{OthersStay, is_kept, is_of, is_stored}
use Rattle.page_telling.specs.declared.kept.KeptByte.{KeptByte}

or_false : (t : Bool) → (t || false) ≡ t
or_false true = refl
or_false false = refl

or_swap : (s t : Bool) → (s || t) ≡ (t || s)
or_swap true true = refl
or_swap true false = refl
or_swap false true = refl
or_swap false false = refl

or_both : (a c s t : Bool) → ((a || (c && s)) || (c && t)) ≡ (a || (c && (s || t)))
or_both true c s t = refl
or_both false true s t = refl
or_both false false s t = refl

-- ---- one more

pub kept_more : (bytes : List KeptByte) (place : ℕ) (byte : KeptByte) (other at : ℕ) →
    is_kept (insert bytes place byte) other at ≡ (is_kept bytes other at || is_of other at byte)
kept_more bytes place byte other at =
    sym (list_any-IsPermutation (is_of other at) (byte ∷ bytes) (insert bytes place byte)
    (IsPermutation-insert bytes place byte))
    ∙ or_swap (is_of other at byte) (is_kept bytes other at)

-- one that was there
pub kept_there : (bytes : List KeptByte) (core address : ℕ) → is_kept bytes core address ≡ true → (other at : ℕ) →
    is_kept bytes other at ≡ (is_kept bytes other at || (nat_eq other core && nat_eq at address))
kept_there bytes core address there other at =
    ⊎_elim
    (λ (e : other ≡ core). ⊎_elim
    (λ (f : at ≡ address).
    let is : is_kept bytes other at ≡ true = ap (λ n. is_kept bytes n at) e ∙ ap (is_kept bytes core) f ∙ there in
    is ∙ sym (ap (λ t. t || (nat_eq other core && nat_eq at address)) is))
    (λ (f : at ≡ address → ⊥). none (nat_eq other core) (ne_eqb at address f))
    (cases_eq at address))
    (λ (e : other ≡ core → ⊥). sym (ap (λ t. is_kept bytes other at || (t && nat_eq at address)) (ne_eqb other core e)
    ∙ or_false (is_kept bytes other at)))
    (cases_eq other core)
  where
    none : (is : Bool) → nat_eq at address ≡ false
        → is_kept bytes other at ≡ (is_kept bytes other at || (is && nat_eq at address))
    none true e = sym (ap (λ t. is_kept bytes other at || t) e ∙ or_false (is_kept bytes other at))
    none false e = sym (or_false (is_kept bytes other at))

-- those of a list, one by one
pub kept_all : (bytes now : List KeptByte) (stored : List StoredByte) (core i : ℕ) (d : StoredByte)
    → i < length stored →
    (old : List KeptByte)
    → ((other at : ℕ)
    → is_kept bytes other at ≡ (is_kept old other at || (nat_eq other core && is_stored (take i stored) at))) →
    ((other at : ℕ)
    → is_kept now other at ≡ (is_kept bytes other at || (nat_eq other core && nat_eq at (get_or stored i d).address))) →
    (other at : ℕ)
    → is_kept now other at ≡ (is_kept old other at || (nat_eq other core && is_stored (take (i + 1) stored) at))
kept_all bytes now stored core i d below old before one other at =
    one other at
    ∙ ap (λ t. t || (nat_eq other core && nat_eq at (get_or stored i d).address)) (before other at)
    ∙ or_both (is_kept old other at) (nat_eq other core) (is_stored (take i stored) at)
    (nat_eq at (get_or stored i d).address)
    ∙ ap (λ t. is_kept old other at || (nat_eq other core && t))
    (sym (list_any_more (λ (byte : StoredByte). nat_eq at byte.address) stored i d below))

-- ---- the addresses of a core's

pub listed_more : (row now : List ℕ) (bytes : List KeptByte) (core i : ℕ) (d : KeptByte) → i < length bytes →
    ((at : ℕ) → is_listed row at ≡ is_kept (take i bytes) core at) →
    now ≡ row ++ cond (nat_eq core (get_or bytes i d).core) ((get_or bytes i d).address ∷ []) [] →
    (at : ℕ) → is_listed now at ≡ is_kept (take (i + 1) bytes) core at
listed_more row now bytes core i d below before is at =
    let byte = get_or bytes i d in
    ap (λ l. is_listed l at) is
    ∙ list_any-append (nat_eq at) row (cond (nat_eq core byte.core) (byte.address ∷ []) [])
    ∙ ap (λ t. t || is_listed (cond (nat_eq core byte.core) (byte.address ∷ []) []) at) (before at)
    ∙ ap (λ t. is_kept (take i bytes) core at || t) (on byte (nat_eq core byte.core))
    ∙ sym (list_any_more (is_of core at) bytes i d below)
  where
    on : (byte : KeptByte) (t : Bool) → is_listed (cond t (byte.address ∷ []) []) at ≡ (t && nat_eq at byte.address)
    on byte true = or_false (nat_eq at byte.address)
    on byte false = refl

-- ---- without a core's

pub left_more : (left now bytes : List KeptByte) (core i : ℕ) (d : KeptByte) → i < length bytes →
    OthersStay core (take i bytes) left →
    now ≡ left ++ cond (nat_eq (get_or bytes i d).core core) [] (get_or bytes i d ∷ []) →
    OthersStay core (take (i + 1) bytes) now
left_more left now bytes core i d below before is other at apart =
    let byte = get_or bytes i d in
    ap (λ l. is_kept l other at) is
    ∙ list_any-append (is_of other at) left (cond (nat_eq byte.core core) [] (byte ∷ []))
    ∙ ap (λ t. t || is_kept (cond (nat_eq byte.core core) [] (byte ∷ [])) other at) (before other at apart)
    ∙ ap (λ t. is_kept (take i bytes) other at || t) (on byte (nat_eq byte.core core) refl)
    ∙ sym (list_any_more (is_of other at) bytes i d below)
  where
    on : (byte : KeptByte) (t : Bool) → nat_eq byte.core core ≡ t
        → is_kept (cond t [] (byte ∷ [])) other at ≡ is_of other at byte
    on byte true e = sym (ap (λ t. t && nat_eq at byte.address)
        (ne_eqb other byte.core (λ same. apart (same ∙ eqb-true byte.core core e))))
    on byte false e = or_false (is_of other at byte)
