-- Lists that grow by one element.
use Rattle.std.proofs.Common.{◌≡◌, ℕ, zero, suc, ◌+◌, ◌<◌, Bool, true, false, cond, eqb, ◌||◌, ◌&&◌, not, List, []}
use Rattle.std.proofs.Common.{◌∷◌, ◌++◌, take, length, get_or, Option, Some, None, refl, sym, ap, ◌∙◌, arith}
use Rattle.std.proofs.Common.{⊎_elim}
use Rattle.std.specs.Option.{option_or}
use Rattle.std.proofs.lemmas.Bool.{cases_eq, eq-eqb, ne_eqb}
use Rattle.std.proofs.lemmas.List.Folds.{list_any-append, list_any_more}
use Rattle.tm_page.specs.Applied.{is_listed, stored_at}
use Rattle.tm_page.specs.Shows.{IsAddress}
use Rattle.tm_page.specs.Types.{StoredByte}

-- ---- lines

or_last : (a : Bool) → (a || (true || false)) ≡ (a || (true && true))
or_last true = refl
or_last false = refl

or_none : (a b : Bool) → (a || (false || false)) ≡ (a || (false && b))
or_none true b = refl
or_none false b = refl

stays_out : (a : Bool) → a ≡ (a || (true && false))
stays_out true = refl
stays_out false = refl

or_true : (a : Bool) → (a || true) ≡ true
or_true true = refl
or_true false = refl

stays_off : (a b : Bool) → a ≡ (a || (false && b))
stays_off true b = refl
stays_off false b = refl

-- what stands at a place of a list stands in it
pub stands_there : (lines : List ℕ) (place line : ℕ) → place < length lines → get_or lines place 0 ≡ line
    → is_listed lines line ≡ true
stands_there [] place line h e = absurd (omega arith)
stands_there (first ∷ lines) zero line h e = ap (λ t. t || is_listed lines line) (eq-eqb line first (sym e))
stands_there (first ∷ lines) (suc place) line h e =
    ap (λ t. eqb line first || t) (stands_there lines place line (omega arith) e) ∙ or_true (eqb line first)

-- one that was not there
pub line_joins : (lines old : List ℕ) (new : ℕ) → is_listed old new ≡ false → (line : ℕ) →
    is_listed (lines ++ new ∷ []) line ≡ (is_listed lines line || (eqb line new && not (is_listed old line)))
line_joins lines old new none line =
    list_any-append (eqb line) lines (new ∷ [])
    ∙ ⊎_elim
    (λ (e : line ≡ new).
    let is : eqb line new ≡ true = eq-eqb line new e in
    let out : is_listed old line ≡ false = ap (is_listed old) e ∙ none in
    ap (λ t. is_listed lines line || (t || false)) is
    ∙ or_last (is_listed lines line)
    ∙ sym (ap (λ t. is_listed lines line || (t && not (is_listed old line))) is
    ∙ ap (λ t. is_listed lines line || (true && not t)) out))
    (λ (e : line ≡ new → ⊥).
    let is : eqb line new ≡ false = ne_eqb line new e in
    ap (λ t. is_listed lines line || (t || false)) is
    ∙ or_none (is_listed lines line) (not (is_listed old line))
    ∙ sym (ap (λ t. is_listed lines line || (t && not (is_listed old line))) is))
    (cases_eq line new)

-- one that was
pub line_stays : (lines old : List ℕ) (new : ℕ) → is_listed old new ≡ true → (line : ℕ) →
    is_listed lines line ≡ (is_listed lines line || (eqb line new && not (is_listed old line)))
line_stays lines old new there line =
    ⊎_elim
    (λ (e : line ≡ new).
    let is : eqb line new ≡ true = eq-eqb line new e in
    let in_old : is_listed old line ≡ true = ap (is_listed old) e ∙ there in
    stays_out (is_listed lines line)
    ∙ sym (ap (λ t. is_listed lines line || (t && not (is_listed old line))) is
    ∙ ap (λ t. is_listed lines line || (true && not t)) in_old))
    (λ (e : line ≡ new → ⊥).
    let is : eqb line new ≡ false = ne_eqb line new e in
    stays_off (is_listed lines line) (not (is_listed old line))
    ∙ sym (ap (λ t. is_listed lines line || (t && not (is_listed old line))) is))
    (cases_eq line new)

more : (a b c : Bool) → ((a && c) || (b && c)) ≡ ((a || b) && c)
more true true true = refl
more true true false = refl
more true false true = refl
more true false false = refl
more false b c = refl

-- as far as a loop has come
pub lines_next : (lines now old new : List ℕ) (i : ℕ) → i < length new →
    ((line : ℕ) → is_listed lines line ≡ (is_listed (take i new) line && not (is_listed old line))) →
    ((line : ℕ)
    → is_listed now line ≡ (is_listed lines line || (eqb line (get_or new i 0) && not (is_listed old line)))) →
    (line : ℕ) → is_listed now line ≡ (is_listed (take (i + 1) new) line && not (is_listed old line))
lines_next lines now old new i below before one line =
    one line
    ∙ ap (λ t. t || (eqb line (get_or new i 0) && not (is_listed old line))) (before line)
    ∙ more (is_listed (take i new) line) (eqb line (get_or new i 0)) (not (is_listed old line))
    ∙ ap (λ t. t && not (is_listed old line)) (sym (list_any_more (eqb line) new i 0 below))

-- ---- bytes

pub stored_more : (bytes : List StoredByte) (new : StoredByte) (at : ℕ) →
    stored_at (bytes ++ new ∷ []) at ≡ option_or (stored_at bytes at) (cond (eqb at new.address) (Some new.byte) None)
stored_more [] new at = refl
stored_more (b ∷ bytes) new at = on (eqb at b.address) (stored_more bytes new at)
  where
    on : (t : Bool)
        → stored_at (bytes ++ new ∷ []) at
        ≡ option_or (stored_at bytes at) (cond (eqb at new.address) (Some new.byte) None) →
        cond t (Some b.byte) (stored_at (bytes ++ new ∷ []) at)
        ≡ option_or (cond t (Some b.byte) (stored_at bytes at)) (cond (eqb at new.address) (Some new.byte) None)
    on true h = refl
    on false h = h

-- a byte that is added
pub byte_joins : (f : ℕ → ℕ) (bytes : List StoredByte) (address byte : ℕ) → byte ≡ f address → (at : ℕ) →
    stored_at (bytes ++ record { address = address; byte = byte } ∷ []) at
    ≡ option_or (stored_at bytes at) (cond (eqb at address) (Some (f at)) None)
byte_joins f bytes address byte is at =
    stored_more bytes (record { address = address; byte = byte }) at
    ∙ ap (option_or (stored_at bytes at))
    (⊎_elim
    (λ (e : at ≡ address).
    ap (λ t. cond t (Some byte) None) (eq-eqb at address e) ∙ ap Some (is ∙ ap f (sym e))
    ∙ sym (ap (λ t. cond t (Some (f at)) None) (eq-eqb at address e)))
    (λ (e : at ≡ address → ⊥).
    ap (λ t. cond t (Some byte) None) (ne_eqb at address e)
    ∙ sym (ap (λ t. cond t (Some (f at)) None) (ne_eqb at address e)))
    (cases_eq at address))

or_nothing : (o : Option ℕ) → o ≡ option_or o None
or_nothing None = refl
or_nothing (Some x) = refl

-- one that lies nowhere
pub byte_stays : (f : ℕ → ℕ) (bytes : List StoredByte) (address at : ℕ) → (at ≡ address → ⊥) →
    stored_at bytes at ≡ option_or (stored_at bytes at) (cond (eqb at address) (Some (f at)) None)
byte_stays f bytes address at other =
    or_nothing (stored_at bytes at)
    ∙ sym (ap (λ t. option_or (stored_at bytes at) (cond t (Some (f at)) None)) (ne_eqb at address other))

found : (a b : Bool) (x : ℕ) → option_or (cond a (Some x) None) (cond b (Some x) None) ≡ cond (a || b) (Some x) None
found true b x = refl
found false b x = refl

pub bytes_next : (f : ℕ → ℕ) (size : ℕ) (bytes now : List StoredByte) (addresses : List ℕ) (i : ℕ)
    → i < length addresses →
    ((at : ℕ) → IsAddress size at → stored_at bytes at ≡ cond (is_listed (take i addresses) at) (Some (f at)) None) →
    ((at : ℕ) → IsAddress size at
    → stored_at now at ≡ option_or (stored_at bytes at) (cond (eqb at (get_or addresses i 0)) (Some (f at)) None)) →
    (at : ℕ) → IsAddress size at → stored_at now at ≡ cond (is_listed (take (i + 1) addresses) at) (Some (f at)) None
bytes_next f size bytes now addresses i below before one at within =
    one at within
    ∙ ap (λ o. option_or o (cond (eqb at (get_or addresses i 0)) (Some (f at)) None)) (before at within)
    ∙ found (is_listed (take i addresses) at) (eqb at (get_or addresses i 0)) (f at)
    ∙ ap (λ t. cond t (Some (f at)) None) (sym (list_any_more (eqb at) addresses i 0 below))
