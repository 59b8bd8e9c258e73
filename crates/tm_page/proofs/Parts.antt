-- Lists of lines and of bytes.
use Rattle.std.proofs.Common.{◌≡◌, ℕ, Bool, true, false, cond, eqb, ◌||◌, ◌&&◌, not, List, [], ◌∷◌, ◌++◌}
use Rattle.std.proofs.Common.{Option, Some, None, refl, sym, ap, ◌∙◌}
use Rattle.std.specs.FinMap as map_of
use Rattle.std.specs.FinSet as set
use Rattle.ia_word.specs.Line.{line}
use Rattle.tm_model.specs.Access.{Stores, lines_of, stored_addresses}
use Rattle.tm_model.specs.Shown.{buffer_of}
use Rattle.tm_core.proofs.BufferLemmas.{contains-insert, get-put}
use Rattle.tm_page.specs.Applied.{is_listed}

-- ---- sets that grow

-- a line that was there is there
pub grown : (xs ys : List ℕ) (q : ℕ) → set.contains (lines_of ys) q ≡ true → set.contains (lines_of (xs ++ ys)) q ≡ true
grown [] ys q h = h
grown (x ∷ xs) ys q h =
    contains-insert (lines_of (xs ++ ys)) (line x) q
    ∙ ap (λ t. eqb q (line x) || t) (grown xs ys q h)
    ∙ or_true (eqb q (line x))
  where
    or_true : (b : Bool) → (b || true) ≡ true
    or_true true = refl
    or_true false = refl

-- what there was, and what joined it
pub joined : (now before page new : Bool) → (before ≡ true → now ≡ true) → before ≡ page → new ≡ (now && not before) →
    now ≡ (page || new)
joined now true page new more same is = more refl ∙ ap (λ t. t || new) same
joined true false page new more same is = sym is ∙ ap (λ t. t || new) same
joined false false page new more same is = sym is ∙ ap (λ t. t || new) same

-- from nothing
pub first_joined : (now before new : Bool) → before ≡ false → new ≡ (now && not before) → now ≡ new
first_joined true before new none is = sym (is ∙ ap not none)
first_joined false before new none is = sym is

-- ---- stores

pub append-stored : (xs ys : Stores) → stored_addresses (xs ++ ys) ≡ stored_addresses xs ++ stored_addresses ys
append-stored [] ys = refl
append-stored (x ∷ xs) ys = λ i. x.0 ∷ append-stored xs ys i

apart_at : (t rest : Bool) (x : ℕ) (o p : Option ℕ) → (rest ≡ false → o ≡ p) → (t || rest) ≡ false
    → cond t (Some x) o ≡ p
apart_at true rest x o p h e = cc
apart_at false rest x o p h e = h e

-- an address that is not stored to keeps its byte
pub apart : (ws xs : Stores) (a : ℕ) → is_listed (stored_addresses ws) a ≡ false →
    map_of.get (buffer_of (ws ++ xs)) a ≡ map_of.get (buffer_of xs) a
apart [] xs a h = refl
apart (w ∷ ws) xs a h =
    get-put (buffer_of (ws ++ xs)) w.0 w.1 a
    ∙ apart_at (eqb a w.0) (is_listed (stored_addresses ws) a) w.1 (map_of.get (buffer_of (ws ++ xs)) a)
    (map_of.get (buffer_of xs) a) (λ none. apart ws xs a none) h

found_at : (t rest : Bool) (x : ℕ) (o : Option ℕ) → (rest ≡ true → (byte : ℕ) × (o ≡ Some byte)) → (t || rest) ≡ true →
    (byte : ℕ) × (cond t (Some x) o ≡ Some byte)
found_at true rest x o h e = (x, refl)
found_at false rest x o h e = h e

-- one that is has a byte
pub has_byte : (ws xs : Stores) (a : ℕ) → is_listed (stored_addresses ws) a ≡ true →
    (byte : ℕ) × (map_of.get (buffer_of (ws ++ xs)) a ≡ Some byte)
has_byte [] xs a h = cc
has_byte (w ∷ ws) xs a h =
    let found : (byte : ℕ) × (cond (eqb a w.0) (Some w.1) (map_of.get (buffer_of (ws ++ xs)) a) ≡ Some byte) =
    found_at (eqb a w.0) (is_listed (stored_addresses ws) a) w.1 (map_of.get (buffer_of (ws ++ xs)) a)
    (λ there. has_byte ws xs a there) h in
    (found.0, get-put (buffer_of (ws ++ xs)) w.0 w.1 a ∙ found.1)

none_at : (t rest : Bool) (x : ℕ) (o : Option ℕ) → (o ≡ None → rest ≡ false) → cond t (Some x) o ≡ None
    → (t || rest) ≡ false
none_at true rest x o h e = cc
none_at false rest x o h e = h e

-- an address without a byte was not stored to
pub no_byte : (ws : Stores) (a : ℕ) → map_of.get (buffer_of ws) a ≡ None → is_listed (stored_addresses ws) a ≡ false
no_byte [] a h = refl
no_byte (w ∷ ws) a h =
    none_at (eqb a w.0) (is_listed (stored_addresses ws) a) w.1 (map_of.get (buffer_of ws) a)
    (λ none. no_byte ws a none)
    (sym (get-put (buffer_of ws) w.0 w.1 a) ∙ h)
