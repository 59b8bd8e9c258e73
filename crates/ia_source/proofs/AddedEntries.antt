-- Entries, one by one.
use Rattle.std.proofs.Common.{◌≡◌, ℕ, ◌+◌, ◌≤◌, Bool, List, [], ◌∷◌, ◌++◌, Option, Some, None, sym, ◌∙◌, ap, map, subst}
use Rattle.std.proofs.Common.{take, drop, length, ◌-◌}
use Rattle.std.specs.Prelude.{Result, Ok, Err, MatchResult}
use Rattle.std.proofs.lemmas.List.{map-append, take_rest}
use Rattle.std.specs.List.{prefix_len}
use Rattle.ia_item.specs.declared.item.Entry.{Entry}
use Rattle.ia_lex.specs.declared.token.Token.{Token}
use Rattle.ia_lex.specs.Tokens.{Lexeme, lexeme_of}
use Rattle.ia_source.specs.Contents.{EntryContent, Reading, entry_content}
use Rattle.ia_source.specs.Commas.{goes_on, pieces_from}
use Rattle.ia_source.specs.Statements.{StateContent, Values, with_entries, value_onto, by_value, values_onto, IsBad}
use Rattle.ia_source.specs.declared.fault.SourceFault.{SourceFault}
use Rattle.ia_source.specs.declared.fault.SourceFault.TheVariants as fault
use Rattle.ia_source.proofs.Commas.{pieces_step}

pub one_more : (r : Reading) (xs : List Entry) (x : Entry)
    → map (entry_content r) (xs ++ x ∷ []) ≡ map (entry_content r) xs ++ entry_content r x ∷ []
one_more r xs x = map-append (entry_content r) xs (x ∷ [])

-- the piece of tokens that a value is read from
pub piece_is : (xs : List Token) (place end : ℕ) → place ≤ length xs
    → end ≡ prefix_len goes_on (take (length xs - place) (drop place xs))
    → end ≤ length (take (length xs - place) (drop place xs))
    → pieces_from place xs
    ≡ map lexeme_of (take end (take (length xs - place) (drop place xs))) ∷ pieces_from (place + (end + 1)) xs
piece_is xs place end h e w =
    let same : take (length xs - place) (drop place xs) ≡ drop place xs = take_rest xs place in
    pieces_step xs place end h (e ∙ ap (prefix_len goes_on) same) (rw same at w)
    ∙ ap (λ (l : List Token). map lexeme_of (take end l) ∷ pieces_from (place + (end + 1)) xs) (sym same)

-- one more value is read
pub value_read : (long : Bool) (at : StateContent) (v new : Values) (p : List Lexeme) (all ps : List (List Lexeme))
    → all ≡ p ∷ ps → value_onto long at v p ≡ Some new
    → values_onto long at new ps ≡ values_onto long at v all
value_read long at v new p all ps a e =
    sym (ap (values_onto long at v) a ∙ ap (λ f. by_value f (λ more. values_onto long at more ps)) e)

pub value_unread : (long : Bool) (at : StateContent) (v : Values) (p : List Lexeme) (all ps : List (List Lexeme))
    → all ≡ p ∷ ps → value_onto long at v p ≡ None
    → values_onto long at v all ≡ None
value_unread long at v p all ps a e =
    ap (values_onto long at v) a ∙ ap (λ f. by_value f (λ more. values_onto long at more ps)) e

-- what was not added with one reading was not added with another
pub bad_too : (found : Option Values) (other : Option (List EntryContent)) (line : ℕ) (f : SourceFault)
    → (found ≡ None → other ≡ None) → IsBad found line f → IsBad other line f
bad_too found other line (fault.Line l why) same h = (same h.0, h.1, h.2)
bad_too found other line fault.NoMemory same h = tt

-- what a call told of one reading, it told of another that comes to the same
pub told : {X : Type 0} (result : Result X SourceFault) (found other : Option (List EntryContent))
    (new : List EntryContent) (line : ℕ) → other ≡ found
    → MatchResult result (λ _. found ≡ Some new) (IsBad found line)
    → MatchResult result (λ _. other ≡ Some new) (IsBad other line)
told result found other new line e h =
    subst (λ (o : Option (List EntryContent)). MatchResult result (λ _. o ≡ Some new) (IsBad o line)) (sym e) h

-- the same of an item that is a value
pub told_too : {X : Type 0} (result : Result X SourceFault) (found : Option (List EntryContent)) (other : Option Values)
    (new : List EntryContent) (run : List ℕ) (line : ℕ)
    → other ≡ with_entries found → run ≡ []
    → MatchResult result (λ _. found ≡ Some new) (IsBad found line)
    → MatchResult result (λ _. other ≡ Some (record { entries = new; run = run })) (IsBad other line)
told_too (Ok x) found other new run line e none h =
    e ∙ ap with_entries h ∙ ap (λ r. Some (record { entries = new; run = r })) (sym none)
told_too (Err (fault.Line l why)) found other new run line e none h = (e ∙ ap with_entries h.0, h.1, h.2)
told_too (Err fault.NoMemory) found other new run line e none h = tt
