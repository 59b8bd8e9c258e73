-- Entry after entry.
use Rattle.std.proofs.Common.{◌≡◌, ℕ, ◌+◌, ◌<◌, List, [], ◌∷◌, ◌++◌, sym, ◌∙◌, ap, subst, length, drop, get_or}
use Rattle.std.specs.Prelude.{ℤ}
use Rattle.std.proofs.lemmas.List.{drop_more}
use Rattle.std.proofs.lemmas.Grind.{fold-append}
use Rattle.indexmap.specs.IndexMap.{insert_all, insert_entry}
use Rattle.ia_item.specs.declared.symbol.Symbol.{Symbol}
use Rattle.ia_item.specs.Names.{same_symbol}
use Rattle.ia_item.specs.declared.item.Entry.{Entry}
use Rattle.ia_layout.specs.Placement.{LayoutState, EntryPlace, place_at, next, places, after}

pub after_next : (s t u : LayoutState) (es : List Entry) (i : ℕ) (e : Entry) → i < length es → e ≡ get_or es i e
    → t ≡ next s e → after s (drop i es) ≡ u → after t (drop (i + 1) es) ≡ u
after_next s t u es i e h is there x =
    ap (λ z. after z (drop (i + 1) es)) (there ∙ ap (next s) is) ∙ sym (ap (after s) (drop_more es i e h)) ∙ x

-- the place of an entry is taken, and then those of the ones behind
pub taken_next : {T : Type 0} (Taken : T → List EntryPlace → T → Type 0)
    → ((a b c : T) (ps qs : List EntryPlace) → Taken a ps b → Taken b qs c → Taken a (ps ++ qs) c)
    → (a b c : T) (s t : LayoutState) (p : EntryPlace) (es : List Entry) (i : ℕ) (e : Entry) → i < length es
    → e ≡ get_or es i e → p ≡ place_at s e → t ≡ next s e
    → Taken a (p ∷ []) b → Taken b (places t (drop (i + 1) es)) c → Taken a (places s (drop i es)) c
taken_next Taken goes_on a b c s t p es i e h is here there x y =
    let first : p ≡ place_at s (get_or es i e) = here ∙ ap (place_at s) is in
    let state : t ≡ next s (get_or es i e) = there ∙ ap (next s) is in
    subst (λ ps. Taken a ps c)
    (ap (λ q. q ∷ places t (drop (i + 1) es)) first
    ∙ ap (λ z. place_at s (get_or es i e) ∷ places z (drop (i + 1) es)) state
    ∙ sym (ap (places s) (drop_more es i e h)))
    (goes_on a b c (p ∷ []) (places t (drop (i + 1) es)) x y)

-- ---- what each place gives, one after the other

pub insert_parts : (es xs ys : List (Symbol × ℤ))
    → insert_all same_symbol es (xs ++ ys) ≡ insert_all same_symbol (insert_all same_symbol es xs) ys
insert_parts es xs ys = fold-append (λ done p. insert_entry same_symbol done p.0 p.1) es xs ys
