-- What is gone over some at a time, and the laws of it.
use Rattle.std.specs.Prelude.{◌≡◌, List, [], ◌∷◌, ◌++◌, refl}
use Rattle.std.proofs.Common.{sym, ◌∙◌, ap, subst, append_assoc}
use Rattle.ia_item.specs.declared.item.Entry.{Entry}
use Rattle.ia_layout.specs.Placement.{LayoutState, EntryPlace, place_at, next, places, after}

-- as much is given with whatever follows as was before, with these in between
abbrev pub Keeps : {S X G : Type 0} → (S → List X → G) → S → List X → S → Type 0
Keeps {X = X} given a xs b = (more : List X) → given b more ≡ given a (xs ++ more)

pub keeps_both : {S X G : Type 0} (given : S → List X → G) (a b c : S) (xs ys : List X)
    → Keeps given a xs b → Keeps given b ys c → Keeps given a (xs ++ ys) c
keeps_both given a b c xs ys x y more = y more ∙ x (ys ++ more) ∙ sym (ap (given a) (append_assoc xs ys more))

-- ---- places

places_parts : (s : LayoutState) (es fs : List Entry) → places s (es ++ fs) ≡ places s es ++ places (after s es) fs
places_parts s [] fs = refl
places_parts s (e ∷ es) fs = ap (λ ps. place_at s e ∷ ps) (places_parts (next s e) es fs)

after_parts : (s : LayoutState) (es fs : List Entry) → after s (es ++ fs) ≡ after (after s es) fs
after_parts s [] fs = refl
after_parts s (e ∷ es) fs = after_parts (next s e) es fs

pub after_both : (s t u : LayoutState) (es fs : List Entry) → t ≡ after s es → u ≡ after t fs → u ≡ after s (es ++ fs)
after_both s t u es fs x y = y ∙ ap (λ z. after z fs) x ∙ sym (after_parts s es fs)

-- what takes the places of some entries, and then those of the ones behind
pub taken_both : {T : Type 0} (Taken : T → List EntryPlace → T → Type 0)
    → ((a b c : T) (ps qs : List EntryPlace) → Taken a ps b → Taken b qs c → Taken a (ps ++ qs) c)
    → (a b c : T) (s t : LayoutState) (es fs : List Entry) → t ≡ after s es
    → Taken a (places s es) b → Taken b (places t fs) c → Taken a (places s (es ++ fs)) c
taken_both Taken goes_on a b c s t es fs is x y =
    subst (λ ps. Taken a ps c) (sym (places_parts s es fs))
    (goes_on a b c (places s es) (places (after s es) fs) x (subst (λ z. Taken b (places z fs) c) is y))
