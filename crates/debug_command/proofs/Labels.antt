-- A text of one part for each label.
use Rattle.std.proofs.Common.{◌≡◌, ◌≢◌, refl, true, false, ℕ, suc, ◌<◌, List, ◌∷◌, ◌++◌, sym, ◌∙◌, ap, subst, take}
use Rattle.std.proofs.Common.{drop, length, get_or, drop-cons}
use Rattle.std.specs.Prelude.{◌==◌}
use Rattle.std.specs.List.{flat_map}
use Rattle.std.proofs.lemmas.Bool.{eq-eqb, ne_eqb}
use Rattle.symbols.specs.declared.symbol.Symbol.{Symbol}
use Rattle.ia_text.specs.Listing.{listing_line}
use Rattle.debug_command.specs.Places.{labelled_line, names_text}
use Rattle.std.proofs.lemmas.Grind.{flat_map-append}
use Rattle.std.proofs.lemmas.List.{take-append-drop}
use Rattle.text_out.specs.Writing.{Device, Stopped, Wrote}
use Rattle.text_out.proofs.Writing.{stopped_first, stopped_then}

-- the parts before i were written, and a beginning of the part at i
pub stopped_at : {X : Type 0} {a b c : Device} (f : X → List ℕ) (xs : List X) (i : ℕ) (x : X) → i < length xs
    → x ≡ get_or xs i x → Wrote a b (flat_map f (take i xs)) → Stopped b c (f x) → Stopped a c (flat_map f xs)
stopped_at {X} {a} {b} {c} f xs i x within is h k =
    let P : List ℕ → Type 0 = λ l. Stopped a c l in
    let part : Stopped b c (f (get_or xs i x)) = subst (λ (y : X). Stopped b c (f y)) is k in
    let parted : flat_map f (take i xs) ++ (f (get_or xs i x) ++ flat_map f (drop (suc i) xs)) ≡ flat_map f xs =
    sym (flat_map-append f (take i xs) (get_or xs i x ∷ drop (suc i) xs))
    ∙ ap (λ l. flat_map f (take i xs ++ l)) (sym (drop-cons xs i x within)) ∙ ap (flat_map f) (take-append-drop i xs) in
    subst P parted (stopped_then h (stopped_first (flat_map f (drop (suc i) xs)) part))

pub of_no_code : (labels : List Symbol) (code : List ℕ) (at : ℕ) → length code ≡ 0
    → listing_line code at ≡ labelled_line labels code at
of_no_code labels code at none = let t : (length code == 0) ≡ true = eq-eqb (length code) 0 none in rw t refl

pub of_code : (labels : List Symbol) (code : List ℕ) (at : ℕ) → length code ≢ 0
    → names_text labels at ++ listing_line code at ≡ labelled_line labels code at
of_code labels code at some = let f : (length code == 0) ≡ false = ne_eqb (length code) 0 some in rw f refl
