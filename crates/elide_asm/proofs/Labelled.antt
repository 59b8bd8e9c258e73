-- Lines one behind the other.
use Rattle.std.proofs.Common.{◌≡◌, ℕ, ◌+◌, ◌<◌, List, [], ◌∷◌, ◌++◌, sym, ap, ◌∙◌, subst, length, take, get_or}
use Rattle.std.proofs.Common.{append-nil}
use Rattle.std.specs.List.{flat_map}
use Rattle.std.proofs.lemmas.List.{take_more}
use Rattle.std.proofs.lemmas.List.Concat.{flat_map-append}
use Rattle.text_out.proofs.Writing.{wrote_then}
use Rattle.text_out.specs.Writing.{Device, Wrote}

-- the line of the next label
pub wrote_more : {X : Type 0} (f : X → List ℕ) (xs : List X) (i : ℕ) (x : X) {a b c : Device} → i < length xs
    → x ≡ get_or xs i x
    → Wrote a b (flat_map f (take i xs)) → Wrote b c (f x) → Wrote a c (flat_map f (take (i + 1) xs))
wrote_more f xs i x {a} {b} {c} inside is done next =
    let parts : flat_map f (take i xs) ++ f x ≡ flat_map f (take (i + 1) xs) =
    sym (ap (flat_map f) (take_more xs i x inside) ∙ flat_map-append f (take i xs) (get_or xs i x ∷ [])
    ∙ ap (λ l. flat_map f (take i xs) ++ l) (append-nil (f (get_or xs i x)))
    ∙ ap (λ y. flat_map f (take i xs) ++ f y) (sym is)) in
    subst (λ (text : List ℕ). Wrote a c text) parts (wrote_then done next)
