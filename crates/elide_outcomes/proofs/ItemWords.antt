-- The words of the items.
use Rattle.std.proofs.Common.{◌≡◌, ℕ, List, [], ◌∷◌, ◌++◌, Bor, codes, ap, refl}
use Rattle.std.specs.List.{flat_map}
use Rattle.elide_args.specs.Asked.{texts_of}
use Rattle.elide_outcomes.specs.Lines.{words_text}

pub words_same : (words : List (Bor (List ℕ))) →
    flat_map (λ (word : Bor (List ℕ)). codes " " ++ word.now) words ≡ words_text (texts_of words)
words_same [] = refl
words_same (word ∷ words) = ap (λ l. codes " " ++ word.now ++ l) (words_same words)
