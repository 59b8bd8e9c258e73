-- Lines that are written one after another.
use Rattle.std.proofs.Common.{◌≡◌, ℕ, ◌+◌, List, [], ◌∷◌, ◌++◌, sym, ◌∙◌, ap, append-nil, zero-add, map-id}
use Rattle.std.specs.List.{flat_map, range_with_len}
use Rattle.std.proofs.lemmas.List.Concat.{flat_map-append}
use Rattle.std.proofs.lemmas.List.FromFn.{map-range_with_len_more}

range_more : (i : ℕ) → range_with_len 0 (i + 1) ≡ range_with_len 0 i ++ i ∷ []
range_more i =
    sym (map-id (range_with_len 0 (i + 1))) ∙ map-range_with_len_more (λ k. k) 0 i i (zero-add i)
    ∙ ap (λ ks. ks ++ i ∷ []) (map-id (range_with_len 0 i))

pub lines_more : (f : ℕ → List ℕ) (i : ℕ) →
    flat_map f (range_with_len 0 (i + 1)) ≡ flat_map f (range_with_len 0 i) ++ f i
lines_more f i =
    ap (flat_map f) (range_more i) ∙ flat_map-append f (range_with_len 0 i) (i ∷ [])
    ∙ ap (λ text. flat_map f (range_with_len 0 i) ++ text) (append-nil (f i))
