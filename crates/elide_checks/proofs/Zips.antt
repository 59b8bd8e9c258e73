-- Lists of which a relation holds, place by place.
use Rattle.std.proofs.Common.{◌≡◌, ◌∙◌, ℕ, zero, suc, ◌+◌, ◌<◌, List, [], ◌∷◌, ◌++◌, Bor, ap, append_assoc, subst, take}
use Rattle.std.proofs.Common.{arith, length, slice_index_or as get_or}
use Rattle.std.specs.List.{AllZip}
use Rattle.elide_checks.specs.Added.{AreAdded}

zip_more : {A B : Type 0} (R : A → B → Type 0) (xs : List A) (ys : List B) (i : ℕ) (d : A) (y : B) → i < length xs
    → AllZip R (take i xs) ys → R (get_or xs i d) y → AllZip R (take (i + 1) xs) (ys ++ y ∷ [])
zip_more R [] ys i d y h all r = absurd (omega (arith, h))
zip_more R (z ∷ xs) [] zero d y h all r = (r, tt)
zip_more R (z ∷ xs) (w ∷ ys) zero d y h all r = absurd all
zip_more R (z ∷ xs) [] (suc i) d y h all r = absurd all
zip_more R (z ∷ xs) (w ∷ ys) (suc i) d y h all r =
    let same : suc (i + 1) ≡ suc i + 1 = omega arith in
    subst (λ n. AllZip R (take n (z ∷ xs)) (w ∷ ys ++ y ∷ [])) same
    (all.0, zip_more R xs ys i d y (omega (arith, h)) all.1 r)

-- the text of no option
abbrev pub no_text : Bor (List ℕ)
no_text = record { ref_ptr = (0, 0); now = [] }

-- what was added for the texts so far, and one more
pub one_added : {B : Type 0} (Says : List ℕ → B → Type 0) (texts : List (Bor (List ℕ))) (count : ℕ)
    (begun held now : List B) (one : B) → count < length texts → AreAdded Says (take count texts) begun held
    → now ≡ held ++ one ∷ [] → Says (get_or texts count no_text).now one
    → AreAdded Says (take (count + 1) texts) begun now
one_added Says texts count begun held now one within before is says = (
  before.0 ++ one ∷ [],
  is ∙ ap (λ l. l ++ one ∷ []) before.1 ∙ append_assoc begun before.0 (one ∷ []),
  zip_more (λ text one. Says text.now one) texts before.0 count no_text one within before.2 says,
)
