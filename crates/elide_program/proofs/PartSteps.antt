-- One part more.
use Rattle.std.proofs.Common.{◌≡◌, ℕ, zero, suc, ◌+◌, ◌<◌, List, [], ◌∷◌, ◌++◌, subst, sym, take, length, arith, Some}
use Rattle.std.proofs.Common.{Bor}
use Rattle.std.proofs.Common.{slice_index_or as get_or}
use Rattle.std.specs.List.{AllZip}
use Rattle.elide_program.specs.Parts.{IsDump}
use Rattle.elide_program.specs.Sums.{IsSum}
use Rattle.elide_program.specs.declared.file.ProgramFile.{ProgramFile}
use Rattle.elide_program.specs.declared.parts.Dump.{Dump}

zip_more : {A B : Type 0} (R : A → B → Type 0) (xs : List A) (ys : List B) (i : ℕ) (d : A) (y : B) → i < length xs
    → AllZip R (take i xs) ys → R (get_or xs i d) y → AllZip R (take (i + 1) xs) (ys ++ y ∷ [])
zip_more R [] ys i d y h all r = absurd (omega (arith, h))
zip_more R (z ∷ xs) [] zero d y h all r = (r, tt)
zip_more R (z ∷ xs) (w ∷ ys) zero d y h all r = absurd all
zip_more R (z ∷ xs) [] (suc i) d y h all r = absurd all
zip_more R (z ∷ xs) (w ∷ ys) (suc i) d y h all r =
    let same : suc (i + 1) ≡ suc i + 1 = omega arith in
    subst (λ n. AllZip R (take n (z ∷ xs)) (w ∷ ys ++ y ∷ [])) same
    (all.0, zip_more R xs ys i d y (omega (arith, h)) all.1 r)

pub one_dump : (file : ProgramFile) (texts : List (Bor (List ℕ))) (dumps new : List Dump) (i : ℕ)
    (d : Bor (List ℕ)) (dump : Dump)
    → i < length texts → AllZip (λ text dump. IsDump file text.now dump) (take i texts) dumps
    → IsDump file (get_or texts i d).now dump
    → new ≡ dumps ++ dump ∷ [] → AllZip (λ text dump. IsDump file text.now dump) (take (i + 1) texts) new
one_dump file texts dumps new i d dump h all is e =
    subst (λ l. AllZip (λ text dump. IsDump file text.now dump) (take (i + 1) texts) l) (sym e)
    (zip_more (λ (text : Bor (List ℕ)) (dump : Dump). IsDump file text.now dump) texts dumps i d dump h all is)

pub one_value : (file : ProgramFile) (texts : List (Bor (List ℕ))) (values new : List ℕ) (i : ℕ)
    (d : Bor (List ℕ)) (value : ℕ)
    → i < length texts → AllZip (λ text value. IsSum file text.now (Some value)) (take i texts) values
    → IsSum file (get_or texts i d).now (Some value)
    → new ≡ values ++ value ∷ [] → AllZip (λ text value. IsSum file text.now (Some value)) (take (i + 1) texts) new
one_value file texts values new i d value h all is e =
    subst (λ l. AllZip (λ text value. IsSum file text.now (Some value)) (take (i + 1) texts) l) (sym e)
    (zip_more (λ (text : Bor (List ℕ)) (value : ℕ). IsSum file text.now (Some value)) texts values i d value h all is)
