-- One entry more, and the entries of so many cores.
use Rattle.std.proofs.Common.{◌≡◌, ◌∙◌, ℕ, ◌≤◌, List, [], ◌∷◌, ◌++◌, ap, sym, subst, refl, map, length, min, arith}
use Rattle.std.proofs.Common.{Some, Bor}
use Rattle.std.proofs.lemmas.List.{length-replicate, map-append}
use Rattle.std.specs.Prelude.{replicate, slice_index}
use Rattle.std.specs.List.{AllZip}
use Rattle.elide_program.specs.Entries.{IsEntry, for_cores}
use Rattle.elide_program.specs.declared.file.ProgramFile.{ProgramFile}

zip_push : {A B : Type 0} (R : A → B → Type 0) (xs : List A) (ys : List B) (x : A) (y : B) → AllZip R xs ys → R x y
    → AllZip R (xs ++ x ∷ []) (ys ++ y ∷ [])
zip_push R [] [] x y all r = (r, tt)
zip_push R [] (w ∷ ys) x y all r = absurd all
zip_push R (z ∷ xs) [] x y all r = absurd all
zip_push R (z ∷ xs) (w ∷ ys) x y all r = (all.0, zip_push R xs ys x y all.1 r)

-- the entries of the words so far, and that of one word more
pub one_entry : (file : ProgramFile) (words : List (Bor (List ℕ))) (word : Bor (List ℕ))
    (addresses new : List ℕ) (address : ℕ)
    → AllZip (λ w a. IsEntry file w (Some a)) (map (λ w. w.now) words) addresses → IsEntry file word.now (Some address)
    → new ≡ addresses ++ address ∷ []
    → AllZip (λ w a. IsEntry file w (Some a)) (map (λ w. w.now) (words ++ word ∷ [])) new
one_entry file words word addresses new address all is e =
    let R : List ℕ → ℕ → Type 0 = λ w a. IsEntry file w (Some a) in
    let ended = map-append (λ (w : Bor (List ℕ)). w.now) words (word ∷ []) in
    let both = zip_push R (map (λ (w : Bor (List ℕ)). w.now) words) addresses word.now address all is in
    subst (λ l. AllZip R l new) (sym ended)
    (subst (λ l. AllZip R (map (λ (w : Bor (List ℕ)). w.now) words ++ word.now ∷ []) l) (sym e) both)

-- one address for all cores, of which there are at most 64
pub for_all : (cores alone : ℕ) (starts : List ℕ) → starts ≡ replicate (min cores 65) alone → length starts ≤ 64
    → starts ≡ replicate cores alone
for_all cores alone starts e few =
    let many = ap length e ∙ length-replicate (min cores 65) alone in
    let same : min cores 65 ≡ cores = omega arith in
    e ∙ ap (λ n. replicate n alone) same

pub of_alone : (cores : ℕ) (addresses : List ℕ) → length addresses ≡ 1
    → for_cores cores addresses ≡ replicate cores (slice_index addresses 0)
of_alone cores [] h = absurd (omega (arith, h))
of_alone cores (alone ∷ []) h = refl
of_alone cores (first ∷ second ∷ others) h = absurd (omega (arith, h))

-- one address a core
pub of_each : (cores : ℕ) (addresses : List ℕ) → length addresses ≡ cores → for_cores cores addresses ≡ addresses
of_each cores [] h = refl
of_each cores (alone ∷ []) h = let one : cores ≡ 1 = sym h in ap (λ n. replicate n alone) one
of_each cores (first ∷ second ∷ others) h = refl

-- entries, one for all or one a core
pub ruleset entry_steps = (for_all, of_alone, of_each)
