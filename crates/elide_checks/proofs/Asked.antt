-- The checks that the options say.
use Rattle.std.proofs.Common.{◌≡◌, ℕ, Bool, true, false, Bor, List, [], ◌∷◌, ◌++◌, append_assoc, ◌∙◌, ap, refl, subst}
use Rattle.std.specs.List.{AllZip}
use Rattle.elide_args.specs.declared.hunt_options.HuntOptions.{HuntOptions}
use Rattle.elide_program.specs.declared.file.ProgramFile.{ProgramFile}
use Rattle.elide_setup.specs.declared.fault.Refusal.{Refusal}
use Rattle.ia_item.specs.declared.name.Name.{Name}
use Rattle.tm_check.specs.declared.check.Check.{Check}
use Rattle.elide_checks.specs.Checks.{AreChecks, AreChecksBy, halt_checks}
use Rattle.elide_checks.specs.Constants.{is_among, is_constant}
use Rattle.elide_checks.specs.Ends.{AreEndChecks, AreEndChecksBy}
use Rattle.elide_checks.specs.Misread.{IsNoEndCondition}
use Rattle.elide_checks.specs.Refused.{AreMisreadTexts, AreNoChecks}
use Rattle.tm_condition.specs.declared.check.Check.{Check as EndCheck}

-- the names that are kept are those of the program
pub by_names : (text : List ℕ) (file : ProgramFile) (options : HuntOptions) (names : List Name) (checks : List Check) →
    ((name : List ℕ) → is_among names name ≡ is_constant text file name) →
    AreChecksBy file (is_among names) options checks → AreChecks text file options checks
by_names text file options names checks same are =
    let each : is_among names ≡ is_constant text file = λ i name. same name i in
    subst (λ (constants : List ℕ → Bool). AreChecksBy file constants options checks) each are

-- the same of the checks of all ends
pub ends_by_names : (text : List ℕ) (file : ProgramFile) (demands forbids : List (Bor (List ℕ))) (names : List Name)
    (checks : List EndCheck) → ((name : List ℕ) → is_among names name ≡ is_constant text file name) →
    AreEndChecksBy file (is_among names) demands forbids checks → AreEndChecks text file demands forbids checks
ends_by_names text file demands forbids names checks same are =
    let each : is_among names ≡ is_constant text file = λ i name. same name i in
    subst (λ (constants : List ℕ → Bool). AreEndChecksBy file constants demands forbids checks) each are

-- and so where one is none
pub none_by_names : (text : List ℕ) (file : ProgramFile) (demands forbids : List (Bor (List ℕ))) (names : List Name)
    (why : Refusal) →
    ((name : List ℕ) → is_among names name ≡ is_constant text file name) →
    AreMisreadTexts (IsNoEndCondition file (is_among names)) demands forbids why
    → AreNoChecks text file demands forbids why
none_by_names text file demands forbids names why same none =
    let each : is_among names ≡ is_constant text file = λ i name. same name i in
    subst (λ (constants : List ℕ → Bool). AreMisreadTexts (IsNoEndCondition file constants) demands forbids why) each
    none

-- four parts one behind the other
pub joined : (none one two three four : List Check) (a b c : List Check) → none ≡ [] → one ≡ none ++ a → two ≡ one ++ b
    → three ≡ two ++ c →
    (last : List Check) → four ≡ three ++ last → four ≡ a ++ (b ++ (c ++ last))
joined none one two three four a b c empty x y z last w =
    let first : one ≡ a = x ∙ ap (λ l. l ++ a) empty in
    w ∙ ap (λ l. l ++ last) (z ∙ ap (λ l. l ++ c) (y ∙ ap (λ l. l ++ b) first))
    ∙ ap (λ l. l ++ last) (append_assoc a b c) ∙ append_assoc a (b ++ c) last ∙ ap (λ l. a ++ l) (append_assoc b c last)

-- ---- where nothing is asked for

pub none_left : (a b : List Check) → a ++ b ≡ [] → (a ≡ []) × (b ≡ [])
none_left [] b e = (refl, e)
none_left (x ∷ a) b e = absurd (cc)

pub no_pair : {A B : Type 0} (R : A → B → Type 0) (xs : List A) (ys : List B) → AllZip R xs ys → ys ≡ [] → xs ≡ []
no_pair R [] ys all e = refl
no_pair R (x ∷ xs) [] all e = absurd all
no_pair R (x ∷ xs) (y ∷ ys) all e = absurd (cc)

pub no_halt : (expects : Bool) → halt_checks expects ≡ [] → expects ≡ false
no_halt true e = absurd (cc)
no_halt false e = refl
