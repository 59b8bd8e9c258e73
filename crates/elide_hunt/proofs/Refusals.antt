-- Why a search is refused.
use Rattle.std.proofs.Common.{◌≡◌, ◌⊎◌, inl, inr, ℕ, Bool, true, List, Option, Some, Result, subst, sym}
use Rattle.std.proofs.lemmas.Result.{IfErr-weaker}
use Rattle.std.specs.Borrow.{Bor}
use Rattle.std.specs.Prelude.{All, IfErr}
use Rattle.elide_args.specs.declared.hunt_options.HuntOptions.{HuntOptions}
use Rattle.elide_checks.specs.Checks.{AreChecks}
use Rattle.elide_checks.specs.declared.orders.Orders.{Orders}
use Rattle.elide_program.specs.declared.file.ProgramFile.{ProgramFile}
use Rattle.elide_setup.specs.Refused.{AreOne, IsPageOver}
use Rattle.elide_setup.specs.declared.fault.Refusal.{Refusal}
use Rattle.elide_setup.specs.declared.machine.Setup.{Setup}
use Rattle.tm_hunt.specs.declared.trial.Trial.{Trial}
use Rattle.elide_hunt.specs.Refused.{IsNoSearch, IsNotHunted, not_hunted}

-- paths that lead to one file do so where nothing changed
over_one : (before after : List ℕ → List ℕ → Option Bool) → ((one two : List ℕ) → after one two ≡ before one two)
    → (given file : List ℕ) (recorded : Option (List ℕ)) →
    AreOne (after given file) true
    ⊎ ((other : List ℕ) × (recorded ≡ Some other) × ((other ≡ given) ⊎ AreOne (after given other) true)) →
    AreOne (before given file) true
    ⊎ ((other : List ℕ) × (recorded ≡ Some other) × ((other ≡ given) ⊎ AreOne (before given other) true))
over_one before after steady given file recorded (inl one) =
    inl (subst (λ (known : Option Bool). AreOne known true) (steady given file) one)
over_one before after steady given file recorded (inr (other, is, inl same)) = inr (other, is, inl same)
over_one before after steady given file recorded (inr (other, is, inr one)) =
    inr (other, is, inr (subst (λ (known : Option Bool). AreOne known true) (steady given other) one))

pub page_over_steady : (before after : List ℕ → List ℕ → Option Bool)
    → ((one two : List ℕ) → after one two ≡ before one two) → (path : Option (Bor (List ℕ))) (file : List ℕ)
    (recorded : Option (List ℕ)) (why : Refusal) → IsPageOver after path file recorded why
    → IsPageOver before path file recorded why
page_over_steady before after steady path file recorded why h = record {
  given = h.given;
  is = h.is;
  one = over_one before after steady h.given.now file recorded h.one;
  named = h.named;
}

-- some have not all that there is to have, with a memory of this size and so many cores
pub lacks : {X : Type 0} (Has : ℕ → ℕ → X → Type 0) (size mem_size cores count : ℕ) (xs : List X) → size ≡ mem_size
    → cores ≡ count → ¬ (All (Has size cores) xs) →
    ¬ (All (Has mem_size count) xs)
lacks Has size mem_size cores count xs of_size of_cores none all =
    none (subst (λ (m : ℕ). All (Has m cores) xs) (sym of_size)
    (subst (λ (n : ℕ). All (Has mem_size n) xs) (sym of_cores) all))

-- the runs of the trial of a setup are not made
pub no_search_of : {A : Type 0} (trial : Trial) (orders : Orders) (text : List ℕ) (file : ProgramFile)
    (options : HuntOptions) (setup : Setup) (r : Result A Refusal) →
    IfErr r (IsNotHunted trial) → trial.program.now ≡ setup.program → trial.limits ≡ setup.limits
    → trial.most ≡ orders.most →
    AreChecks text file options trial.checks.now → IfErr r (IsNoSearch text file options setup orders)
no_search_of trial orders text file options setup r h program limits most checks =
    IfErr-weaker r (IsNotHunted trial) (IsNoSearch text file options setup orders)
    (λ why none. not_hunted trial (record { program = program; limits = limits; most = most; checks = checks }) none) h
