-- The trial of a search that a call answers.
use Rattle.std.proofs.Common.{◌≡◌, ◌≤◌, ℕ, List, Option, Some, None, refl, subst, sym}
use Rattle.std.proofs.Math.Nat.{le_trans}
use Rattle.std.proofs.lemmas.Result.{IfOk-weaker}
use Rattle.std.specs.Prelude.{All, IfOk, IfSome, Result}
use Rattle.elide_args.specs.declared.hunt_options.HuntOptions.{HuntOptions}
use Rattle.elide_checks.specs.Checks.{AreChecks}
use Rattle.elide_checks.specs.declared.orders.Orders.{Orders}
use Rattle.elide_program.specs.Files.{Gives, most_bytes}
use Rattle.elide_program.specs.ProgramFile.{IsFile}
use Rattle.elide_program.specs.Settings.{AreSettings}
use Rattle.elide_program.specs.declared.file.ProgramFile.{ProgramFile}
use Rattle.elide_program.specs.declared.settings.Settings.{Settings}
use Rattle.elide_setup.specs.Setup.{IsSetup}
use Rattle.elide_setup.specs.declared.machine.Setup.{Setup}
use Rattle.tm_pick.specs.declared.method.Plan.{Plan}
use Rattle.tm_hunt.specs.Attempts.{IsFailure, IsSearch}
use Rattle.tm_hunt.specs.Cycle.{IsCycle}
use Rattle.tm_hunt.specs.Deciding.{cost_told}
use Rattle.tm_hunt.proofs.Costs.{cost_front}
use Rattle.tm_hunt.specs.Kept.{KeepsKinds}
use Rattle.tm_hunt.specs.Sources.{IsPlannedRun}
use Rattle.tm_hunt.specs.declared.failure.Failure.{Failure}
use Rattle.tm_hunt.specs.declared.searching.Found.{Found}
use Rattle.tm_hunt.specs.declared.searching.Search.{Search}
use Rattle.tm_hunt.specs.declared.trial.Trial.{Trial}
use Rattle.elide_hunt.specs.Printed.{AreOrders, AreShortened, IsHunted, IsPlanOf, IsSearched as Searched, IsTrialOf}
use Rattle.elide_hunt.specs.Lates.{IsLate}
use Rattle.elide_hunt.specs.Lines.{counts_of}
use Rattle.elide_hunt.specs.declared.report.Beside.{Beside}

pub with_trial : {E : Type 0} (trial : Trial) (orders : Orders) (text : List ℕ) (file : ProgramFile)
    (options : HuntOptions) (setup : Setup) (r : Result (Search × Beside) E) →
    IfOk r (λ made. IsHunted trial orders made.1 made.0) →
    trial.program.now ≡ setup.program → trial.limits ≡ setup.limits → trial.most ≡ orders.most
    → AreChecks text file options trial.checks.now →
    IfOk r (λ made. (t : Trial) × IsTrialOf text file options setup orders t × IsHunted t orders made.1 made.0)
with_trial trial orders text file options setup r h program limits most checks =
    IfOk-weaker r (λ made. IsHunted trial orders made.1 made.0)
    (λ made. (t : Trial) × IsTrialOf text file options setup orders t × IsHunted t orders made.1 made.0)
    (λ made hunted. (trial, record { program = program; limits = limits; most = most; checks = checks }, hunted)) h

-- a plan's search
abbrev pub IsSearched : Trial → Orders → Search → Type 0
IsSearched trial orders search =
    (plan : Plan) × IsPlanOf orders trial plan × IsSearch trial (IsPlannedRun plan) orders.first orders.end search

-- a search that found no failure
pub none_found : (trial : Trial) (orders : Orders) (beside : Beside) (search : Search) → search.found ≡ None
    → IsSearched trial orders search →
    IsHunted trial orders beside (record { found = None; ended = search.ended; cut = search.cut })
none_found trial orders beside search is searched = record {
  plan = searched.0;
  planned = searched.1;
  whole = search;
  came_to = searched.2;
  ended = refl;
  cut = refl;
  found = subst (λ (o : Option Found). AreShortened trial beside o None) (sym is) tt;
}

-- a search whose first failure was shortened
pub shortened_hunt : (trial : Trial) (orders : Orders) (beside : Beside) (search : Search) (found : Found)
    (after : Failure) →
    search.found ≡ Some found → IsSearched trial orders search → beside.before ≡ counts_of found.failure.picks.items →
    IsFailure trial after → after.check ≡ found.failure.check → cost_told after ≤ cost_told found.failure →
    KeepsKinds found.failure.picks.items after.picks.items → IfSome beside.cycle (IsCycle trial after) →
    All (IsLate trial after) beside.lates.items →
    IsHunted trial orders beside
    (record { found = Some (record { run = found.run; failure = after }); ended = search.ended; cut = search.cut })
shortened_hunt trial orders beside search found after is searched counted fails same simpler keeps round late = record {
  plan = searched.0;
  planned = searched.1;
  whole = search;
  came_to = searched.2;
  ended = refl;
  cut = refl;
  found = subst (λ (o : Option Found). AreShortened trial beside o (Some (record { run = found.run; failure = after })))
      (sym is) (
        refl,
        record {
          fails = fails;
          same = same;
          counted = counted;
          simpler = le_trans simpler (cost_front found.failure.front found.failure.picks.items);
          kinds = keeps;
          round = round;
          lates = late;
        },
      );
}

-- the search of a text that FILE was read as, by settings and orders that the options say
abbrev pub searched_by : (content : List ℕ → Option (List ℕ)) (options : HuntOptions) (settings : Settings)
    (orders : Orders) (text view : List ℕ) (search : Search) (beside : Beside)
    → Gives (content options.machine.file.now) most_bytes text → view ≡ text → AreSettings options.machine settings
    → AreOrders options orders
    → (file : ProgramFile) × (setup : Setup) × (trial : Trial) × IsFile view file × IsSetup file settings setup
    × IsTrialOf view file options setup orders trial × IsHunted trial orders beside search
    → Searched content options search
searched_by content options settings orders text view search beside given same said ordered made = record {
  setup = made.1;
  asked = record {
    file = made.0;
    read = record { text = text; given = given; read = subst (λ (text : List ℕ). IsFile text made.0) same made.3 };
    settings = settings;
    said = said;
    made = made.4;
  };
  orders = orders;
  ordered = ordered;
  trial = made.2;
  made = subst (λ (text : List ℕ). IsTrialOf text made.0 options made.1 orders made.2) same made.5;
  beside = beside;
  hunted = made.6;
}
