-- Steps that are made from a place on, and that lead round to what is shown as it was.
use Rattle.std.proofs.Common.{◌≡◌, ℕ, ◌<◌, Bool, true, false, List, [], ◌∷◌, ◌++◌, Some, length, refl, sym, ap, ◌∙◌}
use Rattle.std.proofs.Common.{subst, arith, append_assoc}
use Rattle.std.specs.Prelude.{All, option_and_then}
use Rattle.std.proofs.lemmas.List.{append-nil}
use Rattle.std.proofs.lemmas.List.Elements.{All-append, All-cons, All-nil, All-weaker}
use Rattle.ia_image.specs.Program.{opening_memory}
use Rattle.tm_core.specs.Reopening.{IsSameElsewhere}
use Rattle.tm_core.specs.Theorem.{StandsFor, machine_setting, view_at}
use Rattle.tm_model.specs.Setting.{Setting}
use Rattle.tm_model.specs.State.{seen_by}
use Rattle.tm_model.specs.declared.outcome.Pick.{Pick}
use Rattle.tm_outcomes.specs.Nodes.{IsPickOf, IsUsualPick, schedule_at}
use Rattle.tm_outcomes.specs.Outcomes.{AreUsual, trial_opening, trial_setting}
use Rattle.tm_outcomes.specs.Places.{AreAlike, IsAt, has_stopped}
use Rattle.tm_outcomes.specs.Resting.{Advances}
use Rattle.tm_outcomes.specs.Schedules.{HasEnded, Situation, after_pick, after_schedule}
use Rattle.tm_outcomes.specs.Searching.{GoesRound, IsMade}
use Rattle.tm_outcomes.specs.Verdicts.{AreSame, HasStepOf, HasStopped}
use Rattle.tm_outcomes.specs.Written.{IsPlaceIn, IsWithin, KeepsNoted, StoresOn}
use Rattle.tm_outcomes.specs.declared.place.Place.{Place}
use Rattle.tm_outcomes.specs.declared.trial.Trial.{Trial}
use Rattle.tm_outcomes.specs.declared.written.Written.{Written}
use Rattle.tm_outcomes.proofs.Shown.{halted_is}
use Rattle.tm_outcomes.proofs.Benches.{place_at, within_advanced, within_more}
use Rattle.tm_outcomes.proofs.Catching.{split}
use Rattle.tm_outcomes.proofs.Complete.{IsAllowedIn}
use Rattle.tm_outcomes.proofs.Leads.{alike_stands, shows}
use Rattle.tm_outcomes.proofs.Noting.{keeps_all, keeps_more}
use Rattle.tm_outcomes.proofs.Somes.{same_in}
use Rattle.tm_outcomes.proofs.Sparing.{IsUsualIn}

-- ---- steps that are made

within_at : (trial : Trial) (written : Written) (place : Place) (schedule : List Pick) → IsPlaceIn trial written place →
    IsAt trial place schedule → IsWithin trial written.lines.items schedule
within_at trial written place schedule is at = λ now is_run.
    let lines = written.lines.items in
    let opening = opening_memory trial.program.now in
    subst (λ (x : Situation). IsSameElsewhere lines x.state.memory opening) (same_in (sym at.is_run ∙ is_run))
    (subst (λ m. IsSameElsewhere lines m opening) at.stands.same_memory
    (subst (λ m. IsSameElsewhere lines place.machine.memory m) is.opening is.memory))

-- a pick whose stores were noted, and the steps behind it
pub made_once : (trial : Trial) (before after : Place) (old new : Written) (pick : Pick) (steps schedule : List Pick) →
    IsUsualPick trial pick → IsPlaceIn trial old before → IsAt trial before schedule → KeepsNoted old new →
    ((now : Situation) → StandsFor before.machine now.state now.doomed →
    StoresOn (machine_setting before.machine) new.lines.items now pick.core) →
    Advances trial before after pick steps → IsMade trial before after old new steps
made_once trial before after old new pick steps schedule usual is at keeps noted advances = record {
  are_picks = advances.are_picks;
  usual = subst (λ (s : List Pick). AreUsual trial s) (sym advances.made)
      (All-cons (IsUsualIn trial) pick advances.rest usual.usual advances.usual);
  at = advances.at;
  place = place_at trial new after (schedule ++ steps) (ap (λ v. v.items) keeps.opening ∙ is.opening) advances.is_place
      (advances.at schedule at)
      (within_advanced trial new.lines.items schedule before after pick steps at advances
      (within_more trial old.lines.items new.lines.items schedule keeps.kept
      (within_at trial old before schedule is at)) noted);
  keeps = keeps;
}

pub made_none : (trial : Trial) (place : Place) (written : Written) → IsPlaceIn trial written place →
    IsMade trial place place written written []
made_none trial place written is = record {
  are_picks = All-nil (IsPickOf trial);
  usual = All-nil (IsUsualIn trial);
  at = λ schedule at. subst (λ (s : List Pick). IsAt trial place s) (sym (append-nil schedule)) at;
  place = is;
  keeps = keeps_all written;
}

pub made_then : (trial : Trial) (a b c : Place) (x y z : Written) (first more all : List Pick) → all ≡ first ++ more →
    IsMade trial a b x y first → IsMade trial b c y z more → IsMade trial a c x z all
made_then trial a b c x y z first more all made one other = record {
  are_picks = subst (λ (s : List Pick). All (IsPickOf trial) s) (sym made)
      (All-append (IsPickOf trial) first more one.are_picks other.are_picks);
  usual = subst (λ (s : List Pick). AreUsual trial s) (sym made)
      (All-append (IsUsualIn trial) first more one.usual other.usual);
  at = λ schedule at.
      subst (λ (s : List Pick). IsAt trial c s)
      (append_assoc schedule first more ∙ ap (λ (s : List Pick). schedule ++ s) (sym made))
      (other.at (schedule ++ first) (one.at schedule at));
  place = other.place;
  keeps = keeps_more x y z one.keeps other.keeps;
}

-- ---- steps that lead round

-- the steps behind a schedule, where both lead somewhere
run_behind : (setting : Setting) (start : Situation) (picks more : List Pick) (now end : Situation) →
    after_schedule setting start picks ≡ Some now → after_schedule setting start (picks ++ more) ≡ Some end →
    after_schedule setting now more ≡ Some end
run_behind setting start [] more now end e run =
    subst (λ (x : Situation). after_schedule setting x more ≡ Some end) (same_in e) run
run_behind setting start (first ∷ picks) more now end e run =
    let parts = split (after_pick setting start first) (λ next. after_schedule setting next picks) now e in
    run_behind setting parts.0 picks more now end parts.1.1
    (sym (ap (option_and_then (λ (next : Situation). after_schedule setting next (picks ++ more))) parts.1.0) ∙ run)

-- a machine stands for situations that are the same
both_same : (trial : Trial) (place : Place) (schedule : List Pick) (now back : Situation) → IsAt trial place schedule →
    StandsFor place.machine now.state now.doomed → StandsFor place.machine back.state back.doomed
    → AreSame trial now back
both_same trial place schedule now back at one other =
    let setting = trial_setting trial in
    record {
      memory = sym one.same_memory ∙ other.same_memory;
      count = sym one.same_count ∙ other.same_count;
      each = λ core below.
          let here : core < length place.machine.views = (let e = one.same_count in omega arith) in
          shows place.machine setting now at.rules one core here
          ∙ sym (shows place.machine setting back at.rules other core here);
      pending = λ core below.
          let here : core < length place.machine.views = (let e = one.same_count in omega arith) in
          sym (one.same_pending core here) ∙ other.same_pending core here;
    }

-- what a place shows of each core that has not stopped
abbrev pub IsFair : Place → List Pick → Type 0
IsFair place steps =
    (core : ℕ) → core < length place.machine.views → has_stopped (view_at place.machine core).mode ≡ false
    → HasStepOf core steps

fair_by : (stopped : Bool) (core : ℕ) (steps : List Pick) (place : Place) (now : Situation) →
    StandsFor place.machine now.state now.doomed → IsFair place steps → core < length place.machine.views →
    has_stopped (view_at place.machine core).mode ≡ stopped → ¬ HasStopped (now.state.cores core) → HasStepOf core steps
fair_by true core steps place now stands fair below is goes =
    let halted = halted_is (machine_setting place.machine) (seen_by now.state core) (now.state.cores core)
    (now.doomed core) (view_at place.machine core) (stands.each core below) is in
    absurd (goes (halted.1.0, (halted.0, halted.1.1)))
fair_by false core steps place now stands fair below is goes = fair core below is

-- steps behind a node's schedule, to a place that is alike
pub goes_round : (trial : Trial) (schedules : List (List Pick)) (index : ℕ) (here other : Place) (steps : List Pick) →
    IsAt trial other (schedule_at schedules index) → IsAt trial here (schedule_at schedules index ++ steps) →
    All (IsPickOf trial) steps → AreUsual trial steps → AreAlike here other → IsFair other steps →
    ((now : Situation) → StandsFor other.machine now.state now.doomed → ¬ HasEnded now.state) →
    GoesRound trial schedules index steps
goes_round trial schedules index here other steps first last are_picks usual alike fair goes_on =
    let setting = trial_setting trial in
    let schedule = schedule_at schedules index in
    record {
      now = first.now;
      is_run = first.is_run;
      goes_on = goes_on first.now first.stands;
      leads_back = record {
        allowed = All-weaker (IsPickOf trial) (IsAllowedIn trial) (λ (pick : Pick) is. is.allowed) steps are_picks;
        usual = usual;
        back = last.now;
        is_run = run_behind setting (trial_opening trial) schedule steps first.now last.now first.is_run last.is_run;
        same = both_same trial other schedule first.now last.now first first.stands
            (alike_stands trial here other (schedule ++ steps) schedule last.now last first alike last.stands);
        fair = λ core below goes.
            fair_by (has_stopped (view_at other.machine core).mode) core steps other first.now first.stands fair
            (let e = first.stands.same_count in omega arith) refl goes;
      };
    }
