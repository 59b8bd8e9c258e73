-- Steps of one core under no event, one behind the other, are such picks.
use Rattle.std.proofs.Common.{◌≡◌, ℕ, ◌+◌, List, [], ◌∷◌, ◌++◌, Option, None, Some, false, length, replicate, refl, sym}
use Rattle.std.proofs.Common.{ap, ◌∙◌, subst}
use Rattle.std.proofs.Common.{append_assoc}
use Rattle.std.specs.Prelude.{All, MatchOption, option_and_then, option_map}
use Rattle.std.proofs.lemmas.List.{append-nil, replicate_more}
use Rattle.std.proofs.lemmas.List.Elements.{All-head, All-tail}
use Rattle.tm_core.specs.Theorem.{TakesAlone, machine_setting}
use Rattle.tm_model.proofs.NonePending.{NonePending, none_behind, tells_none}
use Rattle.tm_model.specs.Conflicts.{Doomed, doomed_after}
use Rattle.tm_model.specs.Runs.{AreOwed, TellNoAbort, doomed_at_end, event_told, is_aborted_by, pick_of, picks_of}
use Rattle.tm_model.specs.Setting.{Setting}
use Rattle.tm_model.specs.State.{State}
use Rattle.tm_model.specs.Steps.{run, step}
use Rattle.tm_model.specs.declared.outcome.Event.{Event}
use Rattle.tm_model.specs.declared.outcome.Outcome.{Outcome}
use Rattle.tm_model.specs.declared.outcome.Pick.{Pick}
use Rattle.tm_outcomes.specs.Outcomes.{trial_opening, trial_setting}
use Rattle.tm_outcomes.specs.Places.{IsAhead, IsAt, IsPlaceOf, alone}
use Rattle.tm_outcomes.specs.Schedules.{Situation, after_pick, after_schedule, with_state}
use Rattle.tm_outcomes.specs.declared.place.Place.{Place}
use Rattle.tm_outcomes.specs.declared.replay.Ahead.{Ahead}
use Rattle.tm_outcomes.specs.declared.trial.Trial.{Trial}
use Rattle.tm_outcomes.proofs.NonePending.{none_reached}
use Rattle.tm_outcomes.proofs.Runs.{run_then}
use Rattle.tm_outcomes.proofs.Somes.{same_in}

-- ---- a history is the run of its picks

abbrev situation : State → Doomed → Situation
situation state doomed = record { state = state; doomed = doomed }

abbrev ended_at : Setting → Situation → List (ℕ × Outcome) → State → Situation
ended_at setting now history last = situation last (doomed_at_end setting now.state now.doomed history)

goes : (setting : Setting) (taken : ℕ × Outcome) (history : List (ℕ × Outcome)) (now : Situation) (last : State)
    (after : Option State) →
    ((next : State) → AreOwed setting next (doomed_after setting now.state now.doomed taken.0 taken.1) history →
    run setting next history ≡ Some last →
    after_schedule setting (with_state setting now taken.0 taken.1 next) (picks_of history)
    ≡ Some (ended_at setting (with_state setting now taken.0 taken.1 next) history last)) →
    after_pick setting now (pick_of taken) ≡ option_map (with_state setting now taken.0 taken.1) after →
    MatchOption after ⊥
    (λ next. AreOwed setting next (doomed_after setting now.state now.doomed taken.0 taken.1) history) →
    option_and_then (λ next. run setting next history) after ≡ Some last →
    option_and_then (λ next. after_schedule setting next (picks_of history)) (after_pick setting now (pick_of taken))
    ≡ Some (situation last (elim after [
      | None ↦ now.doomed
      | Some next ↦ doomed_at_end setting next (doomed_after setting now.state now.doomed taken.0 taken.1) history
    ]))
goes setting taken history now last (Some next) onward picked owed is_run =
    ap (option_and_then (λ after. after_schedule setting after (picks_of history))) picked ∙ onward next owed is_run
goes setting taken history now last None onward picked owed is_run = absurd owed

runs_as : (setting : Setting) (history : List (ℕ × Outcome)) (now : Situation) (last : State) →
    AreOwed setting now.state now.doomed history → run setting now.state history ≡ Some last →
    after_schedule setting now (picks_of history) ≡ Some (ended_at setting now history last)
runs_as setting [] now last owed is_run = ap (λ (s : State). Some (situation s now.doomed)) (same_in is_run)
runs_as setting (taken ∷ history) now last owed is_run =
    goes setting taken history now last (step setting now.state taken.0 taken.1)
    (λ next are_owed runs. runs_as setting history (with_state setting now taken.0 taken.1 next) last are_owed runs)
    (ap (λ (o : Outcome). option_map (with_state setting now taken.0 o) (step setting now.state taken.0 o))
    (sym owed.0))
    owed.1 is_run

-- ---- of one core

-- where no store is pending, none drains
picks_alone : (setting : Setting) (state : State) (doomed : Doomed) (core : ℕ) (history : List (ℕ × Outcome))
    → setting.store_buffer ≡ 0 → NonePending state → AreOwed setting state doomed history
    → All (λ (taken : ℕ × Outcome). taken.0 ≡ core) history → TellNoAbort history →
    picks_of history ≡ replicate (length history) (alone core)
picks_alone setting state doomed core [] off none owed own tells = refl
picks_alone setting state doomed core (taken ∷ history) off none owed own tells =
    let P : ℕ × Outcome → Type 0 = λ t. t.0 ≡ core in
    let Q : ℕ × Outcome → Type 0 = λ t. is_aborted_by t.1 ≡ false in
    (elim (step setting state taken.0 taken.1) as (λ after. step setting state taken.0 taken.1 ≡ after →
    MatchOption after ⊥ (λ next. AreOwed setting next (doomed_after setting state doomed taken.0 taken.1) history) →
    picks_of (taken ∷ history) ≡ replicate (length (taken ∷ history)) (alone core)) [
      | None ↦ λ is never. absurd never
      | Some next ↦ λ is more.
          ap (λ (n : ℕ). record { core = n; event = event_told taken.1 } ∷ picks_of history)
          (All-head P taken history own)
          ∙ (ap (λ (e : Option Event). record { core = core; event = e } ∷ picks_of history)
          (tells_none setting state taken.0 taken.1 next none is (All-head Q taken history tells))
          ∙ ap (λ (ps : List Pick). alone core ∷ ps)
          (picks_alone setting next (doomed_after setting state doomed taken.0 taken.1) core history off
          (none_behind setting state taken.0 taken.1 next off none is) more (All-tail P taken history own)
          (All-tail Q taken history tells)))
    ]) refl owed.1

module _ (trial : Trial) (before after : Place) (core count : ℕ)
    (takes : TakesAlone before.machine after.machine core count) where
  pub place_alone : IsPlaceOf trial before → IsPlaceOf trial after
  place_alone is = let (history, long, own, all) = takes in
      record { rules = all.same.rules ∙ is.rules; count = all.same.cores ∙ is.count }

  -- where no store may be pending
  pub at_alone : trial.limits.stores ≡ 0 → (schedule : List Pick) → IsAt trial before schedule
      → IsAt trial after (schedule ++ replicate count (alone core))
  at_alone off schedule at =
      let (history, long, own, all) = takes in
      let setting : Setting = machine_setting before.machine in
      let t = all.takes at.now.state at.now.doomed at.stands in
      let end : Situation = ended_at setting at.now history t.last in
      let picks : picks_of history ≡ replicate count (alone core) =
      picks_alone setting at.now.state at.now.doomed core history
      (ap (λ (s : Setting). s.store_buffer) at.rules ∙ off) (none_reached trial schedule at.now off at.is_run)
      t.are_owed own all.tells
      ∙ ap (λ n. replicate n (alone core)) long in
      let runs : after_schedule (trial_setting trial) at.now (replicate count (alone core)) ≡ Some end =
      subst (λ (s : Setting). after_schedule s at.now (replicate count (alone core)) ≡ Some end) at.rules
      (subst (λ (ps : List Pick). after_schedule setting at.now ps ≡ Some end) picks
      (runs_as setting history at.now t.last t.are_owed t.is_run)) in
      record {
        now = end;
        is_run = run_then (trial_setting trial) (trial_opening trial) schedule (replicate count (alone core)) at.now
            end at.is_run runs;
        rules = all.same.rules ∙ at.rules;
        count = all.same.cores ∙ at.count;
        stands = t.stands;
      }

-- ---- steps that are still to be made

module _ (trial : Trial) (here : Place) where
  -- one more
  pub one_ahead : (ahead : Ahead) (pick : Pick) → pick ≡ alone ahead.core
      → (schedule : List Pick) → IsAhead trial here ahead schedule →
      IsAhead trial here (record { core = ahead.core; count = ahead.count + 1 }) (schedule ++ pick ∷ [])
  one_ahead ahead pick is schedule so_far = record {
    made = so_far.made;
    is = ap (λ (p : Pick). schedule ++ p ∷ []) is
        ∙ (ap (λ (s : List Pick). s ++ alone ahead.core ∷ []) so_far.is
        ∙ (append_assoc so_far.made (replicate ahead.count (alone ahead.core)) (alone ahead.core ∷ [])
        ∙ ap (λ (s : List Pick). so_far.made ++ s) (replicate_more ahead.count (alone ahead.core))));
    at = so_far.at;
  }

  -- the first one
  pub first_ahead : (core : ℕ) (pick : Pick) → pick ≡ alone core → (schedule : List Pick) → IsAt trial here schedule →
      IsAhead trial here (record { core = core; count = 1 }) (schedule ++ pick ∷ [])
  first_ahead core pick is schedule at =
      record { made = schedule; is = ap (λ (p : Pick). schedule ++ p ∷ []) is; at = at }

  pub none_ahead : (core : ℕ) (schedule : List Pick) → IsAt trial here schedule
      → IsAhead trial here (record { core = core; count = 0 }) schedule
  none_ahead core schedule at = record { made = schedule; is = sym (append-nil schedule); at = at }

-- they are made
pub all_made : (trial : Trial) (before after : Place) (ahead : Ahead) (schedule : List Pick)
    → IsAhead trial before ahead schedule →
    ((made : List Pick) → IsAt trial before made → IsAt trial after (made ++ replicate ahead.count (alone ahead.core)))
    →
    IsAt trial after schedule
all_made trial before after ahead schedule so_far goes =
    subst (λ (s : List Pick). IsAt trial after s) (sym so_far.is) (goes so_far.made so_far.at)
