-- Unseen steps that are made at a place, one after another.
use Rattle.std.proofs.Common.{◌≡◌, ℕ, Bool, true, false, cond, List, [], ◌∷◌, ◌++◌, Option, Some, None, refl, sym, ap}
use Rattle.std.proofs.Common.{◌∙◌, subst, append_assoc}
use Rattle.std.specs.Prelude.{All, nat_eq, option_and_then}
use Rattle.std.proofs.lemmas.Bool.{false≢true}
use Rattle.std.proofs.lemmas.List.{append-nil}
use Rattle.std.proofs.lemmas.List.Elements.{All-append, All-cons, All-nil}
use Rattle.ia_regs.specs.declared.Regs.{Regs}
use Rattle.tm_core.specs.Theorem.{StandsFor}
use Rattle.tm_model.specs.Isolated.{Body, isolated_body}
use Rattle.tm_model.specs.Setting.{Setting}
use Rattle.tm_model.specs.Shown.{View, view_inside, view_midway, view_of, view_of_body}
use Rattle.tm_model.specs.State.{Closed, Core, Halted, Midway, Opened, Pending, seen_memory}
use Rattle.tm_model.specs.declared.outcome.Pick.{Pick}
use Rattle.tm_rule.specs.declared.kinds.OutsideResult.{OutsideResult}
use Rattle.tm_rule.specs.declared.kinds.OutsideResult.TheVariants.{Goes, Begins, Stops}
use Rattle.tm_outcomes.specs.Nodes.{IsPickOf, IsUsualPick}
use Rattle.tm_outcomes.specs.Outcomes.{IsAllowed, trial_setting}
use Rattle.tm_outcomes.specs.Places.{GoesTo, IsAt, IsPlaceOf}
use Rattle.tm_outcomes.specs.Resting.{Advances, Rests, RestsBy, is_condemned, is_running}
use Rattle.tm_outcomes.specs.Schedules.{Situation}
use Rattle.tm_outcomes.specs.Unseen.{IsUnseen, is_unseen, touches_nothing}
use Rattle.tm_outcomes.specs.declared.place.Place.{Place}
use Rattle.tm_outcomes.specs.declared.trial.Trial.{Trial}
use Rattle.tm_outcomes.proofs.Catching.{then_lead}
use Rattle.tm_outcomes.proofs.Somes.{same_in}
use Rattle.tm_outcomes.proofs.Sparing.{IsUsualIn}

-- ---- by what a machine shows

abbrev pub unseen_by : Setting → List ℕ → Pending → View → Bool
unseen_by setting memory pending view =
    cond (is_condemned view.mode) true
    (cond (is_running view.mode) (touches_nothing setting memory pending view.base) false)

midway_quiet : (setting : Setting) (memory : List ℕ) (pending : Pending) (regs : Regs) (value : ℕ)
    (result : OutsideResult) (view : View) →
    view_midway regs value result ≡ Some view → false ≡ unseen_by setting memory pending view
midway_quiet setting memory pending regs value (Goes next store) view e =
    subst (λ (v : View). false ≡ unseen_by setting memory pending v) (same_in e) refl
midway_quiet setting memory pending regs value (Begins next) view e = absurd (cc)
midway_quiet setting memory pending regs value (Stops stop) view e = absurd (cc)

body_quiet : (setting : Setting) (memory : List ℕ) (pending : Pending) (regs : Regs) (body : Body) (ended : Bool)
    (view : View) →
    cond ended None (Some (view_of_body regs body)) ≡ Some view → false ≡ unseen_by setting memory pending view
body_quiet setting memory pending regs body true view e = absurd (cc)
body_quiet setting memory pending regs body false view e =
    subst (λ (v : View). false ≡ unseen_by setting memory pending v) (same_in e) refl

open_quiet : (setting : Setting) (memory : List ℕ) (pending : Pending) (regs : Regs) (body : Option Body) (view : View)
    → option_and_then (view_inside regs) body ≡ Some view → false ≡ unseen_by setting memory pending view
open_quiet setting memory pending regs (Some body) view e =
    body_quiet setting memory pending regs body (nat_eq body.depth 0) view e
open_quiet setting memory pending regs None view e = absurd (cc)

pub unseen_shown : (setting : Setting) (memory : List ℕ) (pending : Pending) (core : Core) (doom : Option ℕ)
    (view : View) → view_of setting (seen_memory memory pending) core doom ≡ Some view →
    is_unseen setting memory pending core doom ≡ unseen_by setting memory pending view
unseen_shown setting memory pending (Closed regs) None view e =
    subst (λ (v : View). touches_nothing setting memory pending regs ≡ unseen_by setting memory pending v) (same_in e)
    refl
unseen_shown setting memory pending (Midway regs value) None view e =
    midway_quiet setting memory pending regs value (setting.outside regs value) view e
unseen_shown setting memory pending (Halted regs stop) None view e =
    subst (λ (v : View). false ≡ unseen_by setting memory pending v) (same_in e) refl
unseen_shown setting memory pending (Opened regs steps) None view e =
    open_quiet setting memory pending regs (isolated_body setting regs (seen_memory memory pending) steps) view e
unseen_shown setting memory pending (Opened regs steps) (Some depth) view e =
    subst (λ (v : View). true ≡ unseen_by setting memory pending v) (same_in e) refl
unseen_shown setting memory pending (Closed regs) (Some depth) view e = absurd (cc)
unseen_shown setting memory pending (Midway regs value) (Some depth) view e = absurd (cc)
unseen_shown setting memory pending (Halted regs stop) (Some depth) view e = absurd (cc)

-- a core that runs is outside of transactions
midway_waits : (regs : Regs) (value : ℕ) (result : OutsideResult) (view : View)
    → view_midway regs value result ≡ Some view →
    is_running view.mode ≡ false
midway_waits regs value (Goes next store) view e = subst (λ (v : View). is_running v.mode ≡ false) (same_in e) refl
midway_waits regs value (Begins next) view e = absurd (cc)
midway_waits regs value (Stops stop) view e = absurd (cc)

body_waits : (regs : Regs) (body : Body) (ended : Bool) (view : View)
    → cond ended None (Some (view_of_body regs body)) ≡ Some view →
    is_running view.mode ≡ false
body_waits regs body true view e = absurd (cc)
body_waits regs body false view e = subst (λ (v : View). is_running v.mode ≡ false) (same_in e) refl

open_waits : (regs : Regs) (body : Option Body) (view : View) → option_and_then (view_inside regs) body ≡ Some view →
    is_running view.mode ≡ false
open_waits regs (Some body) view e = body_waits regs body (nat_eq body.depth 0) view e
open_waits regs None view e = absurd (cc)

pub closed_shown : (setting : Setting) (memory : List ℕ) (core : Core) (doom : Option ℕ) (view : View) →
    view_of setting memory core doom ≡ Some view → is_running view.mode ≡ true
    → (core ≡ Closed view.base) × (doom ≡ None)
closed_shown setting memory (Closed regs) None view e running =
    (subst (λ (v : View). Closed regs ≡ Closed v.base) (same_in e) refl, refl)
closed_shown setting memory (Midway regs value) None view e running =
    absurd (false≢true (sym (midway_waits regs value (setting.outside regs value) view e) ∙ running))
closed_shown setting memory (Halted regs stop) None view e running =
    absurd (false≢true (subst (λ (v : View). false ≡ is_running v.mode) (same_in e) refl ∙ running))
closed_shown setting memory (Opened regs steps) None view e running =
    absurd (false≢true (sym (open_waits regs (isolated_body setting regs memory steps) view e) ∙ running))
closed_shown setting memory (Opened regs steps) (Some depth) view e running =
    absurd (false≢true (subst (λ (v : View). false ≡ is_running v.mode) (same_in e) refl ∙ running))
closed_shown setting memory (Closed regs) (Some depth) view e running = absurd (cc)
closed_shown setting memory (Midway regs value) (Some depth) view e running = absurd (cc)
closed_shown setting memory (Halted regs stop) (Some depth) view e running = absurd (cc)

-- ---- one after another

module _ (trial : Trial) where
  pub rests_here : (place : Place) → Rests trial place place []
  rests_here place = record {
    are_picks = All-nil (IsPickOf trial);
    usual = All-nil (IsUsualIn trial);
    at = λ schedule at. subst (λ (s : List Pick). IsAt trial place s) (sym (append-nil schedule)) at;
    leads = λ now stands. record { end = now; rests = refl; stands = stands };
  }

  pub rests_once : (before after : Place) (pick : Pick) → IsUsualPick trial pick
      → GoesTo (trial_setting trial) before after pick →
      ((schedule : List Pick) → IsAt trial before schedule → IsAt trial after (schedule ++ pick ∷ [])) →
      ((now : Situation) → StandsFor before.machine now.state now.doomed → IsUnseen (trial_setting trial) now pick) →
      Rests trial before after (pick ∷ [])
  rests_once before after pick is goes at unseen = record {
    are_picks = All-cons (IsPickOf trial) pick [] is.is_pick (All-nil (IsPickOf trial));
    usual = All-cons (IsUsualIn trial) pick [] is.usual (All-nil (IsUsualIn trial));
    at = at;
    leads = λ now stands.
        let step = goes now stands in
        record {
          end = step.next;
          rests = (unseen now stands, is.is_pick.allowed, (step.next, (step.is_next, refl)));
          stands = step.stands;
        };
  }

  pub rests_then : (before middle after : Place) (picks more : List Pick) → Rests trial before middle picks
      → Rests trial middle after more →
      Rests trial before after (picks ++ more)
  rests_then before middle after picks more one other = record {
    are_picks = All-append (IsPickOf trial) picks more one.are_picks other.are_picks;
    usual = All-append (IsUsualIn trial) picks more one.usual other.usual;
    at = λ schedule at. subst (λ (s : List Pick). IsAt trial after s) (append_assoc schedule picks more)
        (other.at (schedule ++ picks) (one.at schedule at));
    leads = λ now stands.
        let begun = one.leads now stands in
        let ended = other.leads begun.end begun.stands in
        record {
          end = ended.end;
          rests = then_lead (trial_setting trial) (IsAllowed trial.events) picks more now begun.end ended.end
              begun.rests ended.rests;
          stands = ended.stands;
        };
  }

  pub by_none : (place : Place) (steps : List Pick) → RestsBy trial place place steps steps
  by_none place steps = record { picks = []; made = sym (append-nil steps); rests = rests_here place }

  pub by_then : (before middle after : Place) (steps more most : List Pick) → RestsBy trial before middle steps more →
      RestsBy trial middle after more most → RestsBy trial before after steps most
  by_then before middle after steps more most one other = record {
    picks = one.picks ++ other.picks;
    made = other.made ∙ (ap (λ (s : List Pick). s ++ other.picks) one.made ∙ append_assoc steps one.picks other.picks);
    rests = rests_then before middle after one.picks other.picks one.rests other.rests;
  }

  pub by_one : (before middle after : Place) (steps more most : List Pick) (pick : Pick)
      → RestsBy trial before middle steps more →
      most ≡ more ++ pick ∷ [] → Rests trial middle after (pick ∷ []) → RestsBy trial before after steps most
  by_one before middle after steps more most pick one made other =
      by_then before middle after steps more most one (record { picks = pick ∷ []; made = made; rests = other })

  pub advances : (before middle after : Place) (pick : Pick) (steps : List Pick) → IsPickOf trial pick →
      GoesTo (trial_setting trial) before middle pick →
      ((schedule : List Pick) → IsAt trial before schedule → IsAt trial middle (schedule ++ pick ∷ [])) →
      RestsBy trial middle after (pick ∷ []) steps → IsPlaceOf trial after →
      Advances trial before after pick steps
  advances before middle after pick steps is_pick goes at rests is_place = record {
    rest = rests.picks;
    made = rests.made;
    are_picks = subst (λ (s : List Pick). All (IsPickOf trial) s) (sym rests.made)
        (All-cons (IsPickOf trial) pick rests.picks is_pick rests.rests.are_picks);
    usual = rests.rests.usual;
    is_place = is_place;
    at = λ schedule is_at. subst (λ (s : List Pick). IsAt trial after s)
        (append_assoc schedule (pick ∷ []) rests.picks ∙ ap (λ (s : List Pick). schedule ++ s) (sym rests.made))
        (rests.rests.at (schedule ++ pick ∷ []) (at schedule is_at));
    goes = λ now stands.
        let step = goes now stands in
        let rest = rests.rests.leads step.next step.stands in
        record { next = step.next; is_next = step.is_next; end = rest.end; rests = rest.rests; stands = rest.stands };
  }
