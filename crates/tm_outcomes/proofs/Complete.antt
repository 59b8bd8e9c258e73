-- A search that has followed each node has met the end of each schedule.
use Rattle.std.proofs.Common.{◌≡◌, ℕ, zero, suc, ◌<◌, ◌≤◌, Bool, true, false, cond, List, [], ◌∷◌, ◌++◌, Option, Some}
use Rattle.std.proofs.Common.{None, length, refl, sym, ap, ◌∙◌, subst, arith}
use Rattle.std.specs.Prelude.{nat_lt, option_map}
use Rattle.std.proofs.lemmas.Bool.{ltb-true}
use Rattle.std.proofs.lemmas.List.Elements.{All-head, All-tail}
use Rattle.tm_model.specs.State.{State}
use Rattle.tm_model.specs.declared.outcome.Event.{Event}
use Rattle.tm_model.specs.declared.outcome.Pick.{Pick}
use Rattle.tm_outcomes.specs.Links.{IsLink}
use Rattle.tm_outcomes.specs.Nodes.{IsFollowed, IsPickOf, LeadsTo, RestsAt, schedule_at}
use Rattle.tm_outcomes.specs.Outcomes.{AreAllowed, AreTold, IsAllowed, IsOutcome, trial_opening, trial_setting}
use Rattle.tm_outcomes.specs.Schedules.{HasEnded, Situation, after_pick, after_schedule, owed_by, with_state}
use Rattle.tm_outcomes.specs.Searching.{IsSearching}
use Rattle.tm_outcomes.specs.Verdicts.{IsReached}
use Rattle.tm_outcomes.specs.declared.links.Link.{Link}
use Rattle.tm_outcomes.specs.declared.searching.Searching.{Searching}
use Rattle.tm_outcomes.specs.declared.trial.Trial.{Trial}
use Rattle.tm_outcomes.proofs.Catching.{catches_up, ended_rests, split, then_lead}
use Rattle.tm_outcomes.proofs.Somes.{same_in}

-- only a core that is there steps
there : (below : Bool) (f : State → Situation) (o : Option State) (middle : Situation)
    → option_map f (cond below o None) ≡ Some middle → below ≡ true
there true f o middle e = refl
there false f o middle e = absurd (cc)

abbrev pub IsAllowedIn : Trial → Pick → Type 0
IsAllowedIn trial pick = IsAllowed trial.events pick.event

-- the node that a step leads to with unseen steps behind it, and the link
pub record Reaches (trial : Trial) (schedules : List (List Pick)) (links : List Link) (index : ℕ) (next : Situation)
    : Type 0 where
  pub to : ℕ
  pub is_link : IsLink links index to
  pub rest : List Pick
  pub end : Situation
  pub rests : RestsAt trial next rest end
  pub leads : LeadsTo trial schedules to end

-- a node that what is here leads to by unseen steps
pub record Meets (trial : Trial) (schedules : List (List Pick)) (now : Situation) : Type 0 where
  pub index : ℕ
  pub steps : List Pick
  pub end : Situation
  pub rests : RestsAt trial now steps end
  pub leads : LeadsTo trial schedules index end

module _ (trial : Trial) (schedules : List (List Pick)) (links : List Link)
    (followed : (index : ℕ) → index < length schedules → (pick : Pick) → IsPickOf trial pick →
    IsFollowed trial schedules links index pick) where
  pub steps_to : (pick : Pick) (now next : Situation) (index : ℕ) → IsAllowedIn trial pick
      → LeadsTo trial schedules index now →
      after_pick (trial_setting trial) now pick ≡ Some next → Reaches trial schedules links index next
  steps_to pick now next index allowed leads e =
      let setting = trial_setting trial in
      let below : nat_lt pick.core now.state.count ≡ true =
      there (nat_lt pick.core now.state.count) (with_state setting now pick.core (owed_by setting now pick)) _ next e in
      let is_core : pick.core < length trial.program.now.entries =
      (let less = ltb-true pick.core now.state.count below in let same = leads.count in omega arith) in
      let step = followed index leads.within pick (record { is_core = is_core; allowed = allowed }) in
      let goes = step.along now leads in
      let same : goes.next ≡ next = same_in (sym goes.is_next ∙ e) in
      record {
        to = step.to;
        is_link = step.is_link;
        rest = goes.rest;
        end = goes.end;
        rests = subst (λ (x : Situation). RestsAt trial x goes.rest goes.end) same goes.rests;
        leads = goes.leads;
      }

  -- by the length of the schedule: each link takes a step of it, and what is left of it is no longer
  pub reach : (most : ℕ) (picks : List Pick) (now end : Situation) (index : ℕ) → length picks ≤ most
      → AreAllowed trial picks →
      LeadsTo trial schedules index now → after_schedule (trial_setting trial) now picks ≡ Some end
      → Meets trial schedules end
  reach most [] now end index few allowed leads e = record {
    index = index;
    steps = [];
    end = end;
    rests = refl;
    leads = subst (λ (x : Situation). LeadsTo trial schedules index x) (same_in e) leads;
  }
  reach zero (pick ∷ picks) now end index few allowed leads e = absurd (omega arith)
  reach (suc most) (pick ∷ picks) now end index few allowed leads e =
      let setting = trial_setting trial in
      let under : Option Event → Type 0 = IsAllowed trial.events in
      let parts = split (after_pick setting now pick) (λ next. after_schedule setting next picks) end e in
      let step = steps_to pick now parts.0 index (All-head (IsAllowedIn trial) pick picks allowed) leads parts.1.0 in
      let up = catches_up setting under picks step.rest parts.0 step.end end step.rests
      (All-tail (IsAllowedIn trial) pick picks allowed) parts.1.1 in
      let met = reach most up.picks step.end up.last step.to (let f = up.few in omega arith) up.are_allowed
      step.leads up.is_run in
      record {
        index = met.index;
        steps = up.steps ++ met.steps;
        end = met.end;
        rests = then_lead setting under up.steps met.steps end up.last met.end up.leads met.rests;
        leads = met.leads;
      }

-- what the schedule of a node leads to
pub leads_here : (trial : Trial) (schedules : List (List Pick)) (index : ℕ) (now : Situation)
    → index < length schedules →
    after_schedule (trial_setting trial) (trial_opening trial) (schedule_at schedules index) ≡ Some now →
    now.state.count ≡ length trial.program.now.entries → LeadsTo trial schedules index now
leads_here trial schedules index now within is_run count = record {
  within = within;
  end = now;
  is_run = is_run;
  same = record { memory = refl; count = refl; each = λ core below. refl; pending = λ core below. refl };
  count = count;
}

module _ (trial : Trial) (most done : ℕ) (search : Searching) (schedules : List (List Pick))
    (searching : IsSearching trial most search schedules done) (whole : length search.nodes.items ≤ done) where
  -- what a schedule leads to leads to some node by unseen steps
  pub met : (schedule : List Pick) (now : Situation) → IsReached trial schedule now → Meets trial schedules now
  met schedule now reached =
      let counted = searching.tree.counted in
      let some = searching.tree.some in
      reach trial schedules search.links.items (λ index below. searching.explored.followed index (omega arith))
      (length schedule) schedule (trial_opening trial) now 0 (omega arith) reached.allowed
      (leads_here trial schedules 0 (trial_opening trial) (omega arith)
      (ap (after_schedule (trial_setting trial) (trial_opening trial)) searching.tree.root) refl) reached.is_run

  -- where each core has stopped there is no such step
  pub met_end : (schedule : List Pick) (now : Situation) → IsReached trial schedule now → HasEnded now.state →
      (index : ℕ) × LeadsTo trial schedules index now
  met_end schedule now reached has_ended =
      let there = met schedule now reached in (
        there.index,
        subst (λ (x : Situation). LeadsTo trial schedules there.index x)
            (sym (ended_rests (trial_setting trial) (IsAllowed trial.events) there.steps now there.end has_ended
            there.rests)) there.leads,
      )

  -- so each outcome is told
  pub all_told : (schedule : List Pick) (values : List ℕ) → IsOutcome trial schedule values →
      AreTold search.found.outcomes.items values
  all_told schedule values outcome =
      let counted = searching.tree.counted in
      let there =
      met_end schedule outcome.end (record { allowed = outcome.allowed; is_run = outcome.is_run }) outcome.has_ended in
      subst (λ (v : List ℕ). AreTold search.found.outcomes.items v) (sym outcome.shown)
      ((searching.explored.shown there.0 (let w = there.1.within in omega arith)).outcome outcome.end there.1
      outcome.has_ended)
