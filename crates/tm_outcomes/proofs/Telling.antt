-- What a search tells that is over, and one that is cut.
use Rattle.std.proofs.Common.{◌≡◌, ℕ, ◌≤◌, false, List, Option, length, sym, ap, ◌∙◌, subst, arith}
use Rattle.std.specs.Prelude.{All, IfSome}
use Rattle.std.proofs.lemmas.Bool.{false≢true}
use Rattle.tm_model.specs.declared.outcome.Pick.{Pick}
use Rattle.tm_outcomes.specs.Kept.{AreApart}
use Rattle.tm_outcomes.specs.Nodes.{IsTree}
use Rattle.tm_outcomes.specs.Outcomes.{AreDistinct, AreTold, IsAllowed, IsSearch, IsTold, trial_setting}
use Rattle.tm_outcomes.specs.Searching.{AreFindings, AreStops, AreViolations, IsCutOf, IsSearching, IsWholeOf}
use Rattle.tm_outcomes.specs.Searching.{TellsWayless}
use Rattle.tm_outcomes.specs.Schedules.{Situation}
use Rattle.tm_outcomes.specs.Verdicts.{HasWaiting, IsCycle, IsReached, IsStopTold, IsStuck, IsVerdict, IsViolationTold}
use Rattle.tm_outcomes.specs.declared.cycle.Cycle.{Cycle}
use Rattle.tm_outcomes.specs.declared.searching.Search.{Search}
use Rattle.tm_outcomes.specs.declared.searching.Searching.{Searching}
use Rattle.tm_outcomes.specs.declared.stops.ReachedStop.{ReachedStop}
use Rattle.tm_outcomes.specs.declared.stuck.Stuck.{Stuck}
use Rattle.tm_outcomes.specs.declared.table.FoundOutcome.{FoundOutcome}
use Rattle.tm_outcomes.specs.declared.trial.Trial.{Trial}
use Rattle.tm_outcomes.specs.declared.violations.Violation.{Violation}
use Rattle.tm_outcomes.specs.declared.written.Written.{Written}
use Rattle.tm_outcomes.proofs.Catching.{stays_stopped}
use Rattle.tm_outcomes.proofs.Complete.{all_told, met, met_end}
use Rattle.tm_outcomes.proofs.Kept.{are_different, has_found}
use Rattle.tm_outcomes.proofs.Larger.{leads_alike}
use Rattle.tm_outcomes.proofs.Waiting.{stays_waiting}
use Rattle.tm_outcomes.proofs.Ways.{has_states, is_cycle, is_free, is_stuck}

module _ (trial : Trial) (most done : ℕ) (search : Searching) (schedules : List (List Pick)) (told : Search)
    (searching : IsSearching trial most search schedules done) (whole : length search.nodes.items ≤ done)
    (of : IsWholeOf trial search told) where
  pub is_search : IsSearch trial most told
  is_search =
      let outcomes : search.found.outcomes.items ≡ told.outcomes.items = sym (ap (λ v. v.items) of.outcomes) in
      record {
        told = subst (λ (all : List FoundOutcome). All (IsTold trial) all) outcomes searching.found.told;
        once = subst (λ (all : List FoundOutcome). AreDistinct all) outcomes searching.found.once;
        whole = λ _ schedule values outcome. subst (λ (all : List FoundOutcome). AreTold all values) outcomes
            (all_told trial most done search schedules searching whole schedule values outcome);
        limit = λ cut. absurd (false≢true (sym of.is_cut ∙ cut));
        few = (let f = searching.few in let s = of.states in omega arith);
      }

  none_waits : told.waited ≡ false → (schedule : List Pick) (now : Situation) → IsReached trial schedule now →
      ¬ HasWaiting (trial_setting trial) now
  none_waits none schedule now reached waiting =
      let there = met trial most done search schedules searching whole schedule now reached in
      (searching.explored.shown there.index (let w = there.leads.within in omega arith)).room
      (sym of.waited ∙ none) there.end there.leads
      (stays_waiting (trial_setting trial) (IsAllowed trial.events) there.steps now there.end there.rests waiting)

  pub is_verdict : (written : Written) → AreApart trial search.nodes.items written → IsVerdict trial told
  is_verdict written apart =
      let stops : search.found.stops.items ≡ told.stops.items = sym (ap (λ v. v.items) of.stops) in
      let all : AreStops trial told.stops.items =
      subst (λ (s : List ReachedStop). AreStops trial s) stops searching.found.stops in
      let violations : search.found.violations.items ≡ told.violations.items = sym (ap (λ v. v.items) of.violations) in
      let violated : AreViolations trial told.violations.items =
      subst (λ (vs : List Violation). AreViolations trial vs) violations searching.found.violations in
      let counted = searching.tree.counted in
      record {
        stuck = is_stuck trial most done search schedules searching whole of.verdict.marked of.verdict.marks told.stuck
            of.verdict.stuck;
        free = λ _ none. is_free trial most done search schedules searching whole of.verdict.marked of.verdict.marks
            (subst (λ (o : Option Stuck). TellsWayless search.nodes.items of.verdict.marked o) none of.verdict.stuck);
        cut = λ cut. absurd (false≢true (sym of.is_cut ∙ cut));
        states = λ _. has_states trial most done search schedules searching whole of.verdict.marked
            of.verdict.marks told of.states
            of.verdict.stuck (are_different trial search.nodes.items written schedules searching.tree apart);
        found = has_found trial search.nodes.items written schedules told searching.tree apart of.states;
        cycle = is_cycle trial most done search schedules searching whole of.verdict.marked of.verdict.marks told.cycle
            of.verdict.cycle;
        cut_cycle = λ cut. absurd (false≢true (sym of.is_cut ∙ cut));
        stops = all.told;
        once = all.once;
        no_stop = λ _ schedule now reached why asked stopped.
            let there = met trial most done search schedules searching whole schedule now reached in
            let stopped_there = stays_stopped (trial_setting trial) (IsAllowed trial.events) there.steps now there.end
            why there.rests stopped in
            subst (λ (s : List ReachedStop). IsStopTold s why) stops
            ((searching.explored.shown there.index (let w = there.leads.within in omega arith)).stops there.end
            there.leads why asked
            stopped_there);
        waited = λ some. searching.found.waited (sym of.waited ∙ some);
        no_wait = λ _ none. none_waits none;
        larger = λ _ none some stores more. leads_alike trial some (none_waits none) stores more;
        violations = violated.told;
        violated_once = violated.once;
        no_violation = λ _ schedule end reached has_ended index check asked violates.
            let there = met_end trial most done search schedules searching whole schedule end reached has_ended in
            subst (λ (vs : List Violation). IsViolationTold vs index) violations
            ((searching.explored.shown there.0 (let w = there.1.within in omega arith)).checks end there.1 has_ended
            index check asked
            violates);
      }

module _ (trial : Trial) (most : ℕ) (search : Searching) (told : Search) (full : length search.nodes.items ≡ most)
    (found : AreFindings trial search.found) (of : IsCutOf search told) where
  pub is_cut_search : IsSearch trial most told
  is_cut_search =
      let outcomes : search.found.outcomes.items ≡ told.outcomes.items = sym (ap (λ v. v.items) of.outcomes) in
      record {
        told = subst (λ (all : List FoundOutcome). All (IsTold trial) all) outcomes found.told;
        once = subst (λ (all : List FoundOutcome). AreDistinct all) outcomes found.once;
        whole = λ whole. absurd (false≢true (sym whole ∙ of.is_cut));
        limit = λ _. of.states ∙ full;
        few = (let s = of.states in omega arith);
      }

  pub is_cut_verdict : (written : Written) (schedules : List (List Pick)) → IsTree trial search.nodes.items schedules →
      AreApart trial search.nodes.items written → IsVerdict trial told
  is_cut_verdict written schedules tree apart =
      let stops : search.found.stops.items ≡ told.stops.items = sym (ap (λ v. v.items) of.stops) in
      let all : AreStops trial told.stops.items =
      subst (λ (s : List ReachedStop). AreStops trial s) stops found.stops in
      let violations : search.found.violations.items ≡ told.violations.items = sym (ap (λ v. v.items) of.violations) in
      let violated : AreViolations trial told.violations.items =
      subst (λ (vs : List Violation). AreViolations trial vs) violations found.violations in
      record {
        stuck = subst (λ (o : Option Stuck). IfSome o (λ s. IsStuck trial s.schedule.items)) (sym of.stuck) tt;
        free = λ whole. absurd (false≢true (sym whole ∙ of.is_cut));
        cut = λ _. of.stuck;
        states = λ whole. absurd (false≢true (sym whole ∙ of.is_cut));
        found = has_found trial search.nodes.items written schedules told tree apart of.states;
        cycle = subst (λ (o : Option Cycle). IfSome o (λ c. IsCycle trial c.schedule.items c.steps.items))
            (sym of.cycle) tt;
        cut_cycle = λ _. of.cycle;
        stops = all.told;
        once = all.once;
        no_stop = λ whole. absurd (false≢true (sym whole ∙ of.is_cut));
        waited = λ some. found.waited (sym of.waited ∙ some);
        no_wait = λ whole. absurd (false≢true (sym whole ∙ of.is_cut));
        larger = λ whole. absurd (false≢true (sym whole ∙ of.is_cut));
        violations = violated.told;
        violated_once = violated.once;
        no_violation = λ whole. absurd (false≢true (sym whole ∙ of.is_cut));
      }
