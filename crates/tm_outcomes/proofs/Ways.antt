-- Nodes with a way to an end, and nodes without one.
use Rattle.std.proofs.Common.{◌≡◌, ℕ, zero, suc, ◌<◌, ◌≤◌, Bool, true, false, List, [], ◌∷◌, ◌++◌, Option, Some, None}
use Rattle.std.proofs.Common.{get_or, length, refl, sym, ap, ◌∙◌, subst, arith}
use Rattle.std.specs.Prelude.{All, IfSome, option_and_then}
use Rattle.std.proofs.lemmas.Bool.{false≢true}
use Rattle.std.proofs.lemmas.List.Elements.{All-append, All-cons, All-contains, All-head, All-nil, All-tail, All-weaker}
use Rattle.tm_model.specs.declared.outcome.Event.{Event}
use Rattle.tm_model.specs.declared.outcome.Pick.{Pick}
use Rattle.tm_outcomes.specs.Links.{IsWay}
use Rattle.tm_outcomes.specs.Marks.{AreMarks, IsMarked, unmarked}
use Rattle.tm_outcomes.specs.Nodes.{IsEnd, IsFollowed, IsPickOf, IsStep, LeadsTo, RestsAt, schedule_at}
use Rattle.tm_outcomes.specs.Outcomes.{AreAllowed, IsAllowed, IsSparing, trial_opening, trial_setting}
use Rattle.tm_outcomes.specs.Schedules.{HasEnded, Situation, after_pick, after_schedule}
use Rattle.tm_outcomes.specs.Searching.{IsRoundOf, IsSearching, TellsWayless}
use Rattle.tm_outcomes.specs.Verdicts.{AreDifferent, CanEnd, HasStates, IsCycle, IsJudged, IsReached, IsStuck}
use Rattle.tm_outcomes.specs.declared.cycle.Cycle.{Cycle}
use Rattle.tm_outcomes.specs.declared.links.Link.{Link}
use Rattle.tm_outcomes.specs.declared.searching.Search.{Search}
use Rattle.tm_outcomes.specs.declared.searching.Searching.{Searching}
use Rattle.tm_outcomes.specs.declared.stuck.Stuck.{Stuck}
use Rattle.tm_outcomes.specs.declared.trial.Trial.{Trial}
use Rattle.tm_outcomes.proofs.Catching.{catches_up, ended_rests, lead_allowed, lead_runs, split}
use Rattle.tm_outcomes.proofs.Complete.{IsAllowedIn, leads_here, met, steps_to}
use Rattle.tm_outcomes.proofs.Runs.{run_then}
use Rattle.tm_outcomes.proofs.Somes.{same_in}

-- what leads by unseen steps to where some schedule goes on to an end goes on to it, too
rested_end : (trial : Trial) (picks : List Pick) (now rest : Situation) → RestsAt trial now picks rest
    → CanEnd trial rest → CanEnd trial now
rested_end trial picks now rest rests can =
    let setting = trial_setting trial in
    let under : Option Event → Type 0 = IsAllowed trial.events in
    record {
      schedule = picks ++ can.schedule;
      allowed = All-append (IsAllowedIn trial) picks can.schedule
          (lead_allowed setting under picks now rest rests) can.allowed;
      end = can.end;
      is_run = run_then setting now picks can.schedule rest can.end
          (lead_runs setting under picks now rest rests) can.is_run;
      has_ended = can.has_ended;
    }

-- along a way to an end some schedule goes on to it
pub can_end : (trial : Trial) (schedules : List (List Pick)) (links : List Link) (ends : List ℕ)
    → All (IsStep trial schedules) links →
    All (IsEnd trial schedules) ends → (way : List ℕ) (node : ℕ) (now : Situation) → IsWay links ends node way →
    LeadsTo trial schedules node now → CanEnd trial now
can_end trial schedules links ends steps are_ends [] node now is leads = record {
  schedule = [];
  allowed = All-nil (IsAllowedIn trial);
  end = now;
  is_run = refl;
  has_ended = (All-contains (IsEnd trial schedules) ends node are_ends is).ended now leads;
}
can_end trial schedules links ends steps are_ends (next ∷ way) node now is leads =
    let link : Link = record { from = node; to = next } in
    let step : IsStep trial schedules link = All-contains (IsStep trial schedules) links link steps is.0 in
    let goes = step.along now leads in
    let rest = rested_end trial goes.rest goes.next goes.end goes.rests
    (can_end trial schedules links ends steps are_ends way next goes.end is.1 goes.leads) in
    record {
      schedule = step.pick ∷ rest.schedule;
      allowed = All-cons (IsAllowedIn trial) step.pick rest.schedule step.is_pick.allowed rest.allowed;
      end = rest.end;
      is_run = ap (option_and_then (λ after. after_schedule (trial_setting trial) after rest.schedule)) goes.is_next
          ∙ rest.is_run;
      has_ended = rest.has_ended;
    }

module _ (trial : Trial) (most done : ℕ) (search : Searching) (schedules : List (List Pick))
    (searching : IsSearching trial most search schedules done) (whole : length search.nodes.items ≤ done)
    (marked : List Bool)
    (marks : AreMarks search.links.items search.found.ends.items (length search.nodes.items) marked) where
  followed : (index : ℕ) → index < length schedules → (pick : Pick) → IsPickOf trial pick →
      IsFollowed trial schedules search.links.items index pick
  followed index below = (let counted = searching.tree.counted in searching.explored.followed index (omega arith))

  -- from a node that is not marked no schedule leads to an end
  never_ends : (most : ℕ) (picks : List Pick) (now end : Situation) (node : ℕ) → length picks ≤ most
      → ¬ IsMarked marked node →
      LeadsTo trial schedules node now → AreAllowed trial picks
      → after_schedule (trial_setting trial) now picks ≡ Some end →
      HasEnded end.state → ⊥
  never_ends most [] now end node few not_marked leads allowed e has_ended =
      let counted = searching.tree.counted in
      let ended : HasEnded now.state = subst (λ (x : Situation). HasEnded x.state) (sym (same_in e)) has_ended in
      not_marked (marks.ended node
      ((searching.explored.shown node (let w = leads.within in omega arith)).end now leads ended))
  never_ends zero (pick ∷ picks) now end node few not_marked leads allowed e has_ended = absurd (omega arith)
  never_ends (suc most) (pick ∷ picks) now end node few not_marked leads allowed e has_ended =
      let setting = trial_setting trial in
      let under : Option Event → Type 0 = IsAllowed trial.events in
      let parts = split (after_pick setting now pick) (λ next. after_schedule setting next picks) end e in
      let step = steps_to trial schedules search.links.items followed pick now parts.0 node
      (All-head (IsAllowedIn trial) pick picks allowed) leads parts.1.0 in
      let up = catches_up setting under picks step.rest parts.0 step.end end step.rests
      (All-tail (IsAllowedIn trial) pick picks allowed) parts.1.1 in
      let same : end ≡ up.last = ended_rests setting under up.steps end up.last has_ended up.leads in
      never_ends most up.picks step.end up.last step.to (let f = up.few in omega arith)
      (λ is. not_marked (marks.passed node step.to step.is_link is)) step.leads up.are_allowed up.is_run
      (subst (λ (x : Situation). HasEnded x.state) same has_ended)

  -- the schedule of a node
  reached : (node : ℕ) (now : Situation) → node < length search.nodes.items →
      after_schedule (trial_setting trial) (trial_opening trial) (schedule_at schedules node) ≡ Some now →
      IsReached trial (schedule_at schedules node) now
  reached node now within is_run = record {
    allowed = All-weaker (IsPickOf trial) (IsAllowedIn trial) (λ (pick : Pick) is. is.allowed)
        (schedule_at schedules node) (searching.tree.picks node within);
    is_run = is_run;
  }

  judged : (node : ℕ) → node < length search.nodes.items → (is : Bool) → get_or marked node false ≡ is →
      IsJudged trial (schedule_at schedules node) is
  judged node within true marked_here =
      let counted = searching.tree.counted in
      let run = searching.tree.runs node within in
      let way = marks.ways node marked_here in (
        run.0,
        reached node run.0 within run.1,
        can_end trial schedules search.links.items search.found.ends.items searching.steps searching.ends way.0
            node run.0 way.1
            (leads_here trial schedules node run.0 (omega arith) run.1 run.2),
      )
  judged node within false not_here =
      let counted = searching.tree.counted in
      let run = searching.tree.runs node within in (
        run.0,
        reached node run.0 within run.1,
        λ can. never_ends (length can.schedule) can.schedule run.0 can.end node (omega arith)
            (λ is. false≢true (sym not_here ∙ is)) (leads_here trial schedules node run.0 (omega arith) run.1 run.2)
            can.allowed can.is_run can.has_ended,
        run.3,
      )

  counted_stuck : (stuck : Option Stuck) → TellsWayless search.nodes.items marked stuck →
      IfSome stuck (λ told. told.states ≡ unmarked marked)
  counted_stuck None tells = tt
  counted_stuck (Some stuck) tells = tells.states

  pub has_states : (told : Search) → told.states ≡ length search.nodes.items →
      TellsWayless search.nodes.items marked told.stuck → AreDifferent trial schedules → HasStates trial told
  has_states told states tells different =
      let counted = searching.tree.counted in
      record {
        schedules = schedules;
        can_end = marked;
        count = counted ∙ sym states;
        judgements = marks.count ∙ sym states;
        different = different;
        all = λ schedule now is.
            let there = met trial most done search schedules searching whole schedule now is in
            let within : there.index < length search.nodes.items = (let w = there.leads.within in omega arith) in (
              there.index,
              (omega arith),
              record {
                steps = there.steps;
                end = there.end;
                rests = there.rests;
                there = there.leads.end;
                reached = reached there.index there.leads.end within there.leads.is_run;
                same = there.leads.same;
              },
            );
        judged = λ node below. judged node (omega arith) (get_or marked node false) refl;
        stuck = counted_stuck told.stuck tells;
      }

  pub is_stuck : (stuck : Option Stuck) → TellsWayless search.nodes.items marked stuck →
      IfSome stuck (λ told. IsStuck trial told.schedule.items)
  is_stuck None tells = tt
  is_stuck (Some stuck) tells =
      let tree = searching.tree in
      let counted = tree.counted in
      let run = tree.runs tells.node tells.within in
      let same : schedule_at schedules tells.node ≡ stuck.schedule.items = sym (tells.schedule trial schedules tree) in
      let leads = leads_here trial schedules tells.node run.0 (let w = tells.within in omega arith) run.1 run.2 in (
        run.0,
        record {
          allowed = subst (λ (s : List Pick). AreAllowed trial s) same
              (All-weaker (IsPickOf trial) (IsAllowedIn trial) (λ (pick : Pick) is. is.allowed)
              (schedule_at schedules tells.node) (tree.picks tells.node tells.within));
          is_run = subst (λ (s : List Pick). after_schedule (trial_setting trial) (trial_opening trial) s ≡ Some run.0)
              same run.1;
        },
        λ can. never_ends (length can.schedule) can.schedule run.0 can.end tells.node (omega arith)
            tells.not_marked leads
            can.allowed can.is_run can.has_ended,
        subst (λ (s : List Pick). IsSparing trial s) same run.3,
      )

  pub is_free : TellsWayless search.nodes.items marked None
      → (schedule : List Pick) (now : Situation) → IsReached trial schedule now →
      CanEnd trial now
  is_free all schedule now reached =
      let counted = searching.tree.counted in
      let there = met trial most done search schedules searching whole schedule now reached in
      let way = marks.ways there.index (all there.index (let w = there.leads.within in omega arith)) in
      rested_end trial there.steps now there.end there.rests
      (can_end trial schedules search.links.items search.found.ends.items searching.steps searching.ends
      way.0 there.index
      there.end way.1 there.leads)

  -- nor is a cycle told from where no end can be reached
  pub is_cycle : (cycle : Option Cycle) → IfSome cycle (IsRoundOf trial search.nodes.items marked) →
      IfSome cycle (λ told. IsCycle trial told.schedule.items told.steps.items)
  is_cycle None tells = tt
  is_cycle (Some cycle) tells =
      let tree = searching.tree in
      let counted = tree.counted in
      let round = tells.round schedules tree in
      let count = tree.runs tells.node tells.within in
      let at : count.0 ≡ round.now = same_in (sym count.1 ∙ round.is_run) in
      let entries : round.now.state.count ≡ length trial.program.now.entries =
      subst (λ (x : Situation). x.state.count ≡ length trial.program.now.entries) at count.2 in
      let same : schedule_at schedules tells.node ≡ cycle.schedule.items = sym (tells.schedule schedules tree) in
      let leads =
      leads_here trial schedules tells.node round.now (let w = tells.within in omega arith) round.is_run entries in
      let way = marks.ways tells.node tells.is_marked in
      record {
        now = round.now;
        reached = record {
          allowed = subst (λ (s : List Pick). AreAllowed trial s) same
              (All-weaker (IsPickOf trial) (IsAllowedIn trial) (λ (pick : Pick) is. is.allowed)
              (schedule_at schedules tells.node) (tree.picks tells.node tells.within));
          is_run = subst
              (λ (s : List Pick). after_schedule (trial_setting trial) (trial_opening trial) s ≡ Some round.now) same
              round.is_run;
        };
        sparing = subst (λ (s : List Pick). IsSparing trial s) same count.3;
        goes_on = round.goes_on;
        can_end =
            can_end trial schedules search.links.items search.found.ends.items searching.steps searching.ends way.0
            tells.node round.now way.1 leads;
        leads_back = round.leads_back;
      }
