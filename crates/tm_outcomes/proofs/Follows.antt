-- A node whose steps are followed, and what stays so while the tree grows.
use Rattle.std.proofs.Common.{◌≡◌, ℕ, ◌<◌, ◌≤◌, List, ◌++◌, Some, length, sym, subst, arith, length-append}
use Rattle.std.specs.Prelude.{All}
use Rattle.std.proofs.lemmas.List.Elements.{All-weaker}
use Rattle.tm_core.specs.Theorem.{StandsFor}
use Rattle.tm_model.specs.declared.outcome.Pick.{Pick}
use Rattle.tm_outcomes.specs.Links.{IsLink}
use Rattle.tm_outcomes.specs.Nodes.{IsEnd, IsExplored, IsFollowed, IsShown, IsStep, LeadsAlong, LeadsTo}
use Rattle.tm_outcomes.specs.Nodes.{schedule_at}
use Rattle.tm_outcomes.specs.Outcomes.{trial_opening, trial_setting}
use Rattle.tm_outcomes.specs.Places.{IsAt}
use Rattle.tm_outcomes.specs.Resting.{Advances}
use Rattle.tm_outcomes.specs.Schedules.{Situation, after_schedule}
use Rattle.tm_outcomes.specs.declared.findings.Findings.{Findings}
use Rattle.tm_outcomes.specs.declared.links.Link.{Link}
use Rattle.tm_outcomes.specs.declared.place.Place.{Place}
use Rattle.tm_outcomes.specs.declared.trial.Trial.{Trial}
use Rattle.tm_outcomes.proofs.Leads.{leads_stands, stands_leads}
use Rattle.tm_outcomes.proofs.Trees.{schedule_old}

-- the place after a step stands for what a node leads to
pub follows : (trial : Trial) (schedules : List (List Pick)) (index : ℕ) (pick : Pick) (steps : List Pick)
    (before after other : Place)
    (to : ℕ) → IsAt trial before (schedule_at schedules index) → Advances trial before after pick steps →
    to < length schedules → IsAt trial other (schedule_at schedules to) →
    ((now : Situation) → StandsFor after.machine now.state now.doomed → StandsFor other.machine now.state now.doomed) →
    LeadsAlong trial schedules index pick to
follows trial schedules index pick steps before after other to at advances within there same = λ now leads.
    let step = advances.goes now (leads_stands trial schedules index before now at leads) in
    record {
      next = step.next;
      is_next = step.is_next;
      rest = advances.rest;
      end = step.end;
      rests = step.rests;
      leads = stands_leads trial schedules to other step.end within there (same step.end step.stands);
    }

-- ---- in a tree that has grown

module _ (trial : Trial) (schedules more : List (List Pick)) where
  to_grown : (index : ℕ) (now : Situation) → LeadsTo trial schedules index now
      → LeadsTo trial (schedules ++ more) index now
  to_grown index now leads = record {
    within = (let h = leads.within in let e = length-append schedules more in omega arith);
    end = leads.end;
    is_run = subst (λ (s : List Pick). after_schedule (trial_setting trial) (trial_opening trial) s ≡ Some leads.end)
        (sym (schedule_old schedules more index leads.within)) leads.is_run;
    same = leads.same;
    count = leads.count;
  }

  from_grown : (index : ℕ) (now : Situation) → index < length schedules → LeadsTo trial (schedules ++ more) index now
      → LeadsTo trial schedules index now
  from_grown index now within leads = record {
    within = within;
    end = leads.end;
    is_run = subst (λ (s : List Pick). after_schedule (trial_setting trial) (trial_opening trial) s ≡ Some leads.end)
        (schedule_old schedules more index within) leads.is_run;
    same = leads.same;
    count = leads.count;
  }

  along_grown : (from : ℕ) (pick : Pick) (to : ℕ) → from < length schedules → LeadsAlong trial schedules from pick to →
      LeadsAlong trial (schedules ++ more) from pick to
  along_grown from pick to within along = λ now leads.
      let step = along now (from_grown from now within leads) in
      record {
        next = step.next;
        is_next = step.is_next;
        rest = step.rest;
        end = step.end;
        rests = step.rests;
        leads = to_grown to step.end step.leads;
      }

  pub followed_grown : (links : List Link) (index : ℕ) (pick : Pick) → index < length schedules →
      IsFollowed trial schedules links index pick → IsFollowed trial (schedules ++ more) links index pick
  followed_grown links index pick within followed = record {
    to = followed.to;
    is_link = followed.is_link;
    along = along_grown index pick followed.to within followed.along;
  }

  longer : length schedules ≤ length (schedules ++ more)
  longer = (let e = length-append schedules more in omega arith)

  step_grown : (link : Link) → IsStep trial schedules link → IsStep trial (schedules ++ more) link
  step_grown link step = record {
    within = record {
      from = (let h = step.within.from in let e = longer in omega arith);
      to = (let h = step.within.to in let e = longer in omega arith);
    };
    pick = step.pick;
    is_pick = step.is_pick;
    along = along_grown link.from step.pick link.to step.within.from step.along;
  }

  pub steps_grown : (links : List Link) → All (IsStep trial schedules) links
      → All (IsStep trial (schedules ++ more)) links
  steps_grown links steps = All-weaker (IsStep trial schedules) (IsStep trial (schedules ++ more))
      (λ (link : Link) is. step_grown link is) links steps

  end_grown : (index : ℕ) → IsEnd trial schedules index → IsEnd trial (schedules ++ more) index
  end_grown index end = record {
    within = (let h = end.within in let e = longer in omega arith);
    ended = λ now leads. end.ended now (from_grown index now end.within leads);
  }

  pub ends_grown : (ends : List ℕ) → All (IsEnd trial schedules) ends → All (IsEnd trial (schedules ++ more)) ends
  ends_grown ends all = All-weaker (IsEnd trial schedules) (IsEnd trial (schedules ++ more))
      (λ (index : ℕ) is. end_grown index is) ends all

  pub shown_grown : (found : Findings) (index : ℕ) → index < length schedules → IsShown trial schedules found index
      → IsShown trial (schedules ++ more) found index
  shown_grown found index within shown = record {
    outcome = λ now leads. shown.outcome now (from_grown index now within leads);
    end = λ now leads. shown.end now (from_grown index now within leads);
    stops = λ now leads. shown.stops now (from_grown index now within leads);
    room = λ none now leads. shown.room none now (from_grown index now within leads);
    checks = λ now leads. shown.checks now (from_grown index now within leads);
  }

  pub explored_grown : (links : List Link) (found : Findings) (done : ℕ) → done ≤ length schedules →
      IsExplored trial schedules links found done → IsExplored trial (schedules ++ more) links found done
  explored_grown links found done few explored = record {
    followed = λ index below pick is_pick. followed_grown links index pick (omega arith)
        (explored.followed index below pick is_pick);
    shown = λ index below. shown_grown found index (omega arith) (explored.shown index below);
  }

-- ---- with more links

pub followed_more : (trial : Trial) (schedules : List (List Pick)) (before after : List Link)
    (index : ℕ) (pick : Pick) →
    ((from to : ℕ) → IsLink before from to → IsLink after from to) → IsFollowed trial schedules before index pick →
    IsFollowed trial schedules after index pick
followed_more trial schedules before after index pick kept followed = record {
  to = followed.to;
  is_link = kept index followed.to followed.is_link;
  along = followed.along;
}

pub explored_more : (trial : Trial) (schedules : List (List Pick)) (before after : List Link)
    (found : Findings) (done : ℕ) →
    ((from to : ℕ) → IsLink before from to → IsLink after from to) → IsExplored trial schedules before found done →
    IsExplored trial schedules after found done
explored_more trial schedules before after found done kept explored = record {
  followed = λ index below pick is_pick. followed_more trial schedules before after index pick kept
      (explored.followed index below pick is_pick);
  shown = explored.shown;
}
