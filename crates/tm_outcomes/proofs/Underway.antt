-- A node that is being done.
use Rattle.std.proofs.Common.{◌≡◌, inl, inr, ℕ, ◌+◌, ◌<◌, ◌≤◌, List, ◌++◌, length, sym, ap, subst, arith, length-append}
use Rattle.std.specs.Prelude.{All}
use Rattle.std.proofs.lemmas.Bool.{cases_lt}
use Rattle.tm_model.specs.declared.outcome.Pick.{Pick}
use Rattle.tm_outcomes.specs.Nodes.{IsEnd, IsExplored, IsFollowed, IsShown, IsStep, IsTree}
use Rattle.tm_outcomes.specs.Outcomes.{IsAllowed}
use Rattle.tm_outcomes.specs.Searching.{AreFindings, HaveDone, IsFollowedIn, IsUnderway, Shows}
use Rattle.tm_outcomes.specs.declared.findings.Findings.{Findings}
use Rattle.tm_outcomes.specs.declared.links.Link.{Link}
use Rattle.tm_outcomes.specs.declared.nodes.Node.{Node}
use Rattle.tm_outcomes.specs.declared.searching.Searching.{Searching}
use Rattle.tm_outcomes.specs.declared.trial.Trial.{Trial}
use Rattle.tm_outcomes.proofs.Follows.{ends_grown, explored_grown, explored_more, followed_grown, followed_more}
use Rattle.tm_outcomes.proofs.Follows.{shown_grown}

-- the node is shown, and nothing else has changed
pub begins : (trial : Trial) (most index : ℕ) (old new : Searching) → old.nodes.items ≡ new.nodes.items →
    old.links.items ≡ new.links.items → index < length old.nodes.items → AreFindings trial new.found →
    ((schedules : List (List Pick)) → IsTree trial old.nodes.items schedules
    → Shows trial schedules old.found new.found index) →
    HaveDone trial most old index → IsUnderway trial most new index 0
begins trial most index old new nodes links within found shows done =
    let before = done.1 in
    let shown = shows done.0 before.tree in
    record {
      schedules = done.0;
      searching = record {
        tree = subst (λ (ns : List Node). IsTree trial ns done.0) nodes before.tree;
        steps = subst (λ (ls : List Link). All (IsStep trial done.0) ls) links before.steps;
        ends = shown.ends before.ends;
        explored = record {
          followed = λ other below pick is_pick. subst (λ (ls : List Link). IsFollowed trial done.0 ls other pick) links
              (before.explored.followed other below pick is_pick);
          shown = λ other below. shown.kept other (before.explored.shown other below);
        };
        found = found;
        few = subst (λ (ns : List Node). length ns ≤ most) nodes before.few;
      };
      within = subst (λ (ns : List Node). index < length ns) nodes within;
      followed = λ other below. absurd (omega arith);
      shown = shown.shown;
    }

pub goes_on : (trial : Trial) (most index core : ℕ) (old new : Searching) → old.found ≡ new.found →
    IsFollowedIn trial most old new index core (IsAllowed trial.events) → IsUnderway trial most old index core →
    IsUnderway trial most new index (core + 1)
goes_on trial most index core old new found followed before =
    let schedules = before.schedules in
    let step = followed.grows schedules before.searching.tree in
    let more = step.has_grown.more in
    let grown : step.grown ≡ schedules ++ more = step.has_grown.grown in
    let counted = before.searching.tree.counted in
    let within = before.within in
    let here : index < length schedules = omega arith in
    record {
      schedules = step.grown;
      searching = record {
        tree = step.has_grown.tree;
        steps = step.steps before.searching.steps;
        ends = subst (λ (f : Findings). All (IsEnd trial step.grown) f.ends.items) found
            (subst (λ (g : List (List Pick)). All (IsEnd trial g) old.found.ends.items) (sym grown)
            (ends_grown trial schedules more old.found.ends.items before.searching.ends));
        explored = subst (λ (f : Findings). IsExplored trial step.grown new.links.items f index) found
            (subst (λ (g : List (List Pick)). IsExplored trial g new.links.items old.found index) (sym grown)
            (explored_grown trial schedules more new.links.items old.found index (omega arith)
            (explored_more trial schedules old.links.items new.links.items old.found index followed.kept
            before.searching.explored)));
        found = subst (λ (f : Findings). AreFindings trial f) found before.searching.found;
        few = followed.few;
      };
      within = (let now = step.has_grown.tree.counted in let long = ap (λ (g : List (List Pick)). length g) grown in
          let sum = length-append schedules more in omega arith);
      followed = λ other below event allowed. elim (cases_lt other core) [
        | inl less ↦
            let pick : Pick = record { core = other; event = event } in
            subst (λ (g : List (List Pick)). IsFollowed trial g new.links.items index pick) (sym grown)
            (followed_grown trial schedules more new.links.items index pick here
            (followed_more trial schedules old.links.items new.links.items index pick followed.kept
            (before.followed other less event allowed)))
        | inr last ↦
            let same : core ≡ other = omega arith in
            subst (λ k. IsFollowed trial step.grown new.links.items index (record { core = k; event = event })) same
            (step.followed event allowed)
      ];
      shown = subst (λ (f : Findings). IsShown trial step.grown f index) found
          (subst (λ (g : List (List Pick)). IsShown trial g old.found index) (sym grown)
          (shown_grown trial schedules more old.found index here before.shown));
    }

pub ends : (trial : Trial) (most index core : ℕ) (search : Searching) → length trial.program.now.entries ≤ core
    → IsUnderway trial most search index core → HaveDone trial most search (index + 1)
ends trial most index core search all before = (
  before.schedules,
  record {
    tree = before.searching.tree;
    steps = before.searching.steps;
    ends = before.searching.ends;
    explored = record {
      followed = λ other below pick is_pick. elim (cases_lt other index) [
        | inl less ↦ before.searching.explored.followed other less pick is_pick
        | inr last ↦
            let same : index ≡ other = omega arith in
            subst (λ i. IsFollowed trial before.schedules search.links.items i pick) same
            (before.followed pick.core (let is_core = is_pick.is_core in omega arith) pick.event is_pick.allowed)
      ];
      shown = λ other below. elim (cases_lt other index) [
        | inl less ↦ before.searching.explored.shown other less
        | inr last ↦ let same : index ≡ other = omega arith in
            subst (λ i. IsShown trial before.schedules search.found i) same before.shown
      ];
    };
    found = before.searching.found;
    few = before.searching.few;
  },
)
