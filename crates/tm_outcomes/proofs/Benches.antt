-- Machines whose memory is what it was but on the lines that were noted.
use Rattle.std.proofs.Common.{◌≡◌, inl, inr, ℕ, zero, suc, ◌+◌, ◌<◌, List, [], ◌∷◌, ◌++◌, Option, Some, None, length}
use Rattle.std.proofs.Common.{refl, sym, ap, ◌∙◌, subst, arith, length-append}
use Rattle.std.specs.Prelude.{All, Contains, option_and_then}
use Rattle.std.proofs.lemmas.Bool.{cases_lt}
use Rattle.ia_image.specs.Program.{opening_memory}
use Rattle.tm_core.specs.Reopening.{IsSameElsewhere}
use Rattle.tm_core.specs.Theorem.{StandsFor, machine_setting}
use Rattle.tm_model.specs.Setting.{Setting}
use Rattle.tm_model.specs.declared.outcome.Pick.{Pick}
use Rattle.tm_outcomes.specs.Nodes.{HasRun, IsPickOf, IsTree, parent_at, schedule_at, steps_at}
use Rattle.tm_outcomes.specs.Outcomes.{IsAllowed, trial_opening, trial_setting}
use Rattle.tm_outcomes.specs.Places.{IsAt, IsPlaceOf}
use Rattle.tm_outcomes.specs.Resting.{Advances}
use Rattle.tm_outcomes.specs.Schedules.{Situation, after_schedule}
use Rattle.tm_outcomes.specs.Written.{IsAtNode, IsBenchOf, IsPlaceIn, IsWithin, IsWrittenOf, KeepsNoted, StoresOn}
use Rattle.tm_outcomes.specs.declared.bench.Bench.{Bench}
use Rattle.tm_outcomes.specs.declared.nodes.Node.{Node}
use Rattle.tm_outcomes.specs.declared.place.Place.{Place}
use Rattle.tm_outcomes.specs.declared.trial.Trial.{Trial}
use Rattle.tm_outcomes.specs.declared.written.Written.{Written}
use Rattle.tm_outcomes.proofs.Catching.{lead_memory, lead_runs}
use Rattle.tm_outcomes.proofs.Runs.{run_then}
use Rattle.tm_outcomes.proofs.Somes.{same_in}
use Rattle.tm_outcomes.proofs.Stored.{on_more, then_same}
use Rattle.tm_outcomes.proofs.Trees.{grows, schedule_new, schedule_old}

-- ---- with more lines

pub within_more : (trial : Trial) (lines more : List ℕ) (schedule : List Pick) →
    ((line : ℕ) → Contains lines line → Contains more line) → IsWithin trial lines schedule
    → IsWithin trial more schedule
within_more trial lines more schedule among within = λ now is_run.
    on_more lines more now.state.memory (opening_memory trial.program.now) among (within now is_run)

module _ (trial : Trial) (before after : Written) (keeps : KeepsNoted before after) where
  opening_is : before.opening.items ≡ opening_memory trial.program.now
      → after.opening.items ≡ opening_memory trial.program.now
  opening_is is = ap (λ v. v.items) keeps.opening ∙ is

  pub place_more : (place : Place) → IsPlaceIn trial before place → IsPlaceIn trial after place
  place_more place is = record {
    place = is.place;
    opening = opening_is is.opening;
    memory = subst (λ m. IsSameElsewhere after.lines.items place.machine.memory m)
        (sym (ap (λ v. v.items) keeps.opening))
        (on_more before.lines.items after.lines.items place.machine.memory before.opening.items keeps.kept
        is.memory);
  }

  pub written_more : (nodes : List Node) → IsWrittenOf trial nodes before → IsWrittenOf trial nodes after
  written_more nodes is = record {
    opening = opening_is is.opening;
    schedules = is.schedules;
    tree = is.tree;
    within = λ index below.
        within_more trial before.lines.items after.lines.items (schedule_at is.schedules index) keeps.kept
        (is.within index below);
  }

-- ---- a step

-- a schedule with a step more, whose stores were noted, and with the unseen steps behind it, which store nothing
pub within_advanced : (trial : Trial) (lines : List ℕ) (schedule : List Pick) (place after : Place) (pick : Pick)
    (steps : List Pick) →
    IsAt trial place schedule → Advances trial place after pick steps → IsWithin trial lines schedule →
    ((now : Situation) → StandsFor place.machine now.state now.doomed →
    StoresOn (machine_setting place.machine) lines now pick.core) → IsWithin trial lines (schedule ++ steps)
within_advanced trial lines schedule place after pick steps at advances within noted = λ now is_run.
    let setting : Setting = trial_setting trial in
    let step = advances.goes at.now at.stands in
    let runs : after_schedule setting at.now (pick ∷ advances.rest) ≡ Some step.end =
    ap (option_and_then (λ (next : Situation). after_schedule setting next advances.rest)) step.is_next
    ∙ lead_runs setting (IsAllowed trial.events) advances.rest step.next step.end step.rests in
    let ends : after_schedule setting (trial_opening trial) (schedule ++ steps) ≡ Some step.end =
    run_then setting (trial_opening trial) schedule steps at.now step.end at.is_run
    (subst (λ (s : List Pick). after_schedule setting at.now s ≡ Some step.end) (sym advances.made) runs) in
    let same : step.end ≡ now = same_in (sym ends ∙ is_run) in
    let memory : step.end.state.memory ≡ step.next.state.memory =
    lead_memory setting (IsAllowed trial.events) advances.rest step.next step.end step.rests in
    subst (λ (x : Situation). IsSameElsewhere lines x.state.memory (opening_memory trial.program.now)) same
    (subst (λ m. IsSameElsewhere lines m (opening_memory trial.program.now)) (sym memory)
    (then_same lines step.next.state.memory at.now.state.memory (opening_memory trial.program.now)
    (subst (λ (rules : Setting). StoresOn rules lines at.now pick.core) at.rules (noted at.now at.stands)
    pick.event step.next
    step.is_next) (within at.now at.is_run)))

-- a machine at the end of such a schedule
pub place_at : (trial : Trial) (written : Written) (place : Place) (schedule : List Pick) →
    written.opening.items ≡ opening_memory trial.program.now → IsPlaceOf trial place → IsAt trial place schedule →
    IsWithin trial written.lines.items schedule → IsPlaceIn trial written place
place_at trial written place schedule opening is at within = record {
  place = is;
  opening = opening;
  memory = subst (λ m. IsSameElsewhere written.lines.items m written.opening.items) (sym at.stands.same_memory)
      (subst (λ m. IsSameElsewhere written.lines.items at.now.state.memory m) (sym opening) (within at.now at.is_run));
}

-- ---- a node more

written_new : (trial : Trial) (nodes after : List Node) (node : Node) (written : Written)
    (old : IsWrittenOf trial nodes written) →
    after ≡ nodes ++ node ∷ [] → node.parent < length nodes → All (IsPickOf trial) node.steps.items →
    HasRun trial (schedule_at old.schedules node.parent ++ node.steps.items) →
    IsWithin trial written.lines.items (schedule_at old.schedules node.parent ++ node.steps.items) →
    IsWrittenOf trial after written
written_new trial nodes after node written old added parent are_picks has_run within =
    let last : List Pick = schedule_at old.schedules node.parent ++ node.steps.items in
    let grown : List (List Pick) = old.schedules ++ last ∷ [] in
    let tree : IsTree trial (nodes ++ node ∷ []) grown =
    grows trial nodes old.schedules node old.tree parent are_picks has_run in
    let long : length after ≡ length nodes + 1 =
    ap (λ (ns : List Node). length ns) added ∙ length-append nodes (node ∷ []) in
    let counted : length old.schedules ≡ length nodes = old.tree.counted in
    record {
      opening = old.opening;
      schedules = grown;
      tree = subst (λ (ns : List Node). IsTree trial ns grown) (sym added) tree;
      within = λ index below. elim (cases_lt index (length nodes)) [
        | inl earlier ↦
            subst (λ (s : List Pick). IsWithin trial written.lines.items s)
            (sym (schedule_old old.schedules (last ∷ []) index (omega arith))) (old.within index earlier)
        | inr later ↦
            subst (λ (s : List Pick). IsWithin trial written.lines.items s)
            (sym (schedule_new old.schedules last index (omega arith))) within
      ];
    }

-- ---- the machine that stands at a node

-- a node has one schedule
pub one_schedule : (trial : Trial) (nodes : List Node) (one other : List (List Pick)) → IsTree trial nodes one
    → IsTree trial nodes other →
    (most index : ℕ) → index < most → index < length nodes → schedule_at one index ≡ schedule_at other index
one_schedule trial nodes one other a b zero index below within = absurd (omega arith)
one_schedule trial nodes one other a b (suc most) index below within = elim (cases_lt 0 index) [
  | inl positive ↦
      let lower = a.lower index positive within in
      let before : schedule_at one (parent_at nodes index) ≡ schedule_at other (parent_at nodes index) =
      one_schedule trial nodes one other a b most (parent_at nodes index) (omega arith) (omega arith) in
      a.longer index positive within
      ∙ (ap (λ (s : List Pick). s ++ steps_at nodes index) before ∙ sym (b.longer index positive within))
  | inr none ↦
      let first : index ≡ 0 = omega arith in
      ap (schedule_at one) first ∙ (a.root ∙ (sym b.root ∙ ap (schedule_at other) (sym first)))
]

-- it stands there in a tree with a node more
pub at_grown : (trial : Trial) (nodes after : List Node) (node : Node) (schedules : List (List Pick)) (place : Place)
    (at : Option ℕ) →
    IsTree trial nodes schedules → after ≡ nodes ++ node ∷ [] → node.parent < length nodes
    → All (IsPickOf trial) node.steps.items →
    HasRun trial (schedule_at schedules node.parent ++ node.steps.items) → IsAtNode trial nodes place at
    → IsAtNode trial after place at
at_grown trial nodes after node schedules place None tree added parent are_picks has_run is = tt
at_grown trial nodes after node schedules place (Some index) tree added parent are_picks has_run is =
    let last : List Pick = schedule_at schedules node.parent ++ node.steps.items in
    let grown : List (List Pick) = schedules ++ last ∷ [] in
    let more : IsTree trial after grown =
    subst (λ (ns : List Node). IsTree trial ns grown) (sym added)
    (grows trial nodes schedules node tree parent are_picks has_run) in
    let long : length after ≡ length nodes + 1 =
    ap (λ (ns : List Node). length ns) added ∙ length-append nodes (node ∷ []) in
    let counted : length schedules ≡ length nodes = tree.counted in
    let within = is.0 in
    let below : index < length after = omega arith in (
      below,
      λ others tree_now.
          subst (λ (s : List Pick). IsAt trial place s)
          (sym (schedule_old schedules (last ∷ []) index (omega arith))
          ∙ one_schedule trial after grown others more tree_now (length after) index below below)
          (is.1 schedules tree),
    )

-- a bench behind a step of the state that goes on, with more lines
pub bench_advanced : (trial : Trial) (nodes : List Node) (bench : Bench) (here : Place) (noted : Written) →
    KeepsNoted bench.noted noted →
    IsPlaceIn trial noted here → IsBenchOf trial nodes bench
    → IsBenchOf trial nodes (record bench { here = here; noted = noted })
bench_advanced trial nodes bench here noted keeps is_in is = record {
  start = place_more trial bench.noted noted keeps bench.start is.start;
  at = is.at;
  here = is_in;
  other = place_more trial bench.noted noted keeps bench.other is.other;
  written = written_more trial bench.noted noted keeps nodes is.written;
}

-- and for a node more
pub bench_grown : (trial : Trial) (nodes after : List Node) (node : Node) (bench : Bench)
    (is : IsBenchOf trial nodes bench) →
    after ≡ nodes ++ node ∷ [] → node.parent < length nodes → All (IsPickOf trial) node.steps.items →
    HasRun trial (schedule_at is.written.schedules node.parent ++ node.steps.items) →
    IsWithin trial bench.noted.lines.items (schedule_at is.written.schedules node.parent ++ node.steps.items) →
    IsBenchOf trial after bench
bench_grown trial nodes after node bench is added parent are_picks has_run within = record {
  start = is.start;
  at = at_grown trial nodes after node is.written.schedules bench.start bench.at is.written.tree added parent
      are_picks has_run is.at;
  here = is.here;
  other = is.other;
  written = written_new trial nodes after node bench.noted is.written added parent are_picks has_run within;
}

-- ---- before the first step

pub written_first : (trial : Trial) (nodes : List Node) (written : Written) (schedules : List (List Pick)) →
    written.opening.items ≡ opening_memory trial.program.now → IsTree trial nodes schedules → length nodes ≡ 1 →
    IsWrittenOf trial nodes written
written_first trial nodes written schedules opening tree one = record {
  opening = opening;
  schedules = schedules;
  tree = tree;
  within = λ index below now is_run.
      let first : 0 ≡ index = omega arith in
      let root : schedule_at schedules index ≡ [] = subst (λ n. schedule_at schedules n ≡ []) first tree.root in
      let at : trial_opening trial ≡ now =
      same_in (ap (after_schedule (trial_setting trial) (trial_opening trial)) (sym root) ∙ is_run) in
      subst (λ (x : Situation). IsSameElsewhere written.lines.items x.state.memory (opening_memory trial.program.now))
      at
      (record { count = refl; same = λ address. inr refl });
}
