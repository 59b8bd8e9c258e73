-- Trees that grow by one node.
use Rattle.std.proofs.Common.{◌≡◌, inl, inr, ℕ, ◌+◌, ◌<◌, List, [], ◌∷◌, ◌++◌, length, map, get_or, refl, sym, ap, ◌∙◌}
use Rattle.std.proofs.Common.{subst, arith, length-append}
use Rattle.std.specs.Prelude.{All}
use Rattle.std.proofs.Math.Seq.{get_or-append_seam}
use Rattle.std.proofs.lemmas.Bool.{cases_lt}
use Rattle.std.proofs.lemmas.List.{get_or-map, get_or_append_left, length-map, map-append}
use Rattle.std.proofs.lemmas.List.Elements.{All-append, All-nil}
use Rattle.tm_model.specs.declared.outcome.Pick.{Pick}
use Rattle.tm_outcomes.specs.Nodes.{HasRun, IsPickOf, IsTree, parent_at, schedule_at, steps_at}
use Rattle.tm_outcomes.specs.Outcomes.{trial_opening}
use Rattle.tm_outcomes.specs.declared.nodes.Node.{Node}
use Rattle.tm_outcomes.specs.declared.trial.Trial.{Trial}

pub schedule_old : (schedules more : List (List Pick)) (index : ℕ) → index < length schedules
    → schedule_at (schedules ++ more) index ≡ schedule_at schedules index
schedule_old schedules more index below = get_or_append_left schedules more [] index below

pub schedule_new : (schedules : List (List Pick)) (schedule : List Pick) (index : ℕ) → index ≡ length schedules
    → schedule_at (schedules ++ schedule ∷ []) index ≡ schedule
schedule_new schedules schedule index last =
    ap (schedule_at (schedules ++ schedule ∷ [])) last ∙ get_or-append_seam schedules schedule [] []

-- a part of each node
pub part_old : {A : Type 0} (part : Node → A) (default : A) (nodes : List Node) (node : Node) (index : ℕ)
    → index < length nodes →
    get_or (map part (nodes ++ node ∷ [])) index default ≡ get_or (map part nodes) index default
part_old part default nodes node index below =
    ap (λ parts. get_or parts index default) (map-append part nodes (node ∷ []))
    ∙ get_or_append_left (map part nodes) (part node ∷ []) default index
    (subst (λ n. index < n) (sym (length-map nodes part)) below)

pub part_new : {A : Type 0} (part : Node → A) (default : A) (nodes : List Node) (node : Node) (index : ℕ)
    → index ≡ length nodes →
    get_or (map part (nodes ++ node ∷ [])) index default ≡ part node
part_new part default nodes node index last =
    ap (λ parts. get_or parts index default) (map-append part nodes (node ∷ []))
    ∙ (ap (λ n. get_or (map part nodes ++ part node ∷ []) n default) (last ∙ sym (length-map nodes part))
    ∙ get_or-append_seam (map part nodes) (part node) [] default)

-- of the node at an index, whatever the default that it is asked with
pub part_is : {A : Type 0} (part : Node → A) (default : A) (nodes : List Node) (index : ℕ) (node : Node)
    → index < length nodes →
    get_or nodes index node ≡ node → get_or (map part nodes) index default ≡ part node
part_is part default nodes index node below is =
    get_or-map part nodes index node default below ∙ ap part is

-- what holds of the old nodes and of the new one holds of all
each : (P : ℕ → Type 0) (nodes : List Node) (node : Node) → ((index : ℕ) → index < length nodes → P index)
    → ((index : ℕ) → index ≡ length nodes → P index) →
    (index : ℕ) → index < length (nodes ++ node ∷ []) → P index
each P nodes node before here index below =
    let long : length (nodes ++ node ∷ []) ≡ length nodes + 1 = length-append nodes (node ∷ []) in
    elim (cases_lt index (length nodes)) [
      | inl less ↦ before index less
      | inr more ↦ here index (omega arith)
    ]

pub grows : (trial : Trial) (nodes : List Node) (schedules : List (List Pick)) (node : Node) →
    IsTree trial nodes schedules → node.parent < length nodes → All (IsPickOf trial) node.steps.items →
    HasRun trial (schedule_at schedules node.parent ++ node.steps.items) →
    IsTree trial (nodes ++ node ∷ []) (schedules ++ (schedule_at schedules node.parent ++ node.steps.items) ∷ [])
grows trial nodes schedules node tree lower are_picks has_run =
    let steps : List Pick = node.steps.items in
    let added : List Pick = schedule_at schedules node.parent ++ steps in
    let nodes_now : List Node = nodes ++ node ∷ [] in
    let now : List (List Pick) = schedules ++ added ∷ [] in
    let counted = tree.counted in
    let some = tree.some in
    let old : (index : ℕ) → index < length nodes → schedule_at now index ≡ schedule_at schedules index =
    λ index below. schedule_old schedules (added ∷ []) index (omega arith) in
    let new : (index : ℕ) → index ≡ length nodes → schedule_at now index ≡ added =
    λ index last. schedule_new schedules added index (omega arith) in
    let parent_old : (index : ℕ) → index < length nodes → parent_at nodes_now index ≡ parent_at nodes index =
    part_old (λ (n : Node). n.parent) 0 nodes node in
    let parent_new : (index : ℕ) → index ≡ length nodes → parent_at nodes_now index ≡ node.parent =
    part_new (λ (n : Node). n.parent) 0 nodes node in
    let steps_old : (index : ℕ) → index < length nodes → steps_at nodes_now index ≡ steps_at nodes index =
    part_old (λ (n : Node). n.steps.items) [] nodes node in
    let steps_new : (index : ℕ) → index ≡ length nodes → steps_at nodes_now index ≡ steps =
    part_new (λ (n : Node). n.steps.items) [] nodes node in
    record {
      counted =
          length-append schedules (added ∷ []) ∙ (ap (λ n. n + 1) counted ∙ sym (length-append nodes (node ∷ [])));
      some = (let long : length nodes_now ≡ length nodes + 1 = length-append nodes (node ∷ []) in omega arith);
      root = old 0 some ∙ tree.root;
      lower = λ index positive below. each (λ i. 0 < i → parent_at nodes_now i < i) nodes node
          (λ i less more. subst (λ n. n < i) (sym (parent_old i less)) (tree.lower i more less))
          (λ i last more. subst (λ n. n < i) (sym (parent_new i last)) (omega arith))
          index below positive;
      longer = λ index positive below. each
          (λ i. 0 < i → schedule_at now i ≡ schedule_at now (parent_at nodes_now i) ++ steps_at nodes_now i) nodes node
          (λ i less more.
          let up = tree.lower i more less in
          old i less
          ∙ (tree.longer i more less
          ∙ (ap (λ s. s ++ steps_at nodes i) (sym (old (parent_at nodes i) (omega arith)))
          ∙ (ap (λ n. schedule_at now n ++ steps_at nodes i) (sym (parent_old i less))
          ∙ ap (λ s. schedule_at now (parent_at nodes_now i) ++ s) (sym (steps_old i less))))))
          (λ i last more.
          new i last
          ∙ (ap (λ s. s ++ steps) (sym (old node.parent lower))
          ∙ (ap (λ n. schedule_at now n ++ steps) (sym (parent_new i last))
          ∙ ap (λ s. schedule_at now (parent_at nodes_now i) ++ s) (sym (steps_new i last)))))
          index below positive;
      picks = each (λ i. All (IsPickOf trial) (schedule_at now i)) nodes node
          (λ i less. subst (λ (s : List Pick). All (IsPickOf trial) s) (sym (old i less)) (tree.picks i less))
          (λ i last. subst (λ (s : List Pick). All (IsPickOf trial) s) (sym (new i last))
          (All-append (IsPickOf trial) (schedule_at schedules node.parent) steps
          (tree.picks node.parent lower) are_picks));
      runs = each (λ i. HasRun trial (schedule_at now i)) nodes node
          (λ i less. subst (λ (s : List Pick). HasRun trial s) (sym (old i less)) (tree.runs i less))
          (λ i last. subst (λ (s : List Pick). HasRun trial s) (sym (new i last)) has_run);
    }

only : (index : ℕ) → index < 1 → 0 ≡ index
only index below = omega arith

pub first_tree : (trial : Trial) (node : Node) → IsTree trial (node ∷ []) ([] ∷ [])
first_tree trial node = record {
  counted = refl;
  some = omega arith;
  root = refl;
  lower = λ index positive below. absurd (let same = only index below in omega arith);
  longer = λ index positive below. absurd (let same = only index below in omega arith);
  picks = λ index below. subst (λ i. All (IsPickOf trial) (schedule_at ([] ∷ []) i)) (only index below)
      (All-nil (IsPickOf trial));
  runs = λ index below. subst (λ i. HasRun trial (schedule_at ([] ∷ []) i)) (only index below)
      (trial_opening trial, refl, refl, tt);
}
