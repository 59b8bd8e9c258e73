use Rattle.std.proofs.Common.{◌≡◌, ◌<◌, ℕ, List, [], ◌∷◌, ◌++◌, length, sym, ap, ◌∙◌, subst, arith, append_assoc}
use Rattle.std.specs.Prelude.{All}
use Rattle.std.proofs.lemmas.List.{append-nil}
use Rattle.std.proofs.lemmas.List.Elements.{All-append, All-cons, All-nil}
use Rattle.tm_model.specs.declared.outcome.Pick.{Pick}
use Rattle.tm_outcomes.specs.Nodes.{IsOnWay, parent_at, schedule_at, steps_along, steps_at}
use Rattle.tm_outcomes.specs.declared.nodes.Node.{Node}
use Rattle.tm_outcomes.proofs.Along.{along_before, along_none}
use Rattle.tm_outcomes.proofs.Trees.{part_is}
use Rattle.tm_outcomes.proofs.nodes.way_of.Goals as goal

pub steps-init : goal.steps-init
steps-init c =
    let nodes : List Node = c.args.nodes.now in
    record {
      within = c.requires.within;
      so_far = λ trial schedules tree.
          sym
          (ap (λ (way : List ℕ). schedule_at schedules c.args.index ++ steps_along nodes way) c.new-way.ensures.items
          ∙ (ap (λ (s : List Pick). schedule_at schedules c.args.index ++ s) (along_none nodes)
          ∙ append-nil (schedule_at schedules c.args.index)));
      on_way = subst (λ (way : List ℕ). All (IsOnWay (length nodes)) way) (sym c.new-way.ensures.items)
          (All-nil (IsOnWay (length nodes)));
    }

pub steps-smaller : goal.steps-smaller
steps-smaller c =
    let within : c.steps.at < length c.args.nodes.now = c.steps.invariant.within in
    let parent = part_is (λ (n : Node). n.parent) 0 c.args.nodes.now c.steps.at c.index-nodes-at.result within
    (sym c.index-nodes-at.is) in
    let lower = c.requires.tree.1.1.lower c.steps.at c.steps-test.true within in
    omega arith

pub steps-preserved : goal.steps-preserved
steps-preserved c =
    let at : ℕ = c.steps.at in
    let nodes : List Node = c.args.nodes.now in
    let node : Node = c.index-nodes-at.result in
    let way : List ℕ = c.steps.way.items in
    let within : at < length nodes = c.steps.invariant.within in
    let positive : 0 < at = c.steps-test.true in
    let parent : parent_at nodes at ≡ node.parent =
    part_is (λ (n : Node). n.parent) 0 nodes at node within (sym c.index-nodes-at.is) in
    let added : c.push.new.self.items ≡ way ++ at ∷ [] = c.in_ok-push.ensures.items in
    let lower = c.requires.tree.1.1.lower at positive within in
    record {
      within = (let p = parent in omega arith);
      so_far = λ trial schedules tree.
          let before : List Pick = schedule_at schedules node.parent in
          c.steps.invariant.so_far trial schedules tree
          ∙ (ap (λ (s : List Pick). s ++ steps_along nodes way) (tree.longer at positive within)
          ∙ (ap (λ n. (schedule_at schedules n ++ steps_at nodes at) ++ steps_along nodes way) parent
          ∙ (append_assoc before (steps_at nodes at) (steps_along nodes way)
          ∙ (ap (λ (s : List Pick). before ++ s) (sym (along_before nodes way at))
          ∙ ap (λ (w : List ℕ). before ++ steps_along nodes w) (sym added)))));
      on_way = subst (λ (w : List ℕ). All (IsOnWay (length nodes)) w) (sym added)
          (All-append (IsOnWay (length nodes)) way (at ∷ []) c.steps.invariant.on_way
          (All-cons (IsOnWay (length nodes)) at [] (positive, within) (All-nil (IsOnWay (length nodes)))));
    }

pub returns-clause-steps : goal.returns-clause-steps
returns-clause-steps c = λ trial schedules tree.
    let nodes : List Node = c.args.nodes.now in
    let end : c.steps.at ≡ 0 = (let e = c.steps-test.false in omega arith) in
    sym (c.steps.invariant.so_far trial schedules tree
    ∙ ap (λ (s : List Pick). s ++ steps_along nodes c.steps.way.items) (ap (schedule_at schedules) end ∙ tree.root))
