use Rattle.std.proofs.Common.{◌≡◌, ◌<◌, ℕ, List, [], ◌++◌, length, take, drop, sym, ap, ◌∙◌, arith, append_assoc}
use Rattle.std.specs.Prelude.{reverse}
use Rattle.std.proofs.lemmas.List.{append-nil, drop_all, length-reverse, reverse-append, reverse-reverse, take_all}
use Rattle.tm_model.specs.declared.outcome.Pick.{Pick}
use Rattle.tm_outcomes.specs.Nodes.{parent_at, schedule_at, steps_at}
use Rattle.tm_outcomes.specs.declared.nodes.Node.{Node}
use Rattle.tm_outcomes.proofs.Trees.{part_is}
use Rattle.tm_outcomes.proofs.nodes.schedule_of.Goals as goal

-- what was lent comes back whole
whole : (len : ℕ) (xs ys : List Pick) → ys ≡ reverse xs → len ≡ length xs
    → take len (ys ++ drop (length ys) xs) ≡ reverse xs
whole len xs ys turned same =
    let long : length ys ≡ length xs = ap length turned ∙ length-reverse xs in
    ap (λ zs. take len (ys ++ zs)) (drop_all (length ys) xs (omega arith))
    ∙ (ap (take len) (append-nil ys) ∙ (take_all len ys (omega arith) ∙ turned))

pub steps-smaller : goal.steps-smaller
steps-smaller c =
    let within : c.steps.at < length c.args.nodes.now = c.steps.invariant.within in
    let parent = part_is (λ (n : Node). n.parent) 0 c.args.nodes.now c.steps.at c.index-nodes-at.result within
    (sym c.index-nodes-at.is) in
    let lower = c.requires.tree.1.1.lower c.steps.at c.steps-test.true within in
    omega arith

pub steps-preserved : goal.steps-preserved
steps-preserved c =
    let at = c.steps.at in
    let nodes = c.args.nodes.now in
    let node : Node = c.index-nodes-at.result in
    let picks = c.steps.picks.items in
    let steps : List Pick = node.steps.items in
    let within : at < length nodes = c.steps.invariant.within in
    let positive : 0 < at = c.steps-test.true in
    let parent : parent_at nodes at ≡ node.parent =
    part_is (λ (n : Node). n.parent) 0 nodes at node within (sym c.index-nodes-at.is) in
    let steps_are : steps_at nodes at ≡ steps =
    part_is (λ (n : Node). n.steps.items) [] nodes at node within (sym c.index-nodes-at.is) in
    let added : c.push_reversed.new.picks.items ≡ picks ++ reverse steps =
    c.in_ok-push_reversed.ensures ∙ ap (λ (s : List Pick). picks ++ reverse s) c.as_slice.ensures.value in
    let lower = c.requires.tree.1.1.lower at positive within in
    record {
      within = (let p = parent in omega arith);
      so_far = λ trial schedules tree.
          let before = schedule_at schedules node.parent in
          c.steps.invariant.so_far trial schedules tree
          ∙ (ap (λ s. s ++ reverse picks) (tree.longer at positive within)
          ∙ (ap (λ n. (schedule_at schedules n ++ steps_at nodes at) ++ reverse picks) parent
          ∙ (ap (λ s. (before ++ s) ++ reverse picks) steps_are
          ∙ (append_assoc before steps (reverse picks)
          ∙ ap (λ r. before ++ r)
          (sym (ap reverse added
          ∙ (reverse-append picks (reverse steps) ∙ ap (λ s. s ++ reverse picks) (reverse-reverse steps))))))));
    }

pub returns : goal.returns
returns c = λ trial schedules tree.
    let picks = c.steps.picks.items in
    let end : c.steps.at ≡ 0 = (let e = c.steps-test.false in omega arith) in
    whole c.steps.picks.len picks c.reverse.new.self (c.reverse.ensures.after ∙ ap reverse c.as_mut_slice.ensures.value)
    (omega (arith, c.steps.picks.ok.0))
    ∙ sym (c.steps.invariant.so_far trial schedules tree
    ∙ ap (λ s. s ++ reverse picks) (ap (schedule_at schedules) end ∙ tree.root))
