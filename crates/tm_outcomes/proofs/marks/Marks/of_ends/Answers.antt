use Rattle.std.proofs.Common.{◌≡◌, false, replicate, length, get_or, refl, sym, ap, ◌∙◌, arith}
use Rattle.std.proofs.lemmas.Bool.{false≢true}
use Rattle.std.proofs.lemmas.List.{get_or-replicate, length-replicate}
use Rattle.tm_outcomes.proofs.Passing.{are_ends, next_end, nothing_grown, marked_below}
use Rattle.tm_outcomes.proofs.marks.Marks.of_ends.Goals as goal

pub loop-node-init : goal.loop-node-init
loop-node-init c = (nothing_grown _ _, λ index below. absurd (omega arith))

pub loop-node-preserved : goal.loop-node-preserved
loop-node-preserved c =
    next_end c.args.ends.now _ c.loop-node.marks c.mark.new.self c.loop-node.node-index _ c.loop-node-test.true refl
    c.in_ok-mark.ensures c.loop-node.invariant

pub returns : goal.returns
returns c =
    let items : c.in_ok-marked.marked.items ≡ replicate c.args.nodes false =
    c.in_ok-marked.ensures.items_if_clones_equal (λ y e. e) in
    let long = ap length items ∙ length-replicate c.args.nodes false in
    are_ends c.args.ends.now c.args.nodes _ c.loop-node.marks c.loop-node.node-index c.loop-node-test.false long
    (λ node is. false≢true (sym (ap (λ xs. get_or xs node false) items
    ∙ get_or-replicate c.args.nodes node false false
    (let below = marked_below c.in_ok-marked.marked.items node is in omega arith)) ∙ is))
    c.new-queue.ensures.items c.loop-node.invariant
