use Rattle.std.proofs.Common.{◌<◌, length, sym, arith}
use Rattle.std.proofs.lemmas.List.{get_or_read}
use Rattle.tm_outcomes.proofs.Passing.{begins_passing, ends_passing, marked_below, passes_on}
use Rattle.tm_outcomes.proofs.marks.marks_of.Goals as goal

pub nodes-init : goal.nodes-init
nodes-init c = begins_passing c.args.links.now c.args.ends.now c.args.nodes c.in_ok-marks.marks c.in_ok-marks.ensures

pub pass-requires-clause-node : goal.pass-requires-clause-node
pass-requires-clause-node c =
    let queue = c.nodes.marks.queue.items in
    let below : c.nodes.done < length queue = omega arith in
    marked_below c.nodes.marks.marked.items c.index-node.result.now
    (c.nodes.invariant.marked c.index-node.result.now (c.nodes.done, below, sym c.index-node.ensures))

pub nodes-preserved : goal.nodes-preserved
nodes-preserved c =
    let queue = c.nodes.marks.queue.items in
    let below : c.nodes.done < length queue = omega arith in
    passes_on c.args.links.now c.args.ends.now c.args.nodes c.nodes.marks c.pass.new.self c.nodes.done
    c.index-node.result.now
    below (get_or_read queue c.nodes.done c.index-node.result.now below c.index-node.ensures 0) c.in_ok-pass.ensures
    c.nodes.invariant

pub returns : goal.returns
returns c = ends_passing c.args.links.now c.args.ends.now c.args.nodes c.nodes.marks c.nodes.done (omega arith)
    c.nodes.invariant
