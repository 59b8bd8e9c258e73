use Rattle.std.proofs.Common.{arith}
use Rattle.ia_names.specs.declared.node.Node.{Node}
use Rattle.ia_names.proofs.Trees.{length_wholes}
use Rattle.ia_names.proofs.Inserted.{tree_inserted, kept_inserted, named_inserted}
use Rattle.ia_names.proofs.numbering.child.Goals as goal

pub returns-clause-tree : goal.returns-clause-tree
returns-clause-tree c =
    let n : Node = record { parent = c.args.parent; part = c.args.part } in
    tree_inserted c.args.nodes.now.keys c.insert_full.new.self.keys n c.in_ok-index.ensures.keys c.requires.tree
    c.requires.known c.requires.part

pub returns-clause-known : goal.returns-clause-known
returns-clause-known c =
    let l = length_wholes c.insert_full.new.self.keys in
    let h = c.in_ok-index.ensures.within in
    omega (arith, l, h)

pub returns-clause-named : goal.returns-clause-named
returns-clause-named c =
    let n : Node = record { parent = c.args.parent; part = c.args.part } in
    let old = c.args.nodes.now.keys in
    let new = c.insert_full.new.self.keys in
    let keys = c.in_ok-index.ensures.keys in
    let stored = c.in_ok-index.ensures.stored in
    named_inserted old new n stored.0 c.in_ok-index.index
    (tree_inserted old new n keys c.requires.tree c.requires.known c.requires.part) (kept_inserted old new n keys)
    c.requires.known c.in_ok-index.ensures.within stored.1 stored.2
