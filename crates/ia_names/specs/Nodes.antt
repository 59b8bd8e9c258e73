-- Nodes of the tree of names, and the digests by which a table finds them.
use Rattle.std.specs.Prelude.{ℕ, Bool, List, [], ◌∷◌}
use Rattle.std.specs.Str.{bytes_eq}
use Rattle.std.specs.List.{fold}
use Rattle.std.specs.Hash as fed
use Rattle.std.specs.Hash.DefaultHasher as sip
use Rattle.ia_names.specs.declared.node.Node.{Node}

-- what tells one node from another: its parent and its part
abbrev pub node_key : Node → List ℕ
node_key n = n.parent ∷ n.part.now

abbrev pub same_node : Node → Node → Bool
same_node m n = bytes_eq (node_key m) (node_key n)

-- SipHash-1-3 (Aumasson and Bernstein, "SipHash: a fast short-input PRF", 2012), with keys of 0
unfoldable pub node_digest : ℕ → List ℕ → ℕ
node_digest parent part = sip.finish (sip.write (fold sip.write sip.initial (fed.usize parent)) part)

abbrev pub key_digest : List ℕ → ℕ
key_digest [] = 0
key_digest (parent ∷ part) = node_digest parent part
