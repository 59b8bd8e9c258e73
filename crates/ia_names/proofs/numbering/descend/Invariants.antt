use Rattle.std.proofs.Common.{◌≡◌, ◌-◌, ◌≤◌, ◌<◌, ◌++◌, [], true, take, drop, length, get_or}
use Rattle.ia_names.specs.Tries.{wholes, may_follow, IsTree, AreKept}
use Rattle.ia_names.proofs.numbering.descend.Given as goal

-- the letters before `place` have that number
abbrev pub invariant-loop-place : goal.invariant-loop-place
invariant-loop-place l = record {
  within : l.place ≤ length l.name;
  tree : ∥ IsTree l.nodes.keys ∥₁;
  kept : AreKept l.initial.nodes.keys l.nodes.keys;
  known : l.number < length (wholes l.nodes.keys);
  named :
      get_or (wholes l.nodes.keys) l.number [] ≡ get_or (wholes l.initial.nodes.keys) l.from [] ++ take l.place l.name;
  follows : may_follow (get_or (wholes l.nodes.keys) l.number []) (drop l.place l.name) ≡ true;
}

abbrev pub decreases-loop-place : goal.decreases-loop-place
decreases-loop-place l = length l.name - l.place
