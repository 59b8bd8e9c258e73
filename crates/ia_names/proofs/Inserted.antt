-- A node that is put among the nodes.
use Rattle.std.proofs.Common.{◌≡◌, ℕ, ◌+◌, ◌<◌, Bool, true, false, cond, List, [], ◌∷◌, ◌++◌, Some, refl, sym, ◌∙◌, ap}
use Rattle.std.proofs.Common.{length, get_or, subst, arith}
use Rattle.std.proofs.Props.{props}
use Rattle.std.proofs.lemmas.Option.{get_or_from_slice_get}
use Rattle.std.proofs.Math.Logic.{∥∥₁_elim}
use Rattle.std.specs.Prelude.{slice_get}
use Rattle.std.specs.List.{list_any}
use Rattle.std.specs.Cmp.Lexicographic.{bytes_decides}
use Rattle.std.proofs.lemmas.Grind.{common_steps}
use Rattle.indexmap.specs.IndexSet.{insert_key}
use Rattle.ia_names.specs.declared.node.Node.{Node}
use Rattle.ia_names.specs.Nodes.{node_key, same_node}
use Rattle.ia_names.specs.Tries.{is_part, wholes, IsTree, AreKept}
use Rattle.ia_names.proofs.Trees.{length_wholes, stays, grown}

-- it is there, or comes last
by_case : (P : List Node → Type 0) (old new : List Node) (n : Node) → new ≡ insert_key same_node old n → P old
    → (list_any (same_node n) old ≡ false → P (old ++ n ∷ [])) → P new
by_case P old new n e there last = subst P (sym e) (by (list_any (same_node n) old) refl)
  where
    by : (b : Bool) → list_any (same_node n) old ≡ b → P (cond (list_any (same_node n) old) old (old ++ n ∷ []))
    by true is = rw is there
    by false is = rw is (last is)

pub tree_inserted : (old new : List Node) (n : Node) → new ≡ insert_key same_node old n → ∥ IsTree old ∥₁
    → n.parent < length (wholes old) → is_part (get_or (wholes old) n.parent []) n.part.now ≡ true
    → ∥ IsTree new ∥₁
tree_inserted old new n e tree known part =
    by_case (λ (l : List Node). ∥ IsTree l ∥₁) old new n e tree
    (λ fresh. ∥∥₁_elim tree (hlevel props) (λ t. ∣ grown old n t known part fresh ∣₁))

pub kept_inserted : (old new : List Node) (n : Node) → new ≡ insert_key same_node old n → AreKept old new
kept_inserted old new n e =
    by_case (AreKept old) old new n e (λ i h. (h, refl)) (λ fresh i h. (longer i h, stays old n i h))
  where
    longer : (i : ℕ) → i < length (wholes old) → i < length (wholes (old ++ n ∷ []))
    longer i h =
        let a = length_wholes old in
        let b = length_wholes (old ++ n ∷ []) in
        let k : length (old ++ n ∷ []) ≡ length old + 1 = grind (arith, common_steps) in
        omega (arith, h, a, b, k)

-- the name that a key gives
abbrev name_by : List Node → List ℕ → List ℕ
name_by nodes [] = []
name_by nodes (parent ∷ part) = get_or (wholes nodes) parent [] ++ part

-- the number of a node that is there has its name
pub named_inserted : (old new : List Node) (n k : Node) (i : ℕ) → ∥ IsTree new ∥₁ → AreKept old new
    → n.parent < length (wholes old) → i < length new → slice_get new i ≡ Some k → same_node n k ≡ true
    → get_or (wholes new) (i + 1) [] ≡ get_or (wholes old) n.parent [] ++ n.part.now
named_inserted old new n k i tree kept known within stored same =
    let at : get_or new i n ≡ k = get_or_from_slice_get new i k n stored in
    let keys : node_key n ≡ node_key k = (bytes_decides (node_key n) (node_key k)).0 same in
    let one :
    get_or (wholes new) (i + 1) [] ≡ get_or (wholes new) (get_or new i n).parent [] ++ (get_or new i n).part.now =
    ∥∥₁_elim tree (hlevel props) (λ t. (t.children i n within).whole) in
    one ∙ ap (λ (m : Node). get_or (wholes new) m.parent [] ++ m.part.now) at ∙ sym (ap (name_by new) keys)
    ∙ ap (λ w. w ++ n.part.now) (kept n.parent known).1
