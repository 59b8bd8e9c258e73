-- The steps of the nodes on the way to a node.
use Rattle.std.proofs.Common.{◌≡◌, ◌<◌, ℕ, List, [], ◌∷◌, ◌++◌, length, refl, sym, ap, ◌∙◌, subst, append_assoc}
use Rattle.std.specs.Prelude.{All}
use Rattle.std.proofs.lemmas.List.{append-nil}
use Rattle.std.proofs.lemmas.List.Elements.{All-tail}
use Rattle.tm_model.specs.declared.outcome.Pick.{Pick}
use Rattle.tm_outcomes.specs.Nodes.{IsPickOf, IsTree, parent_at, schedule_at, steps_along, steps_at}
use Rattle.tm_outcomes.specs.declared.nodes.Node.{Node}
use Rattle.tm_outcomes.specs.declared.trial.Trial.{Trial}

pub along_none : (nodes : List Node) → steps_along nodes [] ≡ []
unfolding steps_along
along_none nodes = refl

pub along_more : (nodes : List Node) (index : ℕ) (way : List ℕ) →
    steps_along nodes (index ∷ way) ≡ steps_along nodes way ++ steps_at nodes index
unfolding steps_along
along_more nodes index way = refl

-- a node before those on the way
pub along_before : (nodes : List Node) (way : List ℕ) (index : ℕ) →
    steps_along nodes (way ++ index ∷ []) ≡ steps_at nodes index ++ steps_along nodes way
along_before nodes [] index =
    along_more nodes index [] ∙ (ap (λ (s : List Pick). s ++ steps_at nodes index) (along_none nodes)
    ∙ (sym (append-nil (steps_at nodes index))
    ∙ ap (λ (s : List Pick). steps_at nodes index ++ s) (sym (along_none nodes))))
along_before nodes (last ∷ way) index =
    along_more nodes last (way ++ index ∷ [])
    ∙ (ap (λ (s : List Pick). s ++ steps_at nodes last) (along_before nodes way index)
    ∙ (append_assoc (steps_at nodes index) (steps_along nodes way) (steps_at nodes last)
    ∙ ap (λ (s : List Pick). steps_at nodes index ++ s) (sym (along_more nodes last way))))

pub all_behind : {A : Type 0} (P : A → Type 0) (xs ys : List A) → All P (xs ++ ys) → All P ys
all_behind P [] ys all = all
all_behind P (x ∷ xs) ys all = all_behind P xs ys (All-tail P x (xs ++ ys) all)

-- the steps of a node are picks
pub steps_are_picks : (trial : Trial) (nodes : List Node) (schedules : List (List Pick))
    → IsTree trial nodes schedules → (index : ℕ) →
    0 < index → index < length nodes → All (IsPickOf trial) (steps_at nodes index)
steps_are_picks trial nodes schedules tree index positive within =
    all_behind (IsPickOf trial) (schedule_at schedules (parent_at nodes index)) (steps_at nodes index)
    (subst (λ (s : List Pick). All (IsPickOf trial) s) (tree.longer index positive within) (tree.picks index within))
