use Rattle.std.proofs.Common.{◌≡◌, ℕ, List, [], ◌∷◌, ◌++◌, length, sym, ap, ◌∙◌, subst, arith, append_assoc}
use Rattle.std.specs.Prelude.{All}
use Rattle.std.proofs.lemmas.List.{append-nil}
use Rattle.std.proofs.lemmas.List.Elements.{All-head}
use Rattle.tm_model.specs.declared.outcome.Pick.{Pick}
use Rattle.tm_outcomes.specs.Nodes.{IsOnWay, IsPickOf, steps_along, steps_at}
use Rattle.tm_outcomes.specs.Places.{IsAhead}
use Rattle.tm_outcomes.specs.declared.nodes.Node.{Node}
use Rattle.tm_outcomes.proofs.Alone.{none_ahead}
use Rattle.tm_outcomes.proofs.Along.{all_behind, along_more, along_none, steps_are_picks}
use Rattle.tm_outcomes.proofs.Trees.{part_is}
use Rattle.tm_outcomes.proofs.place.Place.replay.Goals as goal

pub nodes-init : goal.nodes-init
nodes-init c = record {
  taken = (
    [],
    (
      sym (append-nil c.args.way.now),
      subst (λ (s : List Pick). IsAhead c.args.trial.now c.reopen.new.self (record { core = 0; count = 0 }) s)
          (sym (along_none c.args.nodes.now))
          (none_ahead c.args.trial.now c.reopen.new.self 0 [] c.reopen.ensures),
    ),
  );
  core = λ some. absurd (omega arith);
  place = (let at = c.reopen.ensures in record { rules = at.rules; count = at.count });
}

-- what is left ends in this node
on_way : (count : ℕ) (way left before rest : List ℕ) (index : ℕ) → All (IsOnWay count) way → way ≡ left ++ rest
    → left ≡ before ++ index ∷ [] →
    IsOnWay count index
on_way count way left before rest index all whole ends =
    All-head (IsOnWay count) index rest
    (all_behind (IsOnWay count) before (index ∷ rest)
    (subst (λ (w : List ℕ). All (IsOnWay count) w)
    (whole ∙ (ap (λ (l : List ℕ). l ++ rest) ends ∙ append_assoc before (index ∷ []) rest)) all))

pub take_up_all-ahead-requires-clause-picks : goal.take_up_all-ahead-requires-clause-picks
take_up_all-ahead-requires-clause-picks c =
    let trial = c.args.trial.now in
    let nodes : List Node = c.args.nodes.now in
    let node : Node = c.index-nodes-index.result in
    let left : List ℕ = c.nodes.left.now in
    let before : List ℕ = c.in-Some.before.now in
    let index : ℕ = c.in-Some.index.now in
    let taken = c.nodes.invariant.taken in
    let ends : left ≡ before ++ index ∷ [] = c.in-Some.ensures.cases.0 in
    let on = on_way (length nodes) c.args.way.now left before taken.0 index c.requires.way taken.1.0 ends in
    let steps_are : steps_at nodes index ≡ node.steps.items =
    part_is (λ (n : Node). n.steps.items) [] nodes index node on.1 (sym c.index-nodes-index.is) in
    subst (λ (s : List Pick). All (IsPickOf trial) s) (steps_are ∙ sym c.as_slice.ensures.value)
    (steps_are_picks trial nodes c.requires.tree.0 c.requires.tree.1 index on.0 on.1)

pub nodes-preserved : goal.nodes-preserved
nodes-preserved c =
    let trial = c.args.trial.now in
    let nodes : List Node = c.args.nodes.now in
    let node : Node = c.index-nodes-index.result in
    let left : List ℕ = c.nodes.left.now in
    let before : List ℕ = c.in-Some.before.now in
    let index : ℕ = c.in-Some.index.now in
    let taken = c.nodes.invariant.taken in
    let rest : List ℕ = taken.0 in
    let ends : left ≡ before ++ index ∷ [] = c.in-Some.ensures.cases.0 in
    let on = on_way (length nodes) c.args.way.now left before rest index c.requires.way taken.1.0 ends in
    let steps_are : steps_at nodes index ≡ node.steps.items =
    part_is (λ (n : Node). n.steps.items) [] nodes index node on.1 (sym c.index-nodes-index.is) in
    record {
      taken = (
        index ∷ rest,
        (
          taken.1.0 ∙ (ap (λ (l : List ℕ). l ++ rest) ends ∙ append_assoc before (index ∷ []) rest),
          subst (λ (s : List Pick). IsAhead trial c.take_up_all-ahead.new.self c.take_up_all-ahead.result s)
              (ap (λ (s : List Pick). steps_along nodes rest ++ s) (c.as_slice.ensures.value ∙ sym steps_are)
              ∙ sym (along_more nodes index rest))
              (c.take_up_all-ahead.ensures.ahead (steps_along nodes rest) taken.1.1),
        ),
      );
      core = c.take_up_all-ahead.ensures.core;
      place = c.take_up_all-ahead.ensures.place;
    }
