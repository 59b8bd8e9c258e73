use Rattle.std.proofs.Common.{ℕ, [], ◌∷◌, ◌++◌, map, take, sym, ap, ◌∙◌}
use Rattle.std.proofs.lemmas.List.{map-append, take_more, take_all}
use Rattle.tm_outcomes.specs.Outcomes.{value_of}
use Rattle.tm_outcomes.specs.declared.trial.Item.{Item}
use Rattle.tm_outcomes.proofs.place.Place.values.Goals as goal

pub loop-item-preserved : goal.loop-item-preserved
loop-item-preserved c = λ now stands.
    let items = c.args.trial.now.items.now in
    let i = c.loop-item.item-index in
    let f : Item → ℕ = value_of now.state in
    c.in_ok-push.ensures.items
    ∙ (ap (λ xs. xs ++ c.value.result ∷ []) (c.loop-item.invariant now stands)
    ∙ (ap (λ v. map f (take i items) ++ v ∷ []) (c.value.ensures now stands)
    ∙ sym (ap (map f) (take_more items i _ c.loop-item-test.true) ∙ map-append f (take i items) _)))

pub returns : goal.returns
returns c = λ now stands.
    c.loop-item.invariant now stands
    ∙ ap (map (value_of now.state)) (take_all c.loop-item.item-index c.args.trial.now.items.now c.loop-item-test.false)
