use Rattle.std.proofs.Common.{ℕ, [], Vec, sym, ap, ◌∙◌, set, get_or}
use Rattle.std.proofs.lemmas.List.{get_or-map, map-set}
use Rattle.tm_stores.specs.Queues.{queues_in}
use Rattle.tm_stores.specs.Stores.{queue_after}
use Rattle.tm_stores.specs.declared.change.MadeStore.{MadeStore}
use Rattle.tm_stores.proofs.queues.change_queue.Goals as goal

pub returns-then-place-rows-clause-queues : goal.returns-then-place-rows-clause-queues
returns-then-place-rows-clause-queues c =
    let place : ℕ = c.from-place.result in
    let rows = c.args.rows.now in
    let row = c.index-rows-place.result in
    map-set (λ (queue : Vec MadeStore _). queue.items) rows place c.take_change.new.queue
    ∙ ap (λ queue. set (queues_in rows) place queue) (c.take_change.ensures.items
    ∙ ap (λ queue. queue_after c.args.most c.args.change queue)
    (sym (get_or-map (λ (queue : Vec MadeStore _). queue.items) rows place row [] c.if-place-rows.true)))
    ∙ ap (λ (n : ℕ). set (queues_in rows) n
    (queue_after c.args.most c.args.change (get_or (queues_in rows) n []))) c.from-place.ensures
