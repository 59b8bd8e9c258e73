use Rattle.std.proofs.Common.{◌≡◌, ◌<◌, ◌∷◌, suc, length, arith, ap, sym, subst, ◌∙◌, length-set}
use Rattle.tm_stores.specs.Queues.{ShownStores, queue_at}
use Rattle.tm_stores.specs.Stores.{queue_after}
use Rattle.tm_why.specs.Watched.{IsWatch, drained_store}
use Rattle.tm_why.proofs.OneStep.{one_step}
use Rattle.tm_why.proofs.Queues.{next_queues}
use Rattle.tm_why.proofs.watch.Watch.note_pending.Goals as goal

pub returns-clause-most : goal.returns-clause-most
returns-clause-most c = ap (λ (s : ShownStores). s.most) c.record.ensures

pub returns-clause-watch : goal.returns-clause-watch
returns-clause-watch c = λ steps few watch.
    let same : c.saturating_add-number.result ≡ suc (length steps) = omega (arith, watch.made) in
    let within : c.args.asked.now.core < 64 = c.args.asked.now.few in
    let stores : ShownStores = c.args.self.now.stores in
    subst (λ (s : ShownStores). IsWatch
    (record { made = c.saturating_add-number.result; rows = c.take_in.new.rows; stores = s })
    ((c.args.asked.now, c.args.outcome) ∷ steps)) (sym c.record.ensures)
    (record {
      made = same;
      room = length-set stores.queues c.args.asked.now.core
          (queue_after stores.most c.change_made-change.result (queue_at stores c.args.asked.now.core))
          ∙ watch.room;
      queues = next_queues stores steps c.args.asked.now c.args.outcome c.saturating_add-number.result
          c.change_made-change.result same c.change_made-change.ensures within watch.room watch.queues;
      rows = one_step stores.most c.args.self.now.rows c.take_in.new.rows c.args.asked.now c.args.outcome
          c.saturating_add-number.result c.drained_store-by.result steps c.take_in.ensures watch.rows same
          (c.drained_store-by.ensures
          ∙ ap (λ queue. drained_store (c.args.asked.now, c.args.outcome) queue)
          (watch.queues c.args.asked.now.core within));
    })
