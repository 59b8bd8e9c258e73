use Rattle.std.proofs.Common.{◌∙◌, ap, length, sym}
use Rattle.std.specs.Prelude.{◌==◌}
use Rattle.tm_hist.specs.Serial.{core_of}
use Rattle.tm_hist.proofs.QueueSteps.{drains_none, drains_one, oldest_lies, rest_lies}
use Rattle.tm_hist.proofs.queued.drain.Goals as goal

pub returns-then-is_empty-clause-step : goal.returns-then-is_empty-clause-step
returns-then-is_empty-clause-step c =
    drains_none c.args.memory.now c.args.queue.now.items (core_of c.args.core)
    (ap (λ p. length p == 0) (sym c.as_slice.ensures.value) ∙ sym c.is_empty.ensures ∙ c.if-is_empty.true)

pub write-requires-clause-within : goal.write-requires-clause-within
write-requires-clause-within c =
    (oldest_lies (length c.args.memory.now) c.args.queue.now.items c.remove-oldest.result c.requires.lie
    (ap (λ p. length p == 0) (sym c.as_slice.ensures.value) ∙ sym c.is_empty.ensures ∙ c.if-is_empty.false)
    c.remove-oldest.ensures.value).place

pub write-requires-clause-fits : goal.write-requires-clause-fits
write-requires-clause-fits c =
    (oldest_lies (length c.args.memory.now) c.args.queue.now.items c.remove-oldest.result c.requires.lie
    (ap (λ p. length p == 0) (sym c.as_slice.ensures.value) ∙ sym c.is_empty.ensures ∙ c.if-is_empty.false)
    c.remove-oldest.ensures.value).value

pub returns-clause-step : goal.returns-clause-step
returns-clause-step c =
    drains_one c.args.memory.now c.write.new.memory c.args.queue.now.items c.remove-oldest.new.self.items
    (core_of c.args.core) c.remove-oldest.result
    (ap (λ p. length p == 0) (sym c.as_slice.ensures.value) ∙ sym c.is_empty.ensures ∙ c.if-is_empty.false)
    c.remove-oldest.ensures.value c.remove-oldest.ensures.items c.write.ensures

pub returns-clause-queue : goal.returns-clause-queue
returns-clause-queue c = record {
  room = c.remove-oldest.ensures.capacity ∙ c.requires.room;
  lie = rest_lies (length c.args.memory.now) c.args.queue.now.items c.remove-oldest.new.self.items c.requires.lie
      c.remove-oldest.ensures.items;
}
