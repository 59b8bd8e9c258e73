use Rattle.std.proofs.Common.{sym, ap, ◌∙◌, Some}
use Rattle.tm_buffer.specs.Buffer.{place_of}
use Rattle.tm_buffer.proofs.Holding.{kept_push, place_new}
use Rattle.tm_buffer.proofs.stored.Buffer.take_one.Goals as goal

pub returns-in-None-clause-place : goal.returns-in-None-clause-place
returns-in-None-clause-place c =
    ap (λ xs. place_of xs c.args.line) c.add.ensures.order
    ∙ place_new c.args.self.now.order c.args.line (sym c.place.ensures.place ∙ c.in-None.is)
    ∙ ap Some (sym c.add.ensures.place)

pub returns-in-None-clause-slots : goal.returns-in-None-clause-slots
returns-in-None-clause-slots c = λ slot there.
    ap (λ xs. place_of xs slot) c.add.ensures.slots ∙ kept_push c.args.self.now.slots c.free_slot-slot.result slot there
