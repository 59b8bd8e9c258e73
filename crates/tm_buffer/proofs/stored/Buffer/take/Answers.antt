use Rattle.std.proofs.Common.{ap, ◌∙◌}
use Rattle.tm_buffer.specs.Buffer.{place_of}
use Rattle.tm_buffer.proofs.Holding.{kept_push}
use Rattle.tm_buffer.proofs.stored.Buffer.take.Goals as goal

pub returns-clause-slots : goal.returns-clause-slots
returns-clause-slots c = λ slot there.
    ap (λ h. place_of h.slots slot) c.self.view_is ∙ ap (λ xs. place_of xs slot) c.add-self-inside.ensures.slots
    ∙ kept_push c.args.self.now.slots c.free_slot-slot.result slot there
