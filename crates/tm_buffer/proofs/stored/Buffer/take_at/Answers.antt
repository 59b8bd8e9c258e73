use Rattle.std.proofs.Common.{sym, ap, ◌∙◌, Some}
use Rattle.tm_buffer.specs.Buffer.{place_of}
use Rattle.tm_buffer.proofs.Holding.{place_new}
use Rattle.tm_buffer.proofs.stored.Buffer.take_at.Goals as goal

pub returns-in-None-clause-place : goal.returns-in-None-clause-place
returns-in-None-clause-place c =
    ap (λ xs. place_of xs c.args.line) c.add.ensures.order
    ∙ place_new c.args.self.now.order c.args.line (sym c.place_at.ensures ∙ c.in-None.is)
    ∙ ap Some (sym c.add.ensures.place)
