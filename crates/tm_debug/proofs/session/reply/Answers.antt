use Rattle.std.proofs.Common.{sym, subst}
use Rattle.std.specs.Prelude.{Result}
use Rattle.tm_debug.specs.declared.interruption.Interruption.{Interruption}
use Rattle.tm_debug.specs.Session.{Ends, value_of}
use Rattle.tm_debug.specs.Serving.{Replies, RepliesBroken, Responds, RespondsBroken}
use Rattle.tm_debug.proofs.Spoken.{prompted}
use Rattle.tm_debug.proofs.session.reply.Goals as goal

pub returns-clause-answer : goal.returns-clause-answer
returns-clause-answer g c =
    subst (λ (r : Result (Unit {0}) Interruption). Ends (Replies c.args.request (value_of c.args.state.now))
    (RepliesBroken c.args.request (value_of c.args.state.now)) (g.O.Out.device c.args.out.now)
    (g.O.Out.device c.prompt.new.out) (value_of c.args.state.now) (value_of c.respond.new.state) r)
    (sym c.answer_result.ensures.same)
    (prompted (g.O.Out.device c.prompt.new.out) c.args.state.now.manner
    (Responds c.args.request (value_of c.args.state.now)) (RespondsBroken c.args.request (value_of c.args.state.now))
    (value_of c.args.state.now)
    (value_of c.respond.new.state) c.prompt.result c.in_ok-respond.ensures.answer c.prompt.ensures)
