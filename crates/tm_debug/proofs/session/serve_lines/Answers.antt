use Rattle.std.proofs.Common.{Err, ap}
use Rattle.std.proofs.lemmas.Result.{err_from_is_err_and}
use Rattle.tm_debug.specs.Session.{value_of}
use Rattle.tm_debug.proofs.Sessions.{left, serving_more, serving_new, unanswered, unread}
use Rattle.tm_debug.proofs.session.serve_lines.Goals as goal

pub lines-init : goal.lines-init
lines-init g c = (
  tt,
  tt,
  serving_new (g.I.In.remaining c.args.input.now) (g.I.In.failed c.args.input.now) (value_of c.args.state.now)
      (g.O.Out.device c.args.out.now),
)

pub returns-in-Err : goal.returns-in-Err
returns-in-Err g c =
    unread (value_of c.args.state.now) (value_of c.lines.state) c.lines.invariant.2 c.in-Err.ensures.err
    c.in-Err.ensures.begun

pub returns-then-is_end : goal.returns-then-is_end
returns-then-is_end g c =
    left _ (g.O.Out.device c.respond.new.out) (value_of c.args.state.now) (value_of c.lines.state)
    (value_of c.respond.new.state) c.in-Ok.line c.line_request-request.result c.respond.result c.lines.invariant.2
    c.in-Ok.ensures.line (c.line_request-request.ensures.text, c.line_request-request.ensures.end)
    (c.is_end.ensures.end c.if-is_end.true) c.respond.ensures.answer c.respond.ensures.memory

pub lines-preserved : goal.lines-preserved
lines-preserved g c = (
  tt,
  tt,
  serving_more (value_of c.args.state.now) (value_of c.lines.state) (value_of c.reply.new.state) c.in-Ok.line
      c.line_request-request.result c.lines.invariant.2 c.in-Ok.ensures.line c.in-Ok.ensures.kept
      (c.line_request-request.ensures.text, c.line_request-request.ensures.end)
      (c.is_end.ensures.other c.if-is_end.false) c.in_ok-reply.ensures.answer,
)

pub returns-in_err-reply : goal.returns-in_err-reply
returns-in_err-reply g c =
    let p = err_from_is_err_and c.from_residual.result c.from_residual.ensures.1 in
    rw (p.1, p.2)
    (unanswered _ (g.O.Out.device c.reply.new.out) (value_of c.args.state.now) (value_of c.lines.state)
    (value_of c.reply.new.state) c.in-Ok.line c.line_request-request.result c.in_err-reply.field-0.0
    c.lines.invariant.2 c.in-Ok.ensures.line (c.line_request-request.ensures.text, c.line_request-request.ensures.end)
    (c.is_end.ensures.other c.if-is_end.false) c.in_err-reply.ensures.answer
    (λ e. c.in_err-reply.ensures.memory (ap Err e)))
