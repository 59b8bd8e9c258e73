use Rattle.std.proofs.Common.{rules, ap, subst}
use Rattle.tm_hist.specs.Board.{SameBoard, ShownBoard}
use Rattle.tm_gdb.specs.Serving.{FailsToRead, ServesInput}
use Rattle.tm_gdb.specs.Sessions.{SessionValue}
use Rattle.tm_gdb.proofs.session.serve.Goals as goal

pub returns-in-Ok : goal.returns-in-Ok
returns-in-Ok g c = (
  subst (λ (first : ShownBoard). SameBoard first c.serve_bytes.new.session.target.board)
      (ap (λ (session : SessionValue). session.target.board) c.new-session.ensures.value) c.in-Ok.ensures.same,
  subst (λ (session : SessionValue). ServesInput (g.I.In.remaining c.args.input.now)
      (g.I.In.remaining c.serve_bytes.new.input) session (g.O.Out.device c.args.out.now)
      (g.O.Out.device c.serve_bytes.new.out) c.serve_bytes.new.session.target.board) c.new-session.ensures.value
      c.in-Ok.ensures.ok,
)

pub returns-in-Err-Read : goal.returns-in-Err-Read
returns-in-Err-Read g c = (
  subst (λ (first : ShownBoard). SameBoard first c.serve_bytes.new.session.target.board)
      (ap (λ (session : SessionValue). session.target.board) c.new-session.ensures.value) c.in-Err-Read.ensures.same,
  c.in-Err-Read.ensures.read (search rules),
  subst (λ (session : SessionValue). FailsToRead (g.I.In.remaining c.args.input.now)
      (g.I.In.remaining c.serve_bytes.new.input) session (g.O.Out.device c.args.out.now)
      (g.O.Out.device c.serve_bytes.new.out) c.serve_bytes.new.session.target.board) c.new-session.ensures.value
      (c.in-Err-Read.ensures.read_packets (search rules)),
)
