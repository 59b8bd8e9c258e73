use Rattle.tm_debug.specs.Session.{start_in}
use Rattle.tm_debug.proofs.Spoken.{behind_prompt, unprompted}
use Rattle.tm_debug.proofs.session.serve_in.Goals as goal

pub returns-in-Ok : goal.returns-in-Ok
returns-in-Ok g c =
    behind_prompt _ _ _ _ (g.O.Out.device c.args.out.now) (g.O.Out.device c.prompt.new.out)
    (g.O.Out.device c.serve_from.new.out) c.args.manner c.prompt.result c.in-Ok.field-0
    (start_in c.args.manner c.args.plan.items c.args.names.symbols.items c.args.names.labels.items c.args.board)
    c.serve_from.result c.prompt.ensures c.in-Ok.is (rw c.new.ensures at c.serve_from.ensures)

pub returns-in-Err : goal.returns-in-Err
returns-in-Err g c =
    unprompted (g.I.In.remaining c.args.input.now) (g.I.In.failed c.args.input.now) (g.O.Out.device c.args.out.now)
    (g.O.Out.device c.prompt.new.out) c.args.manner c.prompt.result
    c.in-Err.field-0
    (start_in c.args.manner c.args.plan.items c.args.names.symbols.items c.args.names.labels.items c.args.board)
    c.prompt.ensures c.in-Err.is
