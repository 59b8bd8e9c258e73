use Rattle.std.proofs.lemmas.Result.{err_from_is_err_and}
use Rattle.tm_debug.specs.Session.{start_in}
use Rattle.elide_session.proofs.SessionEnds.{ended}
use Rattle.elide_session.specs.DebugRefused.{unopened}
use Rattle.elide_session.proofs.debugger.debug.Goals as goal

pub returns-in-Ok-clause-served : goal.returns-in-Ok-clause-served
returns-in-Ok-clause-served g c = record {
  first = c.in_ok-start.start.board;
  last = c.in-Ok._board;
  plan = c.in_ok-start.start.plan.items;
  planned = c.in_ok-start.ensures.plan;
  symbols = c.in_ok-start.start.names.symbols.items;
  opened = c.in_ok-start.ensures.opened;
  labels = c.in_ok-start.start.names.labels.items;
  manner = c.manner_at-manner.result;
  speaks = c.manner_at-manner.ensures;
  answers = c.in-Ok.ensures;
}

pub returns-in-Err-clause-refused : goal.returns-in-Err-clause-refused
returns-in-Err-clause-refused g c =
    ended _ _ (g.P.Paths.content c.args.paths.now) c.args.options.now c.manner_at-manner.result
    (start_in c.manner_at-manner.result c.in_ok-start.start.plan.items c.in_ok-start.start.names.symbols.items
    c.in_ok-start.start.names.labels.items c.in_ok-start.start.board)
    c.in-Err.fault c.session_fault.result c.in-Err.ensures c.session_fault.ensures.kind

pub returns-in_err-start-clause-refused : goal.returns-in_err-start-clause-refused
returns-in_err-start-clause-refused g c =
    let p = err_from_is_err_and c.from_residual.result c.from_residual.ensures.1 in
    rw (p.1, p.2) (unopened c.in_err-start.ensures.none)
