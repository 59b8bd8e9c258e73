use Rattle.std.proofs.Common.{rules}
use Rattle.text_out.proofs.Writing.{writes_err, writes_stopped, writes_then}
use Rattle.debug_command.proofs.places.write_name.Goals as goal

pub returns-in_err-put : goal.returns-in_err-put
returns-in_err-put g c = writes_stopped c.args.back.now c.from_residual.result (search rules) c.in_err-put.ensures

pub returns-in_err-put-2 : goal.returns-in_err-put-2
returns-in_err-put-2 g c =
    let r = c.from_residual-in_err-put-2.result in
    writes_then _ c.args.back.now r c.in_ok-put.ensures
    (writes_err c.args.back.now r (search rules) c.in_err-put-2.ensures)
