use Rattle.std.proofs.Common.{rules, ◌++◌, ◌∷◌, []}
use Rattle.text_out.proofs.Writing.{writes_stopped, writes_then}
use Rattle.elide_command.proofs.telling.write_usage.Goals as goal

pub returns-in_err-put_front : goal.returns-in_err-put_front
returns-in_err-put_front g c =
    writes_stopped (c.args.name.now ++ 10 ∷ []) c.from_residual.result (search rules) c.in_err-put_front.ensures

pub returns-in_err-put : goal.returns-in_err-put
returns-in_err-put g c =
    let stopped = rw c.as_bytes.ensures.value at c.in_err-put.ensures in
    let rest = writes_stopped (10 ∷ []) c.from_residual-in_err-put.result (search rules) stopped in
    writes_then _ (c.args.name.now ++ 10 ∷ []) c.from_residual-in_err-put.result c.in_ok-put_front.ensures rest

pub returns : goal.returns
returns g c =
    let named = rw c.as_bytes.ensures.value at c.in_ok-put.ensures in
    let rest = writes_then _ (10 ∷ []) c.put-2.result named c.put-2.ensures in
    writes_then _ (c.args.name.now ++ 10 ∷ []) c.put-2.result c.in_ok-put_front.ensures rest
