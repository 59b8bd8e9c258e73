use Rattle.std.proofs.Common.{subst}
use Rattle.std.proofs.lemmas.Result.{err_from_is_err_and}
use Rattle.elide_json.specs.Refused.{IsUnsent}
use Rattle.tm_core.specs.Theorem.{ShownMachine as Machine}
use Rattle.elide_replay.proofs.once_more.tell_object.Goals as goal

pub returns-in_err-put_replay-clause-unsent : goal.returns-in_err-put_replay-clause-unsent
returns-in_err-put_replay-clause-unsent g c =
    let why = c.in_err-put_replay.field-0.0 in
    let p = err_from_is_err_and c.from_residual.result c.from_residual.ensures.1 in
    rw (p.1, p.2)
    (subst (λ (m : Machine). IsUnsent m.memory c.args.rerun.setup.now.parts why) c.machine.ensures
    c.in_err-put_replay.ensures.unsent)
