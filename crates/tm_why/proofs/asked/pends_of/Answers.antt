use Rattle.std.proofs.Common.{◌∙◌}
use Rattle.tm_model.specs.Owed.{owed_outcome}
use Rattle.tm_model.specs.Setting.{Setting}
use Rattle.tm_model.specs.State.{seen_by}
use Rattle.tm_core.specs.Theorem.{machine_setting}
use Rattle.tm_why.proofs.Pending.{pends_is}
use Rattle.tm_why.proofs.asked.pends_of.Goals as goal

pub returns : goal.returns
returns c = λ state doomed stands.
    let core = c.args.core in
    let setting : Setting = machine_setting c.args.machine.now in
    c.is_pending.ensures
    ∙ pends_is setting (seen_by state core) (state.pending core) (state.cores core)
    (owed_outcome setting (seen_by state core) (state.cores core) (doomed core)) c.in-Ok.ahead
    (c.in-Ok.ensures.told state doomed stands)
