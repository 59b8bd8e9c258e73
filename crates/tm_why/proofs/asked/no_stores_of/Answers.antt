use Rattle.tm_model.specs.Explained.{owed_now}
use Rattle.tm_model.specs.Setting.{Setting}
use Rattle.tm_model.specs.State.{seen_by}
use Rattle.std.proofs.Common.{None}
use Rattle.tm_core.specs.Theorem.{machine_setting}
use Rattle.tm_why.proofs.Pending.{none_pends}
use Rattle.tm_why.proofs.asked.no_stores_of.Goals as goal

pub returns-clause-pends : goal.returns-clause-pends
returns-clause-pends c = λ state doomed stands.
    let core = c.args.core in
    let setting : Setting = machine_setting c.args.machine.now in
    none_pends setting (seen_by state core) (state.cores core) (owed_now None setting state doomed core)
    c.requires.direct
