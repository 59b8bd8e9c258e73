use Rattle.std.proofs.Common.{refl}
use Rattle.elide_setup.proofs.Misread.{list_misread, list_refused}
use Rattle.elide_setup.proofs.plan.steps_said.Goals as goal

pub returns-in-Err-BadSchedule-clause-none : goal.returns-in-Err-BadSchedule-clause-none
returns-in-Err-BadSchedule-clause-none c options said =
    list_misread options c.args.list.now c.as_bytes.result.now c.in-Err-BadSchedule.field-0-0
    c.in-Err-BadSchedule.field-0 _ said c.as_bytes.ensures.value
    c.in-Err-BadSchedule.field-0-is c.in-Err-BadSchedule.ensures.err refl

pub returns-in-Err : goal.returns-in-Err
returns-in-Err c = record {
  steps = tt;
  none = λ options said. list_refused options c.args.list.now c.as_bytes.result.now c.in-Err.fault said
      c.as_bytes.ensures.value c.in-Err.ensures.err;
}
