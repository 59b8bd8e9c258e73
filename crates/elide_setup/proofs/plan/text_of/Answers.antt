use Rattle.std.proofs.Common.{◌≢◌, rules}
use Rattle.elide_program.specs.declared.paths.ReadFault.TheVariants as read
use Rattle.elide_setup.proofs.Misread.{unread_as}
use Rattle.elide_setup.specs.Refused.{schedule_unread}
use Rattle.elide_setup.proofs.plan.text_of.Goals as goal

pub returns-in-Err : goal.returns-in-Err
returns-in-Err g c =
    let other : c.in-Err.fault ≢ read.NoMemory = search rules in
    record {
      none = schedule_unread c.in-Err.fault c.in-Err.ensures.content
          (unread_as c.in-Err.fault c.from.result other c.from.ensures);
      given = tt;
      whole = tt;
    }
