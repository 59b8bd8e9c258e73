use Rattle.std.proofs.Common.{[], ℕ, List, Option}
use Rattle.tm_schedule.specs.ScheduleWriting.{left_text}
use Rattle.elide_setup.proofs.Records.{then_kept}
use Rattle.elide_device.specs.Gathering.{told}
use Rattle.elide_device.specs.declared.gathered.Gathered.{Gathered}
use Rattle.elide_setup.proofs.recording.Recorder.finish.Goals as goal

pub returns : goal.returns
returns g c =
    let held : Gathered g.row.O.Denot → Option (List ℕ) =
    λ m. told (g.O.Out.device m.out).contents (g.O.Out.device m.before.value).contents m.failures m.row.items in
    then_kept (held c.args.self.page) (held c.finish.new.out) (g.O.Out.device c.in_ok-out.out).contents
    (left_text c.args.self.writer [])
    c.in_ok-finish.ensures.bytes c.in_ok-out.ensures.kept
