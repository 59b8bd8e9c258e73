use Rattle.std.proofs.Common.{ℕ, List, Option, refl}
use Rattle.tm_schedule.specs.Schedule.{drawn_text}
use Rattle.elide_setup.proofs.Records.{passed_on}
use Rattle.elide_device.specs.Gathering.{told}
use Rattle.elide_device.specs.declared.gathered.Gathered.{Gathered}
use Rattle.elide_setup.proofs.recorded.DrawnScheduleText.write_to.Goals as goal

pub returns : goal.returns
returns g c =
    let held : Gathered g.row.O.Denot → Option (List ℕ) =
    λ m. told (g.O.Out.device m.out).contents (g.O.Out.device m.before.value).contents m.failures m.row.items in
    record {
      written = (
        drawn_text c.args.self.now.has_events c.args.self.now.picks.now,
        refl,
        passed_on (g.O.Out.device c.args.out).contents (held c.new-page.result) (held c.write_drawn.new.out)
            (g.O.Out.device c.in_ok-out.out).contents
            (drawn_text c.args.self.now.has_events c.args.self.now.picks.now) c.new-page.ensures.kept
            c.in_ok-write_drawn.ensures.bytes c.in_ok-out.ensures.kept,
      );
      broken = tt;
      kept = tt;
    }
