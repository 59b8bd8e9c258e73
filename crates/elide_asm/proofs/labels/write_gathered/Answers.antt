use Rattle.std.proofs.Common.{ℕ, List, Option}
use Rattle.elide_setup.proofs.Records.{passed_on}
use Rattle.elide_device.specs.Gathering.{told}
use Rattle.elide_device.specs.declared.gathered.Gathered.{Gathered}
use Rattle.elide_asm.proofs.labels.write_gathered.Goals as goal

pub returns : goal.returns
returns g c =
    let held : Gathered g.row.O.Denot → Option (List ℕ) = λ m. told (g.O.Out.device m.out).contents
    (g.O.Out.device m.before.value).contents m.failures m.row.items in
    let listed = c.in_ok-write_listing.ensures in (
      listed.0,
      listed.1,
      passed_on (g.O.Out.device c.args.out).contents (held c.new-page.result) (held c.write_listing.new.out)
          (g.O.Out.device c.in_ok-out.out).contents listed.0 c.new-page.ensures.kept listed.2.bytes
          c.in_ok-out.ensures.kept,
    )
