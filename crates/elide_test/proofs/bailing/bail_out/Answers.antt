use Rattle.std.proofs.Common.{ℕ, List, Option}
use Rattle.elide_device.specs.Gathering.{told}
use Rattle.elide_device.specs.declared.gathered.Gathered.{Gathered}
use Rattle.text_out.proofs.Writing.{wrote_then}
use Rattle.elide_setup.proofs.Records.{passed_on}
use Rattle.elide_test.specs.Tap.{bail_text}
use Rattle.elide_test.proofs.bailing.bail_out.Goals as goal

pub returns : goal.returns
unfolding bail_text
returns g c =
    let held : Gathered g.row.O.Denot → Option (List ℕ) = λ m. told (g.O.Out.device m.out).contents
    (g.O.Out.device m.before.value).contents m.failures m.row.items in
    let bail = c.in_ok-tell_bail.ensures in
    let text = bail_text c.args.files.now c.args.name.now c.args.fault bail.0 in (
      bail.0,
      passed_on (g.O.Out.device c.args.out).contents (held c.new-page.result) (held c.tell_bail.new.out)
          (g.O.Out.device c.in_ok-out.out).contents text c.new-page.ensures.kept
          (wrote_then c.in_ok-tell_until.ensures bail.1).bytes c.in_ok-out.ensures.kept,
    )
