use Rattle.std.proofs.Common.{ℕ, List, Option}
use Rattle.elide_object.specs.Object.{object_text}
use Rattle.elide_device.specs.Gathering.{told}
use Rattle.elide_device.specs.declared.gathered.Gathered.{Gathered}
use Rattle.elide_hunt.specs.Object.{search_value}
use Rattle.elide_setup.proofs.Records.{passed_on}
use Rattle.elide_hunt.proofs.command.put_object.Goals as goal

pub returns-clause-told : goal.returns-clause-told
returns-clause-told g c =
    let held : Gathered g.row.O.Denot → Option (List ℕ) =
    λ m. told (g.O.Out.device m.out).contents (g.O.Out.device m.before.value).contents m.failures m.row.items in
    passed_on (g.O.Out.device c.args.out).contents (held c.new-page.result) (held c.tell_object.new.out)
    (g.O.Out.device c.in_ok-out.out).contents
    (object_text (search_value c.args.options.now c.args.beside.now c.args.search.now)) c.new-page.ensures.kept
    c.in_ok-tell_object.ensures.written c.in_ok-out.ensures.kept
