use Rattle.std.proofs.Common.{ℕ, List, Option}
use Rattle.elide_device.specs.Gathering.{told}
use Rattle.elide_device.specs.declared.gathered.Gathered.{Gathered}
use Rattle.page_template.specs.declared.template.TheConstants.{TAIL}
use Rattle.elide_page.proofs.Paging.{handed_on}
use Rattle.elide_page.proofs.output.finish.Goals as goal

pub returns-clause-tail : goal.returns-clause-tail
returns-clause-tail g c =
    let held : Gathered g.row.O.Denot → Option (List ℕ) = λ m.
    told (g.O.Out.device m.out).contents (g.O.Out.device m.before.value).contents m.failures m.row.items in
    handed_on (held c.args.page) (held c.write_tail.new.out) (g.O.Out.device c.in_ok-out.out).contents TAIL.now
    c.in_ok-write_tail.ensures.bytes c.in_ok-out.ensures.kept
