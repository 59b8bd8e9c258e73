use Rattle.std.proofs.Common.{ℕ, List, Option}
use Rattle.std.proofs.lemmas.Result.{IfOk-weaker}
use Rattle.std.specs.Io.KnownBytes.{Appends}
use Rattle.text_out.specs.Writing.{Device}
use Rattle.elide_device.specs.Gathering.{told}
use Rattle.elide_device.specs.declared.gathered.Gathered.{Gathered}
use Rattle.page_template.specs.declared.template.TheConstants.{TAIL}
use Rattle.elide_page.proofs.Paging.{page_written}
use Rattle.elide_page.specs.Pages.{IsPageOf}
use Rattle.elide_page.proofs.output.write_page.Goals as goal

pub returns-clause-written : goal.returns-clause-written
returns-clause-written g c =
    let held : Gathered g.row.O.Denot → Device = λ m. record {
      contents = told (g.O.Out.device m.out).contents (g.O.Out.device m.before.value).contents m.failures m.row.items;
      failures = m.failures;
    } in
    let first : Option (List ℕ) = (g.O.Out.device c.args.out).contents in
    let head = rw c.as_bytes.ensures.value at c.in_ok-write_head.ensures in
    let ended = held c.in_ok-explained.explained in
    IfOk-weaker c.finish.result
    (λ (last : g.row.O.Denot). Appends ended.contents (g.O.Out.device last).contents TAIL.now)
    (λ (last : g.row.O.Denot). (bytes : List ℕ) × IsPageOf c.args.job.now bytes
    × Appends first (g.O.Out.device last).contents bytes)
    (λ last tail. page_written c.args.job.now _ first (g.O.Out.device last).contents
    (held c.new-page.result) (held c.write_head.new.out) (held c.put_front.new.out) (held c.in_ok-told.told) ended
    c.new-page.ensures.kept head c.in_ok-put_front.ensures.text c.in_ok-told.ensures.written
    c.in_ok-explained.ensures.text tail)
    c.finish.ensures.tail
