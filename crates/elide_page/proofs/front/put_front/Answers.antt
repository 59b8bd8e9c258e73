use Rattle.std.proofs.Common.{ℕ, List}
use Rattle.text_out.specs.Writing.{Wrote}
use Rattle.page_run.specs.Plain.{ArePlain}
use Rattle.elide_page.proofs.Fronting.{front_written}
use Rattle.elide_page.proofs.Pieces.{both_on_ok}
use Rattle.elide_page.specs.Fronts.{lists_text}
use Rattle.elide_page.proofs.front.put_front.Goals as goal

pub returns-clause-text : goal.returns-clause-text
returns-clause-text g c =
    let job = c.args.job.now in
    let shows = c.args.shows.now in
    let last = g.O.Out.device c.put_lists.new.out in
    let before = g.O.Out.device c.put_program.new.out in
    both_on_ok c.put_lists.result c.put_lists.ensures.text c.put_lists.ensures.plain
    (λ (lists : Wrote before last (lists_text job shows)) (plain : ArePlain (lists_text job shows)).
    front_written job shows c.name_of.result.now (g.O.Out.device c.args.out.now) (g.O.Out.device c.put_names.new.out)
    before last c.name_of.ensures c.in_ok-put_names.ensures.text c.in_ok-put_names.ensures.plain
    c.in_ok-put_program.ensures.text lists plain)
