use Rattle.std.proofs.Common.{refl}
use Rattle.elide_setup.proofs.Records.{if_held}
use Rattle.elide_page.specs.Pages.{IsPageOf}
use Rattle.elide_page.proofs.Refusing.{file_refused}
use Rattle.elide_page.proofs.output.write_page_to.Goals as goal

pub returns-in-Ok-clause-written : goal.returns-in-Ok-clause-written
returns-in-Ok-clause-written g c =
    let made = c.in-Ok.ensures.written in
    if_held (g.P.Paths.content c.write.new.self c.args.path.now) made.0 (IsPageOf c.args.job.now) made.1.1 made.2

pub returns-in-Err-clause-refused : goal.returns-in-Err-clause-refused
returns-in-Err-clause-refused g c =
    file_refused _ c.write.new.text c.refusal_of.result refl c.in-Err.ensures.failed c.refusal_of.ensures
