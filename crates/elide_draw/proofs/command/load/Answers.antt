use Rattle.std.proofs.Common.{ℕ, List, subst}
use Rattle.std.proofs.lemmas.Result.{IfOk-weaker}
use Rattle.elide_program.specs.ProgramFile.{IsFile, IsRead}
use Rattle.elide_program.specs.declared.file.ProgramFile.{ProgramFile}
use Rattle.elide_setup.specs.Loaded.{IsLoaded}
use Rattle.elide_setup.specs.Setup.{IsSetup}
use Rattle.elide_draw.proofs.command.load.Goals as goal

pub returns-clause-loaded : goal.returns-clause-loaded
returns-clause-loaded g c =
    let asked = c.args.asked.now in
    let content = g.P.Paths.content c.args.paths.now in
    IfOk-weaker c.of_text.result
    (IsLoaded c.as_slice.result.now asked.settings _)
    (λ loaded. (file : ProgramFile) × IsRead (content asked.file.now) file
    × IsSetup file asked.settings loaded.setup)
    (λ loaded is. (
      is.file,
      record {
        text = c.in_ok-text.text.items;
        given = c.in_ok-text.ensures.given;
        read = subst (λ (text : List ℕ). IsFile text is.file) c.as_slice.ensures.value is.read;
      },
      is.setup,
    ))
    c.of_text.ensures.loaded
