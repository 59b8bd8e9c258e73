use Rattle.elide_program.proofs.Names.{last_name, whole_name}
use Rattle.elide_program.proofs.paths.name_of.Goals as goal

pub returns-in-Some : goal.returns-in-Some
returns-in-Some c =
    let cut = c.in-Some.ensures.cases in
    last_name c.args.path.now c.in-Some.name.now cut.0 cut.1 cut.2 cut.4

pub returns-in-None : goal.returns-in-None
returns-in-None c = whole_name c.args.path.now c.in-None.ensures.cases
