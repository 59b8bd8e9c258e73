use Rattle.elide_program.specs.Files.{lost}
use Rattle.elide_program.proofs.replacing.write_part.Goals as goal

-- it was told whole, and did not take its name
pub returns-else-take_name-clause-failed : goal.returns-else-take_name-clause-failed
returns-else-take_name-clause-failed g c = lost c.in-Ok.ensures.written.0 c.in-Ok.ensures.written.1
