use Rattle.elide_program.specs.Files.{lost}
use Rattle.doc_tests.proofs.memory.MemoryPaths.write.Goals as goal

-- it was told whole, and there is no memory to keep it
pub returns-in-Err-put-clause-failed : goal.returns-in-Err-put-clause-failed
returns-in-Err-put-clause-failed g c = lost c.in-Ok.ensures.written.0 c.in-Ok.ensures.written.1
