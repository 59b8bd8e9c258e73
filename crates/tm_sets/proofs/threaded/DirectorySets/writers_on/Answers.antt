use Rattle.std.proofs.Common.{arith}
use Rattle.tm_sets.specs.DirectoryRows.{rows_of}
use Rattle.tm_sets.proofs.Triples.{counted_exact, counted_few}
use Rattle.tm_sets.proofs.threaded.DirectorySets.writers_on.Goals as goal

pub returns-clause-exact : goal.returns-clause-exact
returns-clause-exact c =
    counted_exact (rows_of c.args.self.now) c.args.self.now.counted c.args.line _ c.others-mask.ensures.visited
    c.saturating_add-self.ensures

pub returns-clause-few : goal.returns-clause-few
returns-clause-few c =
    counted_few (rows_of c.args.self.now) c.args.self.now.counted c.args.line _
    (omega (arith, c.others-mask.ensures.visited)) c.saturating_add-self.ensures
