use Rattle.std.proofs.Common.{None}
use Rattle.tm_why.proofs.FilledRows.{default_of}
use Rattle.tm_why.proofs.asked.Asked.of.Goals as goal

pub hits_of-below-requires-clause-empty : goal.hits_of-below-requires-clause-empty
hits_of-below-requires-clause-empty c = λ k. default_of 64 k None

pub stores_of-stores-requires-clause-none : goal.stores_of-stores-requires-clause-none
stores_of-stores-requires-clause-none c = λ k behind. default_of 64 k None
