use Rattle.tm_ledger.proofs.Moves.{begins}
use Rattle.tm_ledger.proofs.ledger.UnnamedLedger.new.Goals as goal

pub of_words-requires : goal.of_words-requires
of_words-requires g c = begins
