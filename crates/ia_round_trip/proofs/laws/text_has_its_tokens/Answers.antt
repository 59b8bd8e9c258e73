use Rattle.ia_round_trip.proofs.PrintedTokens.{text_has_its_tokens}
use Rattle.ia_round_trip.proofs.laws.text_has_its_tokens.Goals as goal

pub returns : goal.returns
returns c = text_has_its_tokens
