use Rattle.ia_round_trip.proofs.RoundTrip.{form_reads_back}
use Rattle.ia_round_trip.proofs.laws.form_reads_back.Goals as goal

pub returns : goal.returns
returns c = form_reads_back
