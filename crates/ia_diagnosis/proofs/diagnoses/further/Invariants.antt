use Rattle.ia_diagnosis.specs.Diagnoses.{Course}
use Rattle.ia_diagnosis.proofs.diagnoses.further.Given as goal

abbrev pub invariant-loop-round : goal.invariant-loop-round
invariant-loop-round l = Course l.source l.told.items l.least
