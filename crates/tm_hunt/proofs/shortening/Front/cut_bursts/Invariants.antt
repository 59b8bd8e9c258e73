use Rattle.tm_hunt.specs.Shortening.{Shortens}
use Rattle.tm_hunt.proofs.shortening.Front.cut_bursts.Given as goal

abbrev pub invariant-tries : goal.invariant-tries
invariant-tries l = Shortens l.trial l.fn.self l.fn.best l.self l.best
