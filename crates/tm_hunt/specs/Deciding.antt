-- The steps of a failing run that decide.
use Rattle.std.specs.Prelude.{ℕ, List, take}
use Rattle.tm_model.specs.declared.outcome.Pick.{Pick}
use Rattle.tm_hunt.specs.Cost.{cost_of}
use Rattle.tm_hunt.specs.declared.failure.Failure.{Failure}

-- they are its first ones
abbrev pub deciding : Failure → List Pick
deciding failure = take failure.front failure.picks.items

-- how simple a failing run is to a reader, who is told these steps
abbrev pub cost_told : Failure → ℕ
cost_told failure = cost_of (deciding failure)
