-- What a picker shows of the steps that it picks.
use Rattle.std.specs.Prelude.{ℕ, Option}
use Rattle.tm_pick.specs.declared.kinds.Kinds.{Kinds}
use Rattle.tm_pick.specs.declared.lot.Lot.{Lot}
use Rattle.tm_pick.specs.declared.manner.Manner.{Manner}

-- the kinds of the events that they may come under; where the cores go round by round, behind which one they go on, if
-- one has stepped; how their cores are picked; and by what their events are drawn, besides those of a list
pub record Picks : Type 0 where
  pub kinds : Kinds
  pub turn : Option (Option ℕ)
  pub manner : Manner
  pub lot : Option Lot
