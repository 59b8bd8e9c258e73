-- The kinds of the events that are drawn for a run.
use Rattle.std.specs.Prelude.{Option, Some, None}
use Rattle.tm_pick.specs.Kinds.{no_kinds}
use Rattle.tm_pick.specs.declared.kinds.Kinds.{Kinds}
use Rattle.tm_pick.specs.declared.lot.Lot.{Lot}

abbrev pub kinds_drawn : Option Lot → Kinds
kinds_drawn None = no_kinds
kinds_drawn (Some lot) = lot.kinds
