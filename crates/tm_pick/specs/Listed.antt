-- The kinds of the events of a schedule that is listed.
use Rattle.std.specs.Prelude.{List, [], ◌∷◌, Option, Some, None, true}
use Rattle.tm_model.specs.declared.outcome.Event.{Event}
use Rattle.tm_model.specs.declared.outcome.Event.TheVariants.{Abort, Drain}
use Rattle.tm_model.specs.declared.outcome.Interference.TheVariants.{Interrupt, Eviction, Snoop}
use Rattle.tm_model.specs.declared.outcome.Pick.{Pick}
use Rattle.tm_pick.specs.Kinds.{no_kinds}
use Rattle.tm_pick.specs.declared.kinds.Kinds.{Kinds}

-- with that of an event, if any
abbrev pub with_kind : Option Event → Kinds → Kinds
with_kind None kinds = kinds
with_kind (Some (Abort Interrupt)) kinds = record kinds { interrupt = true }
with_kind (Some (Abort Eviction)) kinds = record kinds { eviction = true }
with_kind (Some (Abort Snoop)) kinds = record kinds { snoop = true }
with_kind (Some Drain) kinds = record kinds { drain = true }

-- those of the events of a schedule
abbrev pub kinds_in : List Pick → Kinds
kinds_in [] = no_kinds
kinds_in (pick ∷ picks) = with_kind pick.event (kinds_in picks)
