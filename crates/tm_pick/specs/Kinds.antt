-- The kinds of the events of a run.
use Rattle.std.specs.Prelude.{◌≡◌, ⊤, Bool, true, false, List, All, Option, Some, None}
use Rattle.tm_model.specs.declared.outcome.Event.{Event}
use Rattle.tm_model.specs.declared.outcome.Event.TheVariants.{Abort, Drain}
use Rattle.tm_model.specs.declared.outcome.Interference.{Interference}
use Rattle.tm_model.specs.declared.outcome.Interference.TheVariants.{Interrupt, Eviction, Snoop}
use Rattle.tm_model.specs.declared.outcome.Pick.{Pick}
use Rattle.tm_pick.specs.declared.kinds.Kinds.{Kinds}

-- none
abbrev pub no_kinds : Kinds
no_kinds = record { interrupt = false; eviction = false; snoop = false; drain = false }

-- each abort from outside of the program
abbrev pub all_kinds : Kinds
all_kinds = record { interrupt = true; eviction = true; snoop = true; drain = false }

-- this one alone
abbrev pub only_kind : Interference → Kinds
only_kind Interrupt = record no_kinds { interrupt = true }
only_kind Eviction = record no_kinds { eviction = true }
only_kind Snoop = record no_kinds { snoop = true }

-- whether this one is among them
abbrev pub has_kind : Kinds → Interference → Bool
has_kind kinds Interrupt = kinds.interrupt
has_kind kinds Eviction = kinds.eviction
has_kind kinds Snoop = kinds.snoop

-- whether an event is of one of them
abbrev pub has_event : Kinds → Event → Bool
has_event kinds (Abort by) = has_kind kinds by
has_event kinds Drain = kinds.drain

-- an event of one of them, or none
abbrev pub IsOfKinds : Kinds → Option Event → Type 0
IsOfKinds kinds None = ⊤
IsOfKinds kinds (Some event) = has_event kinds event ≡ true

-- steps under such events
abbrev pub AreOfKinds : Kinds → List Pick → Type 0
AreOfKinds kinds picks = All (λ (pick : Pick). IsOfKinds kinds pick.event) picks

-- each of the first ones is one of the second ones
abbrev pub AreAmong : Kinds → Kinds → Type 0
AreAmong kinds others = (event : Event) → has_event kinds event ≡ true → has_event others event ≡ true
