-- Which event a step comes under, by chance.
use Rattle.std.specs.Prelude.{◌≡◌, ℕ, ◌+◌, ◌&&◌, nat_eq, if◌then◌else◌}
use Rattle.std.specs.Int.{from_bool}
use Rattle.std.specs.Prelude.{Option, Some, None}
use Rattle.rand_core.specs.Stream.{Stream}
use Rattle.tm_model.specs.declared.outcome.Event.{Event}
use Rattle.tm_model.specs.declared.outcome.Event.TheVariants.{Abort, Drain}
use Rattle.tm_model.specs.declared.outcome.Interference.TheVariants.{Interrupt, Eviction, Snoop}
use Rattle.tm_pick.specs.Chances.{below, words_of}
use Rattle.tm_pick.specs.declared.kinds.Kinds.{Kinds}
use Rattle.tm_pick.specs.declared.lot.Lot.{Lot}

-- how many kinds there are, and the one with an index, in this order
abbrev pub kind_count : Kinds → ℕ
kind_count kinds =
    from_bool kinds.interrupt + from_bool kinds.eviction + from_bool kinds.snoop + from_bool kinds.drain

abbrev pub kind_at : Kinds → ℕ → Event
kind_at kinds index =
    if kinds.interrupt && nat_eq index 0 then Abort Interrupt
    else if kinds.eviction && nat_eq index (from_bool kinds.interrupt) then Abort Eviction
    else if kinds.snoop && nat_eq index (from_bool kinds.interrupt + from_bool kinds.eviction) then Abort Snoop
    else Drain

-- an event of one of them, each as likely as another, and none where there are none
abbrev pub kind_drawn : Kinds → Stream → Option Event × Stream
kind_drawn kinds words =
    let one : ℕ × Stream = below (kind_count kinds) words in
    if nat_eq (kind_count kinds) 0 then (None, words) else (Some (kind_at kinds one.0), one.1)

-- one step in so many
abbrev pub event_drawn : Lot → Option Event × Stream
event_drawn lot =
    let one : ℕ × Stream = below lot.one_in (words_of lot.chance) in
    if nat_eq one.0 0 then kind_drawn lot.kinds one.1 else (None, one.1)

pub record IsOfLot (before : Lot) (event : Option Event) (after : Lot) : Type 0 where
  pub rate : after.one_in ≡ before.one_in
  pub of_kinds : after.kinds ≡ before.kinds
  pub drawn : ◌≡◌ {A = Option Event × Stream} (event, words_of after.chance) (event_drawn before)

-- the event of a step whose events are drawn by this, if they are drawn
abbrev pub IsDrawnEvent : Option Lot → Option Event → Option Lot → Type 0
IsDrawnEvent None event after = (event ≡ None) × (after ≡ None)
IsDrawnEvent (Some lot) event after = (next : Lot) × (after ≡ Some next) × IsOfLot lot event next
