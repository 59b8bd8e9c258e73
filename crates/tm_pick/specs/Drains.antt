-- The drains of a run by chance, where stores may be pending (docs/FORMATS.md, "Hunt").
use Rattle.std.specs.Prelude.{◌≡◌, ℕ, zero, suc, ◌^◌, true, MatchOption, Option, Some, None}
use Rattle.rand_core.specs.Stream.{Stream}
use Rattle.tm_model.specs.declared.outcome.Event.{Event}
use Rattle.tm_pick.specs.Befalls.{IsDrawnEvent}
use Rattle.tm_pick.specs.Begun.{IsLot}
use Rattle.tm_pick.specs.Chances.{below, generator_of, number_of_drains}
use Rattle.tm_pick.specs.Kinds.{no_kinds}
use Rattle.tm_pick.specs.declared.kinds.Kinds.{Kinds}
use Rattle.tm_pick.specs.declared.lot.Lot.{Lot}

-- drains alone
abbrev pub drains_alone : Kinds
drains_alone = record no_kinds { drain = true }

-- drains at a rate of 1, 1/2, 1/4 and so on down to 1/64, which is drawn from these numbers
abbrev pub AreDrainsBy : Stream → Lot → Type 0
AreDrainsBy words lot =
    let rate : ℕ × Stream = below 7 words in
    IsLot (2 ^ rate.0) drains_alone rate.1 lot

-- those of the run of this number, where at most so many stores of a core may be pending: none with room for none
abbrev pub AreDrainsOf : ℕ → ℕ → ℕ → Option Lot → Type 0
AreDrainsOf zero seed run lot = lot ≡ None
AreDrainsOf (suc stores) seed run lot = MatchOption lot ⊥ (AreDrainsBy (generator_of (number_of_drains seed run)))

-- the first event, or else the second
abbrev pub first_event : Option Event → Option Event → Option Event
first_event (Some event) other = Some event
first_event None other = other

-- the event of a step that came under this one so far, or else the drain that is drawn for it, if any
pub record IsDrained (event : Option Event) (before : Option Lot) (befalls : Option Event) (after : Option Lot)
    : Type 0 where
  pub drain : Option Event
  pub drawn : IsDrawnEvent before drain after
  pub is : befalls ≡ first_event event drain
