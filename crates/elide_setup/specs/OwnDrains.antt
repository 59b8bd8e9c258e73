-- The drains of a schedule that is drawn, besides those of `--events` (docs/FORMATS.md, "Drains that are drawn").
use Rattle.std.specs.Prelude.{◌≡◌, ℕ, if◌then◌else◌, nat_le, Option, Some, None}
use Rattle.tm_model.specs.declared.outcome.Event.{Event}
use Rattle.tm_model.specs.declared.outcome.Event.TheVariants as event
use Rattle.tm_pick.specs.Drains.{AreDrainsOf, IsDrained, first_event}
use Rattle.tm_pick.specs.declared.lot.Lot.{Lot}
use Rattle.elide_setup.specs.declared.own_drains.OwnDrains.{OwnDrains}
use Rattle.elide_setup.specs.declared.own_drains.OwnDrains.TheVariants.{ByChance, InTurn}
use Rattle.elide_setup.specs.declared.own_drains.Round.{Round}
use Rattle.elide_setup.specs.declared.own_drains.Round.TheVariants as round
use Rattle.elide_setup.specs.declared.own_drains.Rounds.{Rounds}

-- ---- round by round

-- two rounds of steps, and behind them one of drains
abbrev pub next_round : Round → Round
next_round round.First = round.Second
next_round round.Second = round.Drains
next_round round.Drains = round.First

-- the round of a core's step behind that of another: the next one, where the cores begin again
abbrev pub round_behind : Option ℕ → Round → ℕ → Round
round_behind None round core = round
round_behind (Some last) round core = if nat_le core last then next_round round else round

abbrev pub round_of : Rounds → ℕ → Round
round_of rounds core = round_behind rounds.last rounds.round core

-- the rounds behind that step
abbrev pub rounds_on : Rounds → ℕ → Rounds
rounds_on rounds core = record { round = round_of rounds core; last = Some core }

-- the drain that a step of a round is
abbrev pub drain_of : Round → Option Event
drain_of round.First = None
drain_of round.Second = None
drain_of round.Drains = Some event.Drain

-- ---- both

-- Before the first step: by chance the drains of the first run of the seed, as `hunt` draws them; round by round, where
-- there is no seed, the first round.
abbrev pub AreOwnDrains : Option ℕ → OwnDrains → Type 0
AreOwnDrains (Some seed) own = (lot : Option Lot) × (own ≡ ByChance lot) × AreDrainsOf 1 seed 0 lot
AreOwnDrains None own = own ≡ InTurn (record { round = round.First; last = None })

-- the event of a core's step, which came under this one so far: that one, or else the drain that the step is, if any
abbrev pub Befalls : OwnDrains → ℕ → Option Event → Option Event → OwnDrains → Type 0
Befalls (ByChance lot) core event befalls after =
    (next : Option Lot) × (after ≡ ByChance next) × IsDrained event lot befalls next
Befalls (InTurn rounds) core event befalls after =
    (after ≡ InTurn (rounds_on rounds core)) × (befalls ≡ first_event event (drain_of (round_of rounds core)))
