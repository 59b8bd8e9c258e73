-- What the steps of the run of a number begin with (docs/FORMATS.md, "Hunt").
use Rattle.std.specs.Prelude.{◌≡◌, ℕ, zero, suc, ◌+◌, ◌^◌, List, [], ◌∷◌, ◌++◌, max, nat_eq, if◌then◌else◌, MatchOption}
use Rattle.std.specs.Prelude.{Option}
use Rattle.std.specs.Prelude.{None}
use Rattle.std.specs.List.{range_with_len}
use Rattle.rand.specs.Shuffle.{shuffled}
use Rattle.rand_core.specs.Stream.{Stream}
use Rattle.tm_model.specs.declared.outcome.Interference.TheVariants.{Interrupt, Eviction, Snoop}
use Rattle.tm_pick.specs.Chances.{below, generator_of, number_of_events, number_of_run, words_of}
use Rattle.tm_pick.specs.Kinds.{all_kinds, only_kind}
use Rattle.tm_pick.specs.Methods.{IsDrawnBy, method_of_run}
use Rattle.tm_pick.specs.Rows.{longest_row}
use Rattle.tm_pick.specs.declared.bursts.Bursts.{Bursts}
use Rattle.tm_pick.specs.declared.events.Events.{Events}
use Rattle.tm_pick.specs.declared.events.Events.TheVariants.{Never, Rate, Draw}
use Rattle.tm_pick.specs.declared.kinds.Kinds.{Kinds}
use Rattle.tm_pick.specs.declared.lot.Lot.{Lot}
use Rattle.tm_pick.specs.declared.manner.Manner.{Manner}
use Rattle.tm_pick.specs.declared.manner.Manner.TheVariants as manner
use Rattle.tm_pick.specs.declared.method.Method.{Method}
use Rattle.tm_pick.specs.declared.method.Method.TheVariants as method
use Rattle.tm_pick.specs.declared.method.Plan.{Plan}
use Rattle.tm_pick.specs.declared.priorities.Priorities.{Priorities}
use Rattle.tm_pick.specs.declared.seen.Seen.{Seen}

-- ---- the cores

-- of a mean length that is drawn: 1, 2, 4 and so on, up to 256 steps
pub record AreBursts (words : Stream) (bursts : Bursts) : Type 0 where
  pub mean : bursts.mean ≡ 2 ^ (below 9 words).0
  pub behind : words_of bursts.chance ≡ (below 9 words).1

-- the steps at which a core falls: so many, of the numbers from 1 to a length
abbrev pub falls_among : ℕ → ℕ → Stream → List ℕ × Stream
falls_among zero length words = ([], words)
falls_among (suc count) length words =
    let before : List ℕ × Stream = falls_among count length words in
    let one : ℕ × Stream = below length before.1 in
    (before.0 ++ (1 + one.0) ∷ [], one.1)

-- 1 to 3 of them
abbrev pub falls_drawn : ℕ → Stream → List ℕ × Stream
falls_drawn length words = falls_among (1 + (below 3 words).0) length (below 3 words).1

-- an order of the cores by chance, and the steps at which one falls in a run of about this length
pub record ArePriorities (cores length : ℕ) (words : Stream) (priorities : Priorities) : Type 0 where
  pub order : priorities.order.items ≡ (shuffled (range_with_len 0 cores) 0 words).0
  pub falls : priorities.falls.items ≡ (falls_drawn (max 1 length) (shuffled (range_with_len 0 cores) 0 words).1).0
  pub most : priorities.most ≡ longest_row length
  pub none_made : priorities.made ≡ 0
  pub none_in_a_row : priorities.in_a_row ≡ 0

-- drawn so by the run's number
pub record IsSeen (run length : ℕ) (words : Stream) (seen : Seen) : Type 0 where
  pub draws : IsDrawnBy run seen.draws
  pub chance : words_of seen.chance ≡ words
  pub most : seen.most ≡ longest_row length
  pub none_in_a_row : seen.in_a_row ≡ 0

-- a manner of picking of this method, for so many cores, that draws from these numbers, before the first step
abbrev pub IsManner : Method → ℕ → ℕ → ℕ → Stream → Manner → Type 0
IsManner way run cores length words (manner.InTurn turn) = ⊥
IsManner way run cores length words (manner.Uniform chance) = (way ≡ method.Uniform) × (words_of chance ≡ words)
IsManner way run cores length words (manner.Bursts bursts) = (way ≡ method.Bursts) × AreBursts words bursts
IsManner way run cores length words (manner.Priorities priorities) =
    (way ≡ method.Priorities) × ArePriorities cores length words priorities
IsManner way run cores length words (manner.Seen seen) = (way ≡ method.Seen) × IsSeen run length words seen
IsManner way run cores length words (manner.Front front) = ⊥

-- that of the run of this number, for a machine of so many cores
abbrev pub AreCoresOf : Plan → ℕ → ℕ → Manner → Type 0
AreCoresOf plan run cores manner =
    IsManner (method_of_run plan.method run) run cores plan.length (generator_of (number_of_run plan.seed run)) manner

-- ---- the events

-- one step in so many under an event of these kinds, drawn from these numbers
pub record IsLot (one_in : ℕ) (kinds : Kinds) (words : Stream) (lot : Lot) : Type 0 where
  pub rate : lot.one_in ≡ one_in
  pub of_kinds : lot.kinds ≡ kinds
  pub chance : words_of lot.chance ≡ words

-- one of the three kinds, or all of them, by a number below 4
abbrev pub kinds_at : ℕ → Kinds
kinds_at index =
    if nat_eq index 0 then only_kind Interrupt
    else if nat_eq index 1 then only_kind Eviction
    else if nat_eq index 2 then only_kind Snoop
    else all_kinds

-- a rate of 1, 1/2, 1/4 and so on down to 1/64, and kinds, that are drawn from these numbers
abbrev pub IsDrawnLot : Stream → Lot → Type 0
IsDrawnLot words lot =
    let rate : ℕ × Stream = below 7 words in
    let kind : ℕ × Stream = below 4 rate.1 in
    IsLot (2 ^ rate.0) (kinds_at kind.0) kind.1 lot

abbrev pub IsLotOf : Events → Stream → Option Lot → Type 0
IsLotOf Never words lot = lot ≡ None
IsLotOf (Rate one_in kinds) words lot = MatchOption lot ⊥ (IsLot (max 1 one_in) kinds words)
IsLotOf Draw words lot = MatchOption lot ⊥ (IsDrawnLot words)

-- the events of the run of this number
abbrev pub AreEventsOf : Events → ℕ → ℕ → Option Lot → Type 0
AreEventsOf events seed run lot = IsLotOf events (generator_of (number_of_events seed run)) lot
