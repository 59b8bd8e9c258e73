-- Which core steps next, by chance.
use Rattle.std.specs.Prelude.{◌≡◌, ◌≢◌, ⊤, ◌<◌, ◌+◌, ℕ, List, [], ◌∷◌, ◌++◌, Bool, true, false, Contains, length}
use Rattle.std.specs.Prelude.{slice_index}
use Rattle.rand.specs.Shuffle.{shuffled}
use Rattle.rand_core.specs.Stream.{Stream}
use Rattle.tm_pick.specs.Chances.{below, words_of}
use Rattle.tm_pick.specs.declared.bursts.Bursts.{Bursts}
use Rattle.tm_pick.specs.declared.chance.Chance.{Chance}
use Rattle.tm_pick.specs.declared.manner.Manner.{Manner}
use Rattle.tm_pick.specs.declared.manner.Manner.TheVariants as manner
use Rattle.tm_pick.specs.declared.priorities.Priorities.{Priorities}
use Rattle.tm_pick.specs.declared.rounds.Rounds.{Rounds}
use Rattle.tm_pick.specs.declared.seen.Draws.{Draws}
use Rattle.tm_pick.specs.declared.seen.Draws.TheVariants.{Each, InRounds}
use Rattle.tm_pick.specs.declared.seen.Seen.{Seen}

-- one of these, each as likely as another
abbrev pub any_of : List ℕ → Stream → ℕ × Stream
any_of going words = (slice_index going (below (length going) words).0, (below (length going) words).1)

abbrev pub IsAny : List ℕ → Stream → ℕ → Stream → Type 0
IsAny going words core behind = (core, behind) ≡ any_of going words

-- a burst goes on, but by one chance in its mean length, or where its core has stopped
abbrev pub GoesOn : Bursts → List ℕ → Type 0
GoesOn bursts going = ((below bursts.mean (words_of bursts.chance)).0 ≢ 0) × Contains going bursts.last

pub record IsOfBursts (before : Bursts) (going : List ℕ) (core : ℕ) (after : Bursts) : Type 0 where
  pub mean : after.mean ≡ before.mean
  pub last : after.last ≡ core
  pub same : GoesOn before going → (core ≡ before.last)
      × (words_of after.chance ≡ (below before.mean (words_of before.chance)).1)
  pub another : ¬ (GoesOn before going)
      → IsAny going (below before.mean (words_of before.chance)).1 core (words_of after.chance)

-- a core whose next step no other core sees goes on, for at most so many steps in a row
abbrev pub GoesUnseen : Bool → Seen → List ℕ → Type 0
GoesUnseen told seen going = (told ≡ true) × (seen.in_a_row < seen.most) × Contains going seen.last

-- The next core of a round, of those that are left of it, the next one last: one that has stopped is left out, and
-- where none is left, a new round begins, in an order by chance.
pub data IsOfRound (going : List ℕ) (words : Stream) : List ℕ → ℕ → List ℕ → Stream → Type 0 where
  is_next : {left : List ℕ} {core : ℕ} → Contains going core → IsOfRound going words (left ++ core ∷ []) core left words
  is_left_out : {left after : List ℕ} {stopped core : ℕ} {behind : Stream} → ¬ (Contains going stopped)
      → IsOfRound going words left core after behind → IsOfRound going words (left ++ stopped ∷ []) core after behind
  new_round : {after : List ℕ} {core : ℕ} {behind : Stream} → (after ++ core ∷ [], behind) ≡ shuffled going 0 words
      → IsOfRound going words [] core after behind

-- of steps that others may see
abbrev pub IsSeenDraw : Draws → List ℕ → Stream → ℕ → Draws → Stream → Type 0
IsSeenDraw Each going words core after behind = (after ≡ Each) × IsAny going words core behind
IsSeenDraw (InRounds rounds) going words core after behind =
    (next : Rounds) × (after ≡ InRounds next) × IsOfRound going words rounds.left.items core next.left.items behind

pub record IsUnseen (before : Seen) (core : ℕ) (after : Seen) : Type 0 where
  pub same : core ≡ before.last
  pub row : after.in_a_row ≡ before.in_a_row + 1
  pub draws : after.draws ≡ before.draws
  pub words : words_of after.chance ≡ words_of before.chance

pub record IsOfSeen (told : Bool) (before : Seen) (going : List ℕ) (core : ℕ) (after : Seen) : Type 0 where
  pub most : after.most ≡ before.most
  pub last : after.last ≡ core
  pub unseen : GoesUnseen told before going → IsUnseen before core after
  pub seen : ¬ (GoesUnseen told before going) → (after.in_a_row ≡ 0)
      × IsSeenDraw before.draws going (words_of before.chance) core after.draws (words_of after.chance)

-- the cores keep their order, but where one falls: at a PAUSE, behind so many steps in a row, and where it was drawn
pub record IsOfPriorities (told : Bool) (before after : Priorities) : Type 0 where
  pub most : after.most ≡ before.most
  pub in_order : told ≡ false → before.in_a_row < before.most → ¬ (Contains before.falls.items before.made)
      → after.order.items ≡ before.order.items

-- the next core of a manner that draws, which is told what it heeds of the core of the step before
abbrev pub IsPicked : Bool → Manner → List ℕ → ℕ → Manner → Type 0
IsPicked told (manner.InTurn turn) going core after = ⊤
IsPicked told (manner.Uniform chance) going core after =
    (next : Chance) × (after ≡ manner.Uniform next) × IsAny going (words_of chance) core (words_of next)
IsPicked told (manner.Bursts bursts) going core after =
    (next : Bursts) × (after ≡ manner.Bursts next) × IsOfBursts bursts going core next
IsPicked told (manner.Priorities priorities) going core after =
    (next : Priorities) × (after ≡ manner.Priorities next) × IsOfPriorities told priorities next
IsPicked told (manner.Seen seen) going core after =
    (next : Seen) × (after ≡ manner.Seen next) × IsOfSeen told seen going core next
IsPicked told (manner.Front front) going core after = ⊤
