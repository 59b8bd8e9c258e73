-- What a manner of picking shows: the kinds of the events of its list, if it has one, and whose turn it is.
use Rattle.std.specs.Prelude.{ℕ, ◌||◌, Bool, true, false, Option, Some, None}
use Rattle.tm_pick.specs.Kinds.{no_kinds}
use Rattle.tm_pick.specs.declared.kinds.Kinds.{Kinds}
use Rattle.tm_pick.specs.declared.manner.Manner.{Manner}
use Rattle.tm_pick.specs.declared.manner.Manner.TheVariants.{InTurn, Uniform, Bursts, Priorities, Seen, Front}

-- those of the list, where the steps are listed
abbrev pub kinds_listed : Manner → Kinds
kinds_listed (InTurn turn) = no_kinds
kinds_listed (Uniform chance) = no_kinds
kinds_listed (Bursts bursts) = no_kinds
kinds_listed (Priorities priorities) = no_kinds
kinds_listed (Seen seen) = no_kinds
kinds_listed (Front front) = front

-- whether its steps are listed
abbrev pub is_listed : Manner → Bool
is_listed (InTurn turn) = false
is_listed (Uniform chance) = false
is_listed (Bursts bursts) = false
is_listed (Priorities priorities) = false
is_listed (Seen seen) = false
is_listed (Front front) = true

-- behind which core it goes on, where it goes round by round from its first step on
abbrev pub turn_of : Manner → Option (Option ℕ)
turn_of (InTurn turn) = Some turn.last
turn_of (Uniform chance) = None
turn_of (Bursts bursts) = None
turn_of (Priorities priorities) = None
turn_of (Seen seen) = None
turn_of (Front front) = None

-- both
abbrev pub both_kinds : Kinds → Kinds → Kinds
both_kinds kinds others = record {
  interrupt = kinds.interrupt || others.interrupt;
  eviction = kinds.eviction || others.eviction;
  snoop = kinds.snoop || others.snoop;
  drain = kinds.drain || others.drain;
}
