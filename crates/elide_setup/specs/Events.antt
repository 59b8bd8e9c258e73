-- What `--events` says of a schedule that is drawn (docs/FORMATS.md, "Events that are drawn"): `1`, or `1/` and in how
-- many steps one comes under an event, and behind that nothing, or a colon and kinds with commas between.
use Rattle.std.specs.Prelude.{ℕ, ◌==◌, ◌&&◌, Bool, true, nat_eq, nat_le, nat_lt, List, [], ◌∷◌, length}
use Rattle.std.specs.Prelude.{codes, if◌then◌else◌, Option, Some, None, option_and_then}
use Rattle.std.specs.Cmp.Lexicographic.{pointwise}
use Rattle.std.specs.List.{after_first, before_first, position_or_len, slice_split}
use Rattle.tm_model.specs.declared.outcome.Event.{Event}
use Rattle.tm_model.specs.declared.outcome.Event.TheVariants.{Abort, Drain}
use Rattle.tm_model.specs.declared.outcome.Interference.TheVariants.{Interrupt, Eviction, Snoop}
use Rattle.tm_pick.specs.Kinds.{has_event, no_kinds}
use Rattle.tm_pick.specs.declared.events.Events.{Events}
use Rattle.tm_pick.specs.declared.events.Events.TheVariants.{Rate}
use Rattle.tm_pick.specs.declared.kinds.Kinds.{Kinds}
use Rattle.elide_program.specs.Settings.{word32}

-- ---- kinds

-- the kind of a name
abbrev pub kind_said : List ℕ → Option Event
kind_said name =
    if pointwise nat_eq name (codes "interrupt") then Some (Abort Interrupt)
    else if pointwise nat_eq name (codes "eviction") then Some (Abort Eviction)
    else if pointwise nat_eq name (codes "snoop") then Some (Abort Snoop)
    else if pointwise nat_eq name (codes "drain") then Some Drain
    else None

-- these kinds and another one
abbrev pub and_kind : Kinds → Event → Kinds
and_kind kinds (Abort Interrupt) = record kinds { interrupt = true }
and_kind kinds (Abort Eviction) = record kinds { eviction = true }
and_kind kinds (Abort Snoop) = record kinds { snoop = true }
and_kind kinds Drain = record kinds { drain = true }

-- the same, where that is none of them
abbrev pub with_kind : Kinds → Option Event → Option Kinds
with_kind kinds None = None
with_kind kinds (Some event) = if has_event kinds event then None else Some (and_kind kinds event)

-- these kinds, and those of names, each of which is a new one
abbrev pub kinds_more : Kinds → List (List ℕ) → Option Kinds
kinds_more kinds [] = Some kinds
kinds_more kinds (name ∷ names) =
    option_and_then (λ more. kinds_more more names) (with_kind kinds (kind_said name))

-- names with commas between
abbrev pub names_in : List ℕ → List (List ℕ)
names_in text = slice_split (λ b. b == 44) text

abbrev pub kinds_said : List ℕ → Option Kinds
kinds_said text = kinds_more no_kinds (names_in text)

-- ---- rates

abbrev pub interrupts : Kinds
interrupts = and_kind no_kinds (Abort Interrupt)

-- one step in 1 to 65,536
abbrev pub in_range : ℕ → Option ℕ
in_range many = if nat_le 1 many && nat_le many 65536 then Some many else None

abbrev pub one_in_said : List ℕ → Option ℕ
one_in_said text = option_and_then in_range (word32 text)

abbrev pub rate_from : Option ℕ → Option Kinds → Option Events
rate_from None kinds = None
rate_from (Some many) None = None
rate_from (Some many) (Some kinds) = Some (Rate many kinds)

-- a text before the first byte of some kind, and behind it, where there is one
abbrev pub pieces : (ℕ → Bool) → List ℕ → List ℕ × Option (List ℕ)
pieces is text =
    if nat_lt (position_or_len is text) (length text)
    then (before_first is text, Some (after_first is text))
    else (text, None)

-- interrupts, where no kinds stand behind a colon
abbrev pub kinds_behind : Option (List ℕ) → Option Kinds
kinds_behind None = Some interrupts
kinds_behind (Some text) = kinds_said text

abbrev pub rate_said : List ℕ → Option Events
rate_said text =
    rate_from (one_in_said (pieces (λ b. b == 58) text).0) (kinds_behind (pieces (λ b. b == 58) text).1)

-- each step, where no rate stands behind a slash
abbrev pub rate_behind : Option (List ℕ) → Option Events
rate_behind None = Some (Rate 1 interrupts)
rate_behind (Some text) = rate_said text

abbrev pub events_said : List ℕ → Option Events
events_said text =
    if pointwise nat_eq (pieces (λ b. b == 47) text).0 (codes "1")
    then rate_behind (pieces (λ b. b == 47) text).1
    else None
