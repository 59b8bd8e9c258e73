-- What is looked at of breakpoints and watchpoints (gdb manual, appendix E.2, `Z`).
use Rattle.std.specs.Prelude.{ℕ, ◌+◌, ◌%◌, ◌^◌, ◌==◌, ◌&&◌, ◌||◌, Bool, true, false, if◌then◌else◌, List, [], ◌∷◌, ◌++◌}
use Rattle.std.specs.Prelude.{filter, length, map, nat_le, nat_lt, not, Option, Some, None}
use Rattle.std.specs.Int.{w64, from_be_bytes}
use Rattle.std.specs.List.{list_any}
use Rattle.gdb_packet.specs.declared.command.Span.{Span}
use Rattle.tm_hist.specs.Machine.{shown_regs, shown_state}
use Rattle.tm_core.specs.Seen.{byte_seen}
use Rattle.tm_core.specs.Theorem.{ShownMachine}
use Rattle.tm_model.specs.declared.outcome.CoreState.{CoreState}
use Rattle.tm_model.specs.declared.outcome.CoreState.TheVariants as state
use Rattle.tm_gdb.specs.declared.points.Sight.{Sight}

-- ---- breakpoints

-- a core in this state executes the instruction where it is from its beginning
abbrev pub is_to_execute : CoreState → Bool
is_to_execute state.Running = true
is_to_execute (state.Open depth) = true
is_to_execute state.Mid = false
is_to_execute (state.Condemned depth) = false
is_to_execute (state.Stopped why) = false

-- a core is at a breakpoint, and is to execute the instruction there
abbrev pub stands_at : List ℕ → ShownMachine → ℕ → Bool
stands_at breaks machine core = is_to_execute (shown_state machine core)
    && list_any (λ address. address == (shown_regs machine core).eip) breaks

-- ---- watchpoints

-- a byte as a core sees it, and 0 where memory has none
abbrev pub byte_or_zero : ShownMachine → ℕ → ℕ → ℕ
byte_or_zero machine core address =
    if nat_lt address (length machine.memory) then byte_seen machine core address else 0

-- a byte of a watchpoint as a core sees it, and 0 behind its end
abbrev pub watched_byte : ShownMachine → ℕ → Span → ℕ → ℕ
watched_byte machine core span index =
    if nat_lt index span.count then byte_or_zero machine core ((span.at + index) % 2 ^ 32) else 0

-- the bytes of a watchpoint, which has at most 8, and zeros behind them
abbrev pub watched_bytes : ShownMachine → ℕ → Span → List ℕ
watched_bytes machine core span = map (watched_byte machine core span) (0 ∷ 1 ∷ 2 ∷ 3 ∷ 4 ∷ 5 ∷ 6 ∷ 7 ∷ [])

-- the number that these bytes are, the first of them the highest
unfoldable pub watched_number : ShownMachine → ℕ → Span → ℕ
watched_number machine core span = from_be_bytes w64 (watched_bytes machine core span)

-- what a core sees at a watchpoint
abbrev pub sight_of : ShownMachine → ℕ → Span → Sight
sight_of machine core span = record { span = span; value = watched_number machine core span }

abbrev pub sights : List Span → ShownMachine → ℕ → List Sight
sights watches machine core = map (sight_of machine core) watches

-- the address of the first watchpoint at which a core sees other bytes than were seen there
abbrev pub first_changed : List Sight → ShownMachine → ℕ → Option ℕ
first_changed [] machine core = None
first_changed (sight ∷ others) machine core =
    if watched_number machine core sight.span == sight.value then first_changed others machine core
    else Some sight.span.at

-- the address of the first watchpoint at which a core sees other bytes in one machine than in the other
abbrev pub changed_at : List Span → ℕ → ShownMachine → ShownMachine → Option ℕ
changed_at watches core before after = first_changed (sights watches before core) after core

-- ---- points that are set, at most 64 of each kind

abbrev pub is_span : Span → Span → Bool
is_span a b = (a.at == b.at) && (a.count == b.count)

abbrev pub set_break : List ℕ → ℕ → Option (List ℕ)
set_break breaks address =
    if list_any (λ b. b == address) breaks then Some breaks
    else if length breaks == 64 then None
    else Some (breaks ++ address ∷ [])

-- one of no bytes or more than 8 is refused
abbrev pub set_watch : List Span → Span → Option (List Span)
set_watch watches span =
    if (span.count == 0) || nat_lt 8 span.count then None
    else if list_any (λ w. is_span w span) watches then Some watches
    else if length watches == 64 then None
    else Some (watches ++ span ∷ [])

abbrev pub unset_break : List ℕ → ℕ → List ℕ
unset_break breaks address = filter (λ b. not (b == address)) breaks

abbrev pub unset_watch : List Span → Span → List Span
unset_watch watches span = filter (λ w. not (is_span w span)) watches
