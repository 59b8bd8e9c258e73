-- A number by which states that may be the same are found: a function of what is shown of a state, so that states that
-- are the same have the same number. Which one it is matters to nothing, since states of one number are compared.
use Rattle.std.specs.Prelude.{ℕ, zero, suc, ◌+◌, ◌*◌, ◌/◌, ◌%◌, ◌^◌, if◌then◌else◌, List, [], ◌∷◌, bit_xor, length}
use Rattle.std.specs.Prelude.{nat_eq, nat_lt}
use Rattle.std.specs.Prelude.{slice_index}
use Rattle.std.specs.Int.{w64, from_le_bytes, rotate_left}
use Rattle.std.specs.List.{fold}
use Rattle.ia_regs.specs.declared.Regs.{Regs}
use Rattle.tm_core.specs.Theorem.{pending_at}
use Rattle.tm_model.specs.Shown.{View}
use Rattle.tm_model.specs.State.{Pending}
use Rattle.tm_model.specs.Types.{Store}
use Rattle.tm_model.specs.declared.outcome.CoreState.{CoreState}
use Rattle.tm_model.specs.declared.outcome.CoreState.TheVariants.{Running, Mid, Open, Condemned, Stopped as AtStop}
use Rattle.tm_outcomes.specs.declared.place.Place.{Place}
use Rattle.tm_outcomes.specs.declared.written.Written.{Written}

-- a number that has taken up a word
unfoldable pub mixed : ℕ → ℕ → ℕ
mixed digest word = rotate_left w64 ((bit_xor digest word * 11400714819323198485) % 2 ^ 64) 29

-- ---- memory

-- the eight bytes of memory from an address on
unfoldable pub word_in : List ℕ → ℕ → ℕ
word_in memory at =
    from_le_bytes w64
    (slice_index memory at ∷ slice_index memory (at + 1) ∷ slice_index memory (at + 2) ∷ slice_index memory (at + 3)
    ∷ slice_index memory (at + 4) ∷ slice_index memory (at + 5) ∷ slice_index memory (at + 6)
    ∷ slice_index memory (at + 7) ∷ [])

-- the word at an address with its place, where it is not the same in another memory
abbrev pub mixed_word : List ℕ → List ℕ → ℕ → ℕ → ℕ
mixed_word memory other digest at =
    if nat_eq (word_in memory at) (word_in other at) then digest else mixed (mixed digest (at / 8)) (word_in memory at)

-- so many words from an address on
abbrev pub mixed_words : List ℕ → List ℕ → ℕ → ℕ → ℕ → ℕ
mixed_words memory other digest start zero = digest
mixed_words memory other digest start (suc count) =
    mixed_word memory other (mixed_words memory other digest start count) (start + count * 8)

-- those of a line of 64 bytes, where both memories have it whole
abbrev pub mixed_line : List ℕ → List ℕ → ℕ → ℕ → ℕ
mixed_line memory other digest line =
    if nat_lt (length memory) (line * 64 + 64) then digest
    else if nat_lt (length other) (line * 64 + 64) then digest
    else mixed_words memory other digest (line * 64) 8

-- those of some lines
abbrev pub mixed_lines : List ℕ → List ℕ → ℕ → List ℕ → ℕ
mixed_lines memory other digest lines = fold (mixed_line memory other) digest lines

-- ---- cores

abbrev pub mode_number : CoreState → ℕ
mode_number Running = 0
mode_number Mid = 1
mode_number (Open depth) = 2 + depth % 8
mode_number (Condemned depth) = 10 + depth % 8
mode_number (AtStop stop) = 18

abbrev pub mixed_regs : ℕ → Regs → ℕ
mixed_regs digest regs = fold mixed (mixed digest (regs.eip * 2 ^ 32 + regs.flags.0)) regs.gpr

-- what is shown of a core besides what it does and its registers before a transaction
abbrev pub mixed_rest : ℕ → View → CoreState → ℕ
mixed_rest digest view Running = digest
mixed_rest digest view Mid = mixed digest view.kept
mixed_rest digest view (Open depth) = mixed_regs digest view.regs
mixed_rest digest view (Condemned depth) = digest
mixed_rest digest view (AtStop stop) = digest

abbrev pub mixed_core : ℕ → View → ℕ
mixed_core digest view = mixed_rest (mixed_regs (mixed digest (mode_number view.mode)) view.base) view view.mode

abbrev pub mixed_cores : ℕ → List View → ℕ
mixed_cores digest views = fold mixed_core digest views

-- ---- stores that are pending

abbrev pub mixed_store : ℕ → Store → ℕ
mixed_store digest store = mixed digest (store.value * 2 ^ 32 + store.addr)

abbrev pub mixed_pending : ℕ → Pending → ℕ
mixed_pending digest pending = fold mixed_store digest pending

-- of so many cores
abbrev pub mixed_buffers : (ℕ → Pending) → ℕ → ℕ → ℕ
mixed_buffers pending_of digest zero = digest
mixed_buffers pending_of digest (suc count) =
    mixed_pending (mixed_buffers pending_of digest count) (pending_of count)

-- ---- of a state, whose memory is another one but on some lines

abbrev pub digest_by : Written → Place → ℕ
digest_by written place =
    mixed_buffers (pending_at place.machine)
    (mixed_cores (mixed_lines place.machine.memory written.opening.items 0 written.lines.items) place.machine.views)
    (length place.machine.views)
