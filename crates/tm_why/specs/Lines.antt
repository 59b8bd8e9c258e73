-- The line that tells why a core's next step is an abort (docs/FORMATS.md, "Debugger"; docs/GDB.md).
use Rattle.std.specs.Prelude.{ℕ, Bool, ◌||◌, not, if◌then◌else◌, List, [], ◌++◌, codes, Option, Some, None}
use Rattle.std.specs.Fmt.{decimal}
use Rattle.std.specs.Option.{is_some}
use Rattle.text_out.specs.Number.{eight_digits, hex_digits}
use Rattle.text_out.specs.TextLine.{line_end}
use Rattle.tm_hist.specs.Lines.{stop_word}
use Rattle.tm_model.specs.declared.explain.AbortReason.{AbortReason}
use Rattle.tm_model.specs.declared.explain.AbortReason.TheVariants as cause
use Rattle.tm_sets.specs.declared.interface.Kind.{Kind}
use Rattle.tm_sets.specs.declared.interface.Kind.TheVariants.{Read, Write}
use Rattle.tm_why.specs.declared.reason.Reason.{Reason}
use Rattle.tm_why.specs.declared.row.StandingHit.{StandingHit}

abbrev pub cause_word : AbortReason → List ℕ
cause_word cause.Conflict = codes "conflict"
cause_word (cause.Capacity kind line) = codes "capacity"
cause_word cause.Nest = codes "nested deeper than 7"
cause_word (cause.Explicit argument) = codes "xabort"
cause_word cause.Breakpoint = codes "#BP"
cause_word (cause.Stop stop) = stop_word stop
cause_word cause.NotAllowed = codes "not in a transaction"

-- how a step of another core hit
abbrev pub use_word : Kind → List ℕ
use_word Read = codes ": read at step "
use_word Write = codes ": written at step "

-- a store that had been pending reached memory, or else the step itself used the line
abbrev pub hit_word : StandingHit → List ℕ
hit_word hit = if hit.is_drain then codes ": drained at step " else use_word hit.hit.kind

-- whether it is known by which instruction the step hit: of a drain, where it is known which step stored
abbrev pub is_placed : StandingHit → Bool
is_placed hit = not hit.is_drain || is_some hit.stored

-- its address
abbrev pub place_words : StandingHit → List ℕ
place_words hit = if is_placed hit then codes " at " ++ eight_digits hit.eip else []

-- of a drain, the step that made the store
abbrev pub stored_words : Option ℕ → List ℕ
stored_words None = []
stored_words (Some step) = codes ", stored at step " ++ decimal step

-- the line that was hit, and the step that did it: its number, its core, and the address of its instruction, which of
-- a drain is that of the step that stored
abbrev pub hit_words : Option StandingHit → List ℕ
hit_words None = []
hit_words (Some hit) =
    codes " line " ++ hex_digits hit.hit.line ++ hit_word hit ++ decimal hit.step ++ codes " by core "
    ++ decimal hit.core ++ place_words hit ++ stored_words hit.stored

-- the step that began the transaction
abbrev pub begun_words : Option ℕ → List ℕ
begun_words None = []
begun_words (Some step) = codes "; begun at step " ++ decimal step

abbrev pub reason_line : ℕ → Reason → List ℕ
reason_line core why =
    codes "core " ++ decimal core ++ codes ": " ++ cause_word why.cause ++ hit_words why.transaction.hit
    ++ begun_words why.transaction.begun ++ line_end
