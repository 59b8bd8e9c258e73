-- The line of an abort with its reason (docs/FORMATS.md, "Why a transaction aborted").
use Rattle.std.specs.Prelude.{ℕ, List, [], ◌++◌, codes, if◌then◌else◌, Option, Some, None}
use Rattle.std.specs.Fmt.{decimal}
use Rattle.ia_insn.specs.declared.op.Insn.{Insn}
use Rattle.text_out.specs.Number.{eight_digits, hex_digits}
use Rattle.ia_text.specs.Text.{insn_text}
use Rattle.text_out.specs.TextLine.{line_end}
use Rattle.tm_hist.specs.Lines.{stop_word}
use Rattle.tm_sets.specs.declared.interface.Kind.{Kind}
use Rattle.tm_sets.specs.declared.interface.Kind.TheVariants.{Read, Write}
use Rattle.tm_why.specs.Lines.{begun_words, hit_word, is_placed, stored_words}
use Rattle.tm_why.specs.declared.reason.Reason.{Reason}
use Rattle.tm_why.specs.declared.row.StandingHit.{StandingHit}
use Rattle.tm_model.specs.declared.explain.AbortReason.{AbortReason}
use Rattle.tm_model.specs.declared.explain.AbortReason.TheVariants as cause
use Rattle.elide_why.specs.Subset.{outside_text, symbols_text}
use Rattle.elide_why.specs.declared.outside.Outside.{Outside}
use Rattle.elide_why.specs.declared.words.Words.{Words}

-- a line by its number, with the symbols that stand on it, as they are shown
abbrev pub line_text : ℕ → Words → List ℕ
line_text line words = codes "line " ++ hex_digits line ++ symbols_text words.symbols.items

abbrev pub insn_words : Option Insn → ℕ → List ℕ
insn_words None at = []
insn_words (Some insn) at = insn_text insn at

-- where the instruction stands by which the step hit, where that is known: of a drain, the one that made the store
abbrev pub place_words : StandingHit → Words → List ℕ
place_words hit words = if is_placed hit then codes ", " ++ words.place.items ++ codes " " else []

abbrev pub hit_words : Option StandingHit → Words → List ℕ
hit_words None words = []
hit_words (Some hit) words =
    codes " " ++ line_text hit.hit.line words ++ hit_word hit ++ decimal hit.step
    ++ codes " by core " ++ decimal hit.core ++ place_words hit words

abbrev pub no_room_text : Kind → ℕ → Words → List ℕ
no_room_text Read line words = codes "reads: no room for " ++ line_text line words
no_room_text Write line words = codes "writes: no room for " ++ line_text line words

-- where the subset ends, the code that stands there
abbrev pub outside_words : Option Outside → List ℕ
outside_words None = []
outside_words (Some outside) = outside_text outside

abbrev pub cause_text : AbortReason → Reason → Words → List ℕ
cause_text cause.Conflict why words = codes "conflict" ++ hit_words why.transaction.hit words
cause_text (cause.Capacity kind line) why words = no_room_text kind line words
cause_text cause.Nest why words = codes "nested deeper than 7"
cause_text (cause.Explicit argument) why words = codes "xabort 0x" ++ hex_digits argument
cause_text cause.Breakpoint why words = codes "#BP"
cause_text (cause.Stop stop) why words = stop_word stop ++ outside_words words.outside
cause_text cause.NotAllowed why words = codes "not in a transaction: "

-- of a hit by a drain alone it is told which step made the store
abbrev pub stored_of : Option StandingHit → Option ℕ
stored_of None = None
stored_of (Some hit) = hit.stored

abbrev pub stored_told : AbortReason → Option StandingHit → Option ℕ
stored_told cause.Conflict hit = stored_of hit
stored_told (cause.Capacity kind line) hit = None
stored_told cause.Nest hit = None
stored_told (cause.Explicit argument) hit = None
stored_told cause.Breakpoint hit = None
stored_told (cause.Stop stop) hit = None
stored_told cause.NotAllowed hit = None

-- of a transaction that was hit alone it is told when it began
abbrev pub begun_told : AbortReason → Option ℕ → Option ℕ
begun_told cause.Conflict begun = begun
begun_told (cause.Capacity kind line) begun = None
begun_told cause.Nest begun = None
begun_told (cause.Explicit argument) begun = None
begun_told cause.Breakpoint begun = None
begun_told (cause.Stop stop) begun = None
begun_told cause.NotAllowed begun = None

-- the outcome line of an abort, which goes on with its reason, and with the instruction that the reason tells
unfoldable pub abort_front : ℕ → ℕ → Reason → Words → List ℕ
abort_front core status why words =
    decimal core ++ codes " aborted " ++ eight_digits status ++ codes " " ++ cause_text why.cause why words

unfoldable pub abort_back : Reason → List ℕ
abort_back why =
    stored_words (stored_told why.cause why.transaction.hit) ++ begun_words (begun_told why.cause why.transaction.begun)
    ++ line_end

abbrev pub abort_line : ℕ → ℕ → Reason → Words → List ℕ
abort_line core status why words =
    abort_front core status why words ++ (insn_words words.insn words.eip ++ abort_back why)
