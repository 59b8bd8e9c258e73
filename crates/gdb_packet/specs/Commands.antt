-- What packets tell (gdb manual, appendix E.2, "Packets"): by the first letter, and the text behind it.
use Rattle.std.specs.Prelude.{◌≡◌, ℕ, ◌==◌, false, ◌++◌, if◌then◌else◌, nat_eq, List, [], ◌∷◌, codes, IfSome}
use Rattle.std.specs.Prelude.{Option, Some, None}
use Rattle.std.specs.List.{starts_with}
use Rattle.std.specs.Cmp.Lexicographic.{pointwise}
use Rattle.gdb_packet.specs.declared.command.Command.{Command}
use Rattle.gdb_packet.specs.declared.command.Command.TheVariants.{Ask, Move, Set}
use Rattle.gdb_packet.specs.declared.command.Move.{Move as Moved}
use Rattle.gdb_packet.specs.declared.command.Move.TheVariants as move
use Rattle.gdb_packet.specs.declared.command.Point.{Point}
use Rattle.gdb_packet.specs.declared.command.PointKind.{PointKind}
use Rattle.gdb_packet.specs.declared.command.PointKind.TheVariants.{Break, Watch}
use Rattle.gdb_packet.specs.declared.command.Question.{Question}
use Rattle.gdb_packet.specs.declared.command.Question.TheVariants as question
use Rattle.gdb_packet.specs.declared.command.Setting.{Setting}
use Rattle.gdb_packet.specs.declared.command.Setting.TheVariants as setting
use Rattle.gdb_packet.specs.declared.command.Span.{Span}
use Rattle.gdb_packet.specs.Actions.{IsToldMove, actions_in, told_actions}
use Rattle.gdb_packet.specs.Numbers.{number_in}
use Rattle.gdb_packet.specs.Parts.{first_part, other_parts}

-- an address and a count, behind a comma
abbrev pub span_of : Option ℕ → Option ℕ → Option Span
span_of None count = None
span_of (Some at) None = None
span_of (Some at) (Some count) = Some (record { at = at; count = count })

abbrev pub span_in : List ℕ → Option Span
span_in text = span_of (number_in (first_part 44 text)) (number_in (other_parts 44 text))

-- a question about a number or a span, which is malformed where its text writes none
abbrev pub with_number : (ℕ → Question) → Option ℕ → Question
with_number asked None = question.Malformed
with_number asked (Some number) = asked number

abbrev pub with_span : (Span → Question) → Option Span → Question
with_span asked None = question.Malformed
with_span asked (Some span) = asked span

-- the questions of one letter: ?, g, p, m and T; D and k, which end the session; and the writes G, P, M and X
abbrev pub letter_question : ℕ → List ℕ → Option Question
letter_question letter text =
    if letter == 63 then Some question.Status
    else if letter == 103 then Some question.Registers
    else if letter == 112 then Some (with_number question.Register (number_in text))
    else if letter == 109 then Some (with_span question.Memory (span_in text))
    else if letter == 84 then Some (with_number question.IsAlive (number_in text))
    else if letter == 68 then Some question.Detach
    else if letter == 107 then Some question.Kill
    else None

abbrev pub written_question : ℕ → Option Question
written_question letter =
    if letter == 71 then Some question.WriteRegisters
    else if letter == 80 then Some question.WriteRegisters
    else if letter == 77 then Some question.WriteMemory
    else if letter == 88 then Some question.WriteMemory
    else None

-- s and c resume where the core is: one with an address is refused
abbrev pub without_address : Moved → List ℕ → Command
without_address moved [] = Move moved
without_address moved (byte ∷ others) = Ask question.Malformed

-- bs and bc
abbrev pub back_command : List ℕ → Command
back_command text =
    if pointwise nat_eq text (codes "s") then Move move.StepBack
    else if pointwise nat_eq text (codes "c") then Move move.ContinueBack
    else Ask question.Unknown

-- the thread of H: 0 for any, and so for -1, all
abbrev pub thread_in : List ℕ → Option ℕ
thread_in [] = Some 0
thread_in (byte ∷ others) =
    if pointwise nat_eq (byte ∷ others) (codes "-1") then Some 0 else number_in (byte ∷ others)

abbrev pub selected : (ℕ → Setting) → Option ℕ → Command
selected set None = Ask question.Malformed
selected set (Some thread) = Set (set thread)

-- Hg for questions and Hc for moves
abbrev pub select_command : List ℕ → Command
select_command [] = Ask question.Unknown
select_command (letter ∷ text) =
    if letter == 103 then selected setting.Select (thread_in text)
    else if letter == 99 then selected setting.SelectForMoves (thread_in text)
    else Ask question.Unknown

-- 0 for a breakpoint, 2 for a watchpoint of writes; the others are not there
abbrev pub kind_in : List ℕ → Option PointKind
kind_in text =
    if pointwise nat_eq text (codes "0") then Some Break
    else if pointwise nat_eq text (codes "2") then Some Watch
    else None

abbrev pub point_of : Option PointKind → Option Span → Option Point
point_of None span = None
point_of (Some kind) None = None
point_of (Some kind) (Some span) = Some (record { kind = kind; span = span })

abbrev pub point_in : List ℕ → Option Point
point_in text = point_of (kind_in (first_part 44 text)) (span_in (other_parts 44 text))

abbrev pub point_command : (Point → Setting) → Option Point → Command
point_command set None = Ask question.Unknown
point_command set (Some point) = Set (set point)

-- the moves and settings of one letter: s, c and b; H, Z and z
abbrev pub letter_command : ℕ → List ℕ → Option Command
letter_command letter text =
    if letter == 115 then Some (without_address move.StepSelected text)
    else if letter == 99 then Some (without_address move.ContinueSelected text)
    else if letter == 98 then Some (back_command text)
    else if letter == 72 then Some (select_command text)
    else if letter == 90 then Some (point_command setting.Insert (point_in text))
    else if letter == 122 then Some (point_command setting.Remove (point_in text))
    else None

abbrev pub asked_or : Option Question → Option Command → Option Command
asked_or None other = other
asked_or (Some asked) other = Some (Ask asked)

-- what a packet tells, where its first letter is one of these
abbrev pub known_command : List ℕ → Option Command
known_command [] = Some (Ask question.Unknown)
known_command (letter ∷ text) =
    asked_or (letter_question letter text) (asked_or (written_question letter) (letter_command letter text))

-- it moves nothing and sets nothing
abbrev pub IsQuestion : Command → Type 0
IsQuestion (Ask asked) = Unit {0}
IsQuestion (Move moved) = ⊥
IsQuestion (Set setting) = ⊥

-- what is told of a packet whose first letter is none of these
abbrev pub AsksUnlessKnown : Option Command → Command → Type 0
AsksUnlessKnown None told = IsQuestion told
AsksUnlessKnown (Some known) told = Unit {0}

-- what is told is what the packet writes; one that begins with another letter, and not with vCont and actions, asks
pub record IsToldBy (packet : List ℕ) (told : Command) : Type 0 where
  pub letters : IfSome (known_command packet) (λ known. told ≡ known)
  pub actions : (text : List ℕ) → packet ≡ codes "vCont;" ++ text → IsToldMove (told_actions (actions_in text)) told
  -- "Specifying no actions is an error"
  pub none : packet ≡ codes "vCont" → told ≡ Ask question.Malformed
  pub asks : starts_with nat_eq packet (codes "vCont;") ≡ false → AsksUnlessKnown (known_command packet) told
