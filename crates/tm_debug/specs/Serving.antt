-- What a session answers to all lines of its input, one after another (docs/FORMATS.md, "Debugger").
use Rattle.std.specs.Prelude.{⊤, ◌≡◌, ◌⊎◌, ℕ, ◌==◌, ◌<◌, ◌≤◌, Bool, true, false, List, [], ◌∷◌, ◌++◌, codes, length}
use Rattle.std.specs.Prelude.{nat_lt, Option, Some, Result, Ok, Err}
use Rattle.std.specs.List.{prefix_len}
use Rattle.ia_lex.specs.Chars.{differs}
use Rattle.ia_lex.specs.Lines.{lines_of}
use Rattle.text_out.specs.Writing.{Device, Rose, Stopped, Writes, Wrote}
use Rattle.tm_hist.specs.Board.{ShownBoard as Board}
use Rattle.debug_command.specs.declared.command.DebugCommand.{DebugCommand}
use Rattle.debug_command.specs.declared.command.DebugCommand.TheVariants.{Quit}
use Rattle.debug_command.specs.declared.command.DebugCommand.TheVariants as command
use Rattle.debug_command.specs.declared.refusal.CommandRefusal.{CommandRefusal}
use Rattle.debug_command.specs.declared.refusal.CommandRefusal.TheVariants.{LongLine}
use Rattle.symbols.specs.declared.symbol.Symbol.{Symbol}
use Rattle.tm_debug.specs.declared.line.InputLine.{InputLine}
use Rattle.tm_debug.specs.declared.line.InputLine.TheVariants as read
use Rattle.tm_debug.specs.declared.line.LineStart.{LineStart}
use Rattle.tm_debug.specs.declared.session.Request.{Request}
use Rattle.tm_debug.specs.declared.session.Request.TheVariants.{Nothing, Refuse, Do}
use Rattle.tm_debug.specs.declared.session.SessionFault.{SessionFault}
use Rattle.tm_debug.specs.declared.session.SessionFault.TheVariants as fault
use Rattle.tm_debug.specs.declared.interruption.Interruption.{Interruption}
use Rattle.tm_debug.specs.declared.interruption.Interruption.TheVariants as interruption
use Rattle.debug_command.specs.declared.manner.Manner.{Manner}
use Rattle.debug_command.specs.declared.manner.Manner.TheVariants.{Plain, Spoken}
use Rattle.debug_command.specs.Commands.{command_of}
use Rattle.debug_command.specs.Refusals.{refusal_line}
use Rattle.tm_debug.specs.Session.{Answers, AnswersBroken, AnswerStopped, SessionValue, bye_line}
use Rattle.debug_command.specs.Words.{first_word}

abbrev pub request_by : Bool → Bool → Result DebugCommand CommandRefusal → Request
request_by true blank read = Refuse LongLine
request_by false true read = Nothing
request_by false false (Err refusal) = Refuse refusal
request_by false false (Ok command) = Do command

-- by these symbols, a line of more than 256 bytes is refused, one without words requests nothing, and each other one is
-- a command
unfoldable pub request_of : List Symbol → List ℕ → Request
request_of symbols line =
    request_by (nat_lt 256 (length line)) (length (first_word line) == 0) (command_of symbols line)

-- the end of the input is as quit
abbrev pub first_request : List Symbol → List (List ℕ) → Request
first_request symbols [] = Do Quit
first_request symbols (line ∷ lines) = request_of symbols line

-- the answer to a line
abbrev pub Responds : Request → SessionValue → List ℕ → SessionValue → Type 0
Responds Nothing from text to = (text ≡ []) × (to ≡ from)
Responds (Refuse refusal) from text to = (text ≡ refusal_line from.manner refusal) × (to ≡ from)
Responds (Do command) from text to = Answers command from text to

-- what stands of the answer to a line where the writing of it failed
abbrev pub RespondsBroken : Request → SessionValue → Device → Device → SessionValue → Type 0
RespondsBroken Nothing from old new to = ⊥
RespondsBroken (Refuse refusal) from old new to =
    AnswerStopped (λ text after. (text ≡ refusal_line from.manner refusal) × (after ≡ from)) old new to
RespondsBroken (Do command) from old new to = AnswersBroken command from old new to

-- ---- the prompt, which a spoken session writes before each line is read

abbrev pub prompt_text : List ℕ
prompt_text = codes "elide> "

-- an answer, and the prompt for the next line behind it
abbrev pub Prompted : Manner → (List ℕ → SessionValue → Type 0) → List ℕ → SessionValue → Type 0
Prompted Plain answer text to = answer text to
Prompted Spoken answer text to = (told : List ℕ) × answer told to × (text ≡ told ++ prompt_text)

-- the answer was written whole, but the prompt was not
abbrev pub PromptStopped : (List ℕ → SessionValue → Type 0) → Device → Device → SessionValue → Type 0
PromptStopped answer old new to =
    (told : List ℕ) × (between : Device) × answer told to × Wrote old between told × Stopped between new prompt_text

-- what stands of an answer and its prompt where the writing of either failed
abbrev pub PromptedBroken : Manner → (List ℕ → SessionValue → Type 0)
    → (Device → Device → SessionValue → Type 0) → Device → Device → SessionValue → Type 0
PromptedBroken Plain answer broken old new to = broken old new to
PromptedBroken Spoken answer broken old new to = broken old new to ⊎ PromptStopped answer old new to

abbrev pub Replies : Request → SessionValue → List ℕ → SessionValue → Type 0
Replies request from text to = Prompted from.manner (Responds request from) text to

abbrev pub RepliesBroken : Request → SessionValue → Device → Device → SessionValue → Type 0
RepliesBroken request from old new to =
    PromptedBroken from.manner (Responds request from) (RespondsBroken request from) old new to

-- the answer to the line that was read last was not written whole, with its prompt; none comes behind that to `quit`
abbrev pub LastBroken : Request → SessionValue → Device → Device → SessionValue → Type 0
LastBroken request from old new to = ((request ≡ Do Quit) × RespondsBroken request from old new to)
    ⊎ ((request ≡ Do Quit → ⊥) × RepliesBroken request from old new to)

-- a prompt is written in a spoken session alone
abbrev pub Prompts : {E : Type 0} → Manner → Device → Device → Result (Unit {0}) E → Type 0
Prompts Plain old new result = (result ≡ Ok tt) × (new ≡ old)
Prompts Spoken old new result = Writes old new prompt_text result

-- what a session does behind its first prompt
abbrev pub BehindPrompt : Manner → Device → (Device → Type 0) → Type 0
BehindPrompt Plain old session = session old
BehindPrompt Spoken old session = (between : Device) × Wrote old between prompt_text × session between

-- the answers to lines, one after another, none of which ends the session
pub record First (more : SessionValue → List ℕ → SessionValue → Type 0) (line : List ℕ) (from : SessionValue)
    (text : List ℕ) (to : SessionValue) : Type 0 where
  pub between : SessionValue
  pub answer : List ℕ
  pub others : List ℕ
  pub stays : request_of from.symbols line ≡ Do Quit → ⊥
  pub replies : Replies (request_of from.symbols line) from answer between
  pub go_on : more between others to
  pub whole : text ≡ answer ++ others

abbrev pub AnswersLines : List (List ℕ) → SessionValue → List ℕ → SessionValue → Type 0
AnswersLines [] from text to = (text ≡ []) × (to ≡ from)
AnswersLines (line ∷ lines) from text to = First (AnswersLines lines) line from text to

-- of an input all but the rest was read: these lines, and the last one, which is none at the end of the input
pub record LinesRead (xs rest : List ℕ) (front last : List (List ℕ)) : Type 0 where
  pub read : List ℕ
  pub whole : xs ≡ read ++ rest
  pub lines : lines_of xs ≡ lines_of read ++ lines_of rest
  pub split : lines_of read ≡ front ++ last
  pub one : (length last ≡ 1) ⊎ ((last ≡ []) × (rest ≡ []))

-- a whole session: the lines up to the first that ends it, with the rest not read, and the parting word
pub record Serves (xs rest : List ℕ) (from : SessionValue) (text : List ℕ) (to : SessionValue) : Type 0 where
  pub front : List (List ℕ)
  pub last : List (List ℕ)
  pub taken : LinesRead xs rest front last
  pub told : List ℕ
  pub went : AnswersLines front from told to
  pub ends : first_request to.symbols last ≡ Do Quit
  pub whole : text ≡ told ++ bye_line

-- no byte of these is a line feed
abbrev pub HasNoFeed : List ℕ → Type 0
HasNoFeed xs = prefix_len (differs 10) xs ≡ length xs

-- a session whose input failed before the rest: the lines that were read whole were answered, and nothing more was done
pub record ServesRead (xs rest : List ℕ) (from : SessionValue) (text : List ℕ) (to : SessionValue) : Type 0 where
  -- the lines, and what was read of the next
  pub read : List ℕ
  pub begun : List ℕ
  pub whole : xs ≡ read ++ (begun ++ rest)
  pub lines : lines_of xs ≡ lines_of read ++ lines_of (begun ++ rest)
  pub no_feed : HasNoFeed begun
  pub went : AnswersLines (lines_of read) from text to

-- a session that failed to write: the answers to the lines before the last that was read were written whole, and of its
-- own what `LastBroken` says
pub record ServesWrite (xs rest : List ℕ) (from : SessionValue) (old new : Device) (to : SessionValue) : Type 0 where
  pub front : List (List ℕ)
  pub last : List (List ℕ)
  pub taken : LinesRead xs rest front last
  pub told : List ℕ
  pub before : SessionValue
  pub between : Device
  pub went : AnswersLines front from told before
  pub wrote : Wrote old between told
  pub broken : LastBroken (first_request before.symbols last) before between new to

-- a session that went to its end, where the input tells its bytes: the answers to its lines up to the one that ends it
-- were written, nothing behind that was read, and this board is the one after the steps that they tell
abbrev pub ServesInput : Option (List ℕ) → Option (List ℕ) → SessionValue → Device → Device → Board → Type 0
ServesInput input left from old new board = (xs : List ℕ) → input ≡ Some xs → (rest : List ℕ) × (text : List ℕ)
    × (to : SessionValue) × (left ≡ Some rest) × Serves xs rest from text to × (to.board ≡ board) × Wrote old new text

-- a session whose input failed: the answers to the lines that were read stand written, and the board has made their
-- steps and no other
abbrev pub FailsToRead : Option (List ℕ) → Option (List ℕ) → SessionValue → Device → Device → Board → Type 0
FailsToRead input left from old new board = (xs : List ℕ) → input ≡ Some xs → (rest : List ℕ) × (text : List ℕ)
    × (to : SessionValue) × (left ≡ Some rest) × ServesRead xs rest from text to × (to.board ≡ board)
    × Wrote old new text

-- a session that failed to write: at most a rest of the answer to the last line that was read is missing, and the board
-- has made the steps of the lines before it and those that this answer tells
abbrev pub FailsToWrite : Option (List ℕ) → Option (List ℕ) → SessionValue → Device → Device → Board → Type 0
FailsToWrite input left from old new board = (xs : List ℕ) → input ≡ Some xs → (rest : List ℕ) × (to : SessionValue)
    × (left ≡ Some rest) × ServesWrite xs rest from old new to × (to.board ≡ board)

-- a session in this manner that failed to write: the first prompt too may not stand there whole, and then no line was
-- read
abbrev pub FailsToWriteIn : Manner → Option (List ℕ) → Option (List ℕ) → SessionValue → Device → Device → Board → Type 0
FailsToWriteIn Plain input left from old new board = FailsToWrite input left from old new board
FailsToWriteIn Spoken input left from old new board =
    (Stopped old new prompt_text × (left ≡ input) × (board ≡ from.board))
    ⊎ BehindPrompt Spoken old (λ between. FailsToWrite input left from between new board)

-- the commands that take memory: a core's sets, and to take steps back and to tell why a core aborts, which make a
-- board of their own
abbrev pub TakesMemory : DebugCommand → Type 0
TakesMemory (command.Sets core) = ⊤
TakesMemory (command.Why core) = ⊤
TakesMemory (command.Back count) = ⊤
TakesMemory (command.Step core event) = ⊥
TakesMemory (command.Run number) = ⊥
TakesMemory (command.Next number) = ⊥
TakesMemory (command.Break address) = ⊥
TakesMemory (command.Clear address) = ⊥
TakesMemory (command.Regs core) = ⊥
TakesMemory (command.Pending core) = ⊥
TakesMemory (command.Mem at number) = ⊥
TakesMemory (command.List at number) = ⊥
TakesMemory command.Help = ⊥
TakesMemory command.Quit = ⊥

abbrev pub WantsMemory : Request → Type 0
WantsMemory (Do command) = TakesMemory command
WantsMemory Nothing = ⊥
WantsMemory (Refuse refusal) = ⊥

-- the lines before the last that was read, whose answer takes memory, were answered
pub record ServesBefore (xs rest : List ℕ) (from : SessionValue) (text : List ℕ) (to : SessionValue) : Type 0 where
  pub front : List (List ℕ)
  pub last : List (List ℕ)
  pub taken : LinesRead xs rest front last
  pub went : AnswersLines front from text to
  pub wants : WantsMemory (first_request to.symbols last)

-- a session that found no memory for the answer to a line: the answers to those before it were written
abbrev pub FindsNoMemory : Option (List ℕ) → Option (List ℕ) → SessionValue → Device → Device → Board → Type 0
FindsNoMemory input left from old new board = (xs : List ℕ) → input ≡ Some xs → (rest : List ℕ) × (text : List ℕ)
    × (to : SessionValue) × (left ≡ Some rest) × ServesBefore xs rest from text to × (to.board ≡ board)
    × Wrote old new text

-- ---- what a session gives back

-- the devices of a session: how often its input has failed, what is left of it where it tells its bytes, and its output
pub record Devices : Type 0 where
  pub failed : ℕ
  pub left : Option (List ℕ)
  pub out : Device

abbrev pub devices : ℕ → Option (List ℕ) → Device → Devices
devices failed left out = record { failed = failed; left = left; out = out }

-- a session in this manner from this state, by what it gives back: it went to its end, its input or its output failed,
-- whose count of failures rose, or it found no memory
abbrev pub IsSession : Manner → SessionValue → Devices → Devices → Result Board SessionFault → Type 0
IsSession manner from old new (Ok board) =
    BehindPrompt manner old.out (λ begun. ServesInput old.left new.left from begun new.out board)
IsSession manner from old new (Err (fault.Read board)) =
    Rose old.failed new.failed
    × BehindPrompt manner old.out (λ begun. FailsToRead old.left new.left from begun new.out board)
IsSession manner from old new (Err (fault.Write board)) =
    Rose old.out.failures new.out.failures × FailsToWriteIn manner old.left new.left from old.out new.out board
IsSession manner from old new (Err (fault.NoMemory board)) =
    BehindPrompt manner old.out (λ begun. FindsNoMemory old.left new.left from begun new.out board)

-- what is given back where lines were answered, and this board stands then
abbrev pub given_back : Result (Unit {0}) Interruption → Board → Result Board SessionFault
given_back (Ok done) board = Ok board
given_back (Err interruption.Read) board = Err (fault.Read board)
given_back (Err interruption.Write) board = Err (fault.Write board)
given_back (Err interruption.NoMemory) board = Err (fault.NoMemory board)

-- ---- lines as they are read

-- these bytes are what is kept of a line so far
abbrev pub is_kept : Bool → List ℕ → List ℕ → Type 0
is_kept false row taken = (row ≡ taken) × (length taken ≤ 257)
is_kept true row taken = 257 < length taken

abbrev pub IsKept : List ℕ → LineStart → Type 0
IsKept taken start = is_kept start.long start.row.items taken

-- a line of this text was read
abbrev pub IsLine : List ℕ → InputLine → Type 0
IsLine line read.End = ⊥
IsLine line (read.Text row) = (row.items ≡ line) × (length line ≤ 256)
IsLine line read.Long = 256 < length line

-- at the end of the input a line of these bytes was read, or none
abbrev pub IsLast : List ℕ → InputLine → Type 0
IsLast text line = ((line ≡ read.End) × (text ≡ [])) ⊎ ((0 < length text) × IsLine text line)

-- these bytes are one line, whatever follows; or nothing follows
abbrev pub IsEnded : List ℕ → List ℕ → List ℕ → Type 0
IsEnded bytes text rest = ((rest ≡ []) × (lines_of bytes ≡ text ∷ []))
    ⊎ ((zs : List ℕ) → lines_of (bytes ++ zs) ≡ text ∷ lines_of zs)

-- the first line of xs has this text, and ys are behind it
pub record FirstLine (text xs ys : List ℕ) : Type 0 where
  pub bytes : List ℕ
  pub split : xs ≡ bytes ++ ys
  pub ended : IsEnded bytes text ys

-- the first line of xs was read, and ys are left
abbrev pub ReadsLine : InputLine → List ℕ → List ℕ → Type 0
ReadsLine line xs ys = ((line ≡ read.End) × (xs ≡ []) × (ys ≡ []))
    ⊎ ((text : List ℕ) × IsLine text line × FirstLine text xs ys)

-- no line of xs was read to its end, and ys are left
pub record BeginsLine (xs ys : List ℕ) : Type 0 where
  pub begun : List ℕ
  pub split : xs ≡ begun ++ ys
  pub no_feed : HasNoFeed begun
