-- What a session answers to the lines of its input, by cases on one line at a time (docs/FORMATS.md, "Debugger").
use Rattle.std.specs.Prelude.{◌≡◌, ◌⊎◌, ℕ, zero, suc, ◌+◌, ◌-◌, ◌%◌, ◌^◌, ◌<◌, ◌==◌, ◌&&◌, ◌||◌, Bool, true, false}
use Rattle.std.specs.Prelude.{not, if◌then◌else◌, List, [], ◌∷◌, ◌++◌, codes, drop, take, length, nat_eq, nat_le}
use Rattle.std.specs.Prelude.{nat_lt, Option, Some, None, is_some, Result, Ok, Err}
use Rattle.std.specs.Fmt.{decimal}
use Rattle.std.specs.List.{flat_map, list_any, position, range_with_len, remove, slice_get}
use Rattle.std.specs.List.Sorted.{IsStrictlyIncreasing}
use Rattle.std.specs.FinSet as set
use Rattle.ia_image.specs.Program.{ProgramValue as Program, code_of}
use Rattle.ia_text.specs.Listing.{shown_bytes}
use Rattle.text_out.specs.Number.{eight_digits, hex_digits}
use Rattle.text_out.specs.declared.out.WriteFault.{WriteFault}
use Rattle.text_out.specs.Writing.{Device, Stopped, Writes, Wrote}
use Rattle.tm_model.specs.declared.outcome.CoreState.{CoreState}
use Rattle.tm_model.specs.declared.outcome.CoreState.TheVariants.{Mid}
use Rattle.tm_model.specs.declared.outcome.Event.{Event}
use Rattle.tm_model.specs.declared.outcome.Outcome.{Outcome}
use Rattle.tm_model.specs.declared.outcome.Pick.{Pick}
use Rattle.tm_core.specs.Theorem.{ShownMachine as Machine, pending_at, view_at}
use Rattle.tm_hist.specs.Board.{IsHistory, IsOwedNext, SameBoard, ShownBoard as Board, stop_shown}
use Rattle.tm_hist.specs.Lines.{core_text, dump_lines, outcome_line, pending_text, state_word}
use Rattle.text_out.specs.TextLine.{line_end, number_text}
use Rattle.tm_hist.specs.Machine.{shown_regs, shown_state}
use Rattle.tm_hist.specs.Back.{IsFirst}
use Rattle.tm_why.specs.History.{IsReasonOf}
use Rattle.tm_why.specs.Lines.{reason_line}
use Rattle.tm_why.specs.declared.reason.Reason.{Reason}
use Rattle.tm_trace.specs.Deeds.{IsBefore, IsDeed}
use Rattle.tm_trace.specs.Lines.{step_line}
use Rattle.tm_trace.specs.declared.deed.Before.{Before}
use Rattle.tm_trace.specs.declared.deed.Deed.{Deed}
use Rattle.debug_command.specs.declared.command.DebugCommand.{DebugCommand}
use Rattle.debug_command.specs.declared.command.DebugCommand.TheVariants.{Step, Run, Next, Back, Break, Clear, Regs}
use Rattle.debug_command.specs.declared.command.DebugCommand.TheVariants.{Mem}
use Rattle.debug_command.specs.declared.command.DebugCommand.TheVariants.{Pending, Sets, Why}
use Rattle.debug_command.specs.declared.command.DebugCommand.TheVariants.{List as Listing, Help, Quit}
use Rattle.debug_command.specs.declared.manner.Manner.{Manner}
use Rattle.debug_command.specs.declared.manner.Manner.TheVariants.{Plain, Spoken}
use Rattle.debug_command.specs.declared.refusal.Range.TheVariants.{Addresses, Bytes, Lines, Made, Steps}
use Rattle.debug_command.specs.declared.refusal.CommandRefusal.{CommandRefusal}
use Rattle.debug_command.specs.declared.refusal.CommandRefusal.TheVariants.{LimitReached, NoSuchCore, OutOfRange}
use Rattle.debug_command.specs.declared.refusal.CommandRefusal.TheVariants.{TooManyBreakpoints}
use Rattle.tm_debug.specs.declared.interruption.Interruption.{Interruption}
use Rattle.tm_debug.specs.declared.interruption.Interruption.TheVariants as interruption
use Rattle.tm_debug.specs.declared.state.RunCheck.{RunCheck}
use Rattle.tm_debug.specs.declared.state.RunCheck.TheVariants.{AllStopped, PlanEnded, Full, NoCore, AtBreakpoint, Go}
use Rattle.tm_debug.specs.declared.state.Way.{Way}
use Rattle.tm_debug.specs.declared.state.Way.TheVariants.{AlongPlan, InTurn}
use Rattle.tm_debug.specs.declared.state.SessionState.{SessionState}
use Rattle.tm_debug.specs.Help.{help_text}
use Rattle.debug_command.specs.Places.{labelled_line, place_text}
use Rattle.debug_command.specs.Refusals.{refusal_line}
use Rattle.symbols.specs.declared.symbol.Symbol.{Symbol}

-- between two lines: how it speaks, the plan (the pick of each step), the program's symbols, by which commands write
-- addresses, its labels, by which answers tell them, the board, the breakpoints, and the number behind that of the core
-- that was stepped last, 0 before the first step
pub record SessionValue : Type 0 where
  pub manner : Manner
  pub plan : List Pick
  pub symbols : List Symbol
  pub labels : List Symbol
  pub board : Board
  pub breaks : List ℕ
  pub next : ℕ

abbrev pub value_of : SessionState → SessionValue
value_of state = record {
  manner = state.manner;
  plan = state.plan.items;
  symbols = state.names.symbols.items;
  labels = state.names.labels.items;
  board = state.board;
  breaks = state.breakpoints.items;
  next = state.next;
}

-- before the first line
abbrev pub start_in : Manner → List Pick → List Symbol → List Symbol → Board → SessionValue
start_in manner plan symbols labels board = record {
  manner = manner;
  plan = plan;
  symbols = symbols;
  labels = labels;
  board = board;
  breaks = [];
  next = 0;
}

abbrev pub start : Board → SessionValue
start board = start_in Plain [] [] [] board

abbrev pub cores_of : SessionValue → ℕ
cores_of session = length session.board.program.entries

-- ---- the lines that are answered

abbrev pub ok_line : List ℕ
ok_line = codes "ok\n"

abbrev pub bye_line : List ℕ
bye_line = codes "bye\n"

-- the labels that answers tell: those of a spoken session
abbrev pub told_in : Manner → List Symbol → List Symbol
told_in Plain labels = []
told_in Spoken labels = labels

abbrev pub told_labels : SessionValue → List Symbol
told_labels session = told_in session.manner session.labels

abbrev pub break_front : ℕ → ℕ → List ℕ
break_front core address = codes "break " ++ number_text core ++ codes " " ++ eight_digits address

abbrev pub break_line : List Symbol → ℕ → ℕ → List ℕ
break_line labels core address = break_front core address ++ (place_text labels address ++ line_end)

-- lines of a set in hex, or - for none
abbrev pub lines_text : List ℕ → List ℕ
lines_text [] = codes " -"
lines_text (x ∷ xs) = flat_map (λ l. 32 ∷ hex_digits l) (x ∷ xs)

unfoldable pub sets_head : ℕ → CoreState → List ℕ
sets_head core state = codes "sets " ++ number_text core ++ codes " " ++ state_word state ++ codes " reads"

abbrev pub sets_line : ℕ → CoreState → List ℕ → List ℕ → List ℕ
sets_line core state reads writes = sets_head core state ++ lines_text reads ++ codes " writes" ++ lines_text writes
    ++ line_end

-- so many listing lines of some code at an address, fewer at its end, with the names of labels above them
unfoldable pub some_lines : List Symbol → ℕ → List ℕ → ℕ → List ℕ
some_lines labels zero code at = []
some_lines labels (suc number) code at = labelled_line labels code at
    ++ some_lines labels number (drop (shown_bytes code) code) ((at + shown_bytes code) % 2 ^ 32)

-- ---- steps

abbrev pub is_stopped : Board → ℕ → Bool
is_stopped board core = is_some (stop_shown (shown_state board.machine core))

-- the first core from this number on that has not stopped, round by round, of so many that are asked
abbrev pub running_from : Board → ℕ → ℕ → Option ℕ
running_from board core zero = None
running_from board core (suc left) =
    if is_stopped board (core % length board.program.entries) then running_from board (core + 1) left
    else Some (core % length board.program.entries)

abbrev pub next_running : SessionValue → Option ℕ
next_running session = running_from session.board session.next (cores_of session)

-- a core is between the two steps of an instruction
abbrev pub is_midway : CoreState → Bool
is_midway Mid = true
is_midway _ = false

-- a step of a core under no event
abbrev pub plain_pick : ℕ → Pick
plain_pick core = record { core = core; event = None }

-- before a step of a run by this pick, in this order: whether the history is full, or a breakpoint stands at the
-- address that its core shows, which is not asked before the first step, nor in the midst of an instruction
abbrev pub pick_check : Pick → Bool → SessionValue → RunCheck
pick_check pick first session =
    if nat_eq (length session.board.history) session.board.limit then Full
    else if not first && not (is_midway (shown_state session.board.machine pick.core))
    && list_any (λ b. b == (shown_regs session.board.machine pick.core).eip) session.breaks
    then AtBreakpoint pick.core (shown_regs session.board.machine pick.core).eip
    else Go pick

-- in turn, first whether all cores have stopped
abbrev pub turn_check : Option ℕ → Bool → SessionValue → RunCheck
turn_check None first session = AllStopped
turn_check (Some core) first session = pick_check (plain_pick core) first session

-- along the plan, first whether it has a step behind those that are made, and of a core that there is
abbrev pub plan_check : Option Pick → Bool → SessionValue → RunCheck
plan_check None first session = PlanEnded
plan_check (Some pick) first session =
    if nat_lt pick.core (cores_of session) then pick_check pick first session else NoCore (cores_of session)

unfoldable pub run_check : Way → SessionValue → Bool → RunCheck
run_check InTurn session first = turn_check (next_running session) first session
run_check AlongPlan session first = plan_check (slice_get session.plan (length session.board.history)) first session

-- the line that ends a run
abbrev pub run_ending : SessionValue → RunCheck → List ℕ
run_ending session AllStopped = codes "all stopped\n"
run_ending session PlanEnded = codes "the schedule has ended\n"
run_ending session (NoCore count) = refusal_line session.manner (NoSuchCore count)
run_ending session Full = refusal_line session.manner LimitReached
run_ending session (AtBreakpoint core address) = break_line (told_labels session) core address
run_ending session (Go pick) = []

-- one step of a core, whose outcome is owed under the event of the pick
pub record IsStep (from : SessionValue) (pick : Pick) (outcome : Outcome) (to : SessionValue) : Type 0 where
  pub same : SameBoard from.board to.board
  pub history : to.board.history ≡ from.board.history ++ (pick.core, outcome) ∷ []
  pub under : IsOwedNext pick.event from.board pick.core outcome
  pub law : IsHistory to.board
  pub manner : to.manner ≡ from.manner
  pub plan : to.plan ≡ from.plan
  pub symbols : to.symbols ≡ from.symbols
  pub labels : to.labels ≡ from.labels
  pub breaks : to.breaks ≡ from.breaks
  pub next : to.next ≡ pick.core + 1

-- what is told of a step besides its outcome: plainly nothing, and in a spoken session what it did, by the machine
-- before it and the one behind it
abbrev pub IsTold : Manner → Board → ℕ → Outcome → Board → Option Deed → Type 0
IsTold Plain from core outcome to told = told ≡ None
IsTold Spoken from core outcome to told = (before : Before) × (deed : Deed) × (told ≡ Some deed)
    × IsBefore from.machine from.program core before × IsDeed before to.machine core outcome deed

-- the line of a step
abbrev pub told_line : List Symbol → ℕ → Outcome → Option Deed → List ℕ
told_line labels core outcome None = outcome_line core outcome
told_line labels core outcome (Some deed) = step_line labels core outcome deed

abbrev pub IsStepLine : SessionValue → ℕ → Outcome → SessionValue → List ℕ → Type 0
IsStepLine from core outcome to line = (told : Option Deed)
    × IsTold from.manner from.board core outcome to.board told × (line ≡ told_line (told_labels from) core outcome told)

-- the last of some steps of a run
pub record LastStep (way : Way) (ran : List ℕ → SessionValue → Type 0) (first : Bool) (text : List ℕ)
    (to : SessionValue) : Type 0 where
  pub before : SessionValue
  pub lines : List ℕ
  pub pick : Pick
  pub outcome : Outcome
  pub steps_before : ran lines before
  pub goes_on : run_check way before first ≡ Go pick
  pub step : IsStep before pick outcome to
  pub line : List ℕ
  pub tells : IsStepLine before pick.core outcome to line
  pub whole : text ≡ lines ++ line

-- so many steps of a run lead from p to q, with these outcome lines
abbrev pub IsRunOf : Way → ℕ → SessionValue → List ℕ → SessionValue → Type 0
IsRunOf way zero from text to = (text ≡ []) × (to ≡ from)
IsRunOf way (suc number) from text to =
    LastStep way (λ lines before. IsRunOf way number from lines before) (number == 0) text to

-- a run of n steps, or up to a test that ends it
pub record RunWhole (way : Way) (number : ℕ) (from : SessionValue) (text : List ℕ) (to : SessionValue) : Type 0 where
  pub count : ℕ
  pub lines : List ℕ
  pub tail : List ℕ
  pub ran : IsRunOf way count from lines to
  pub end : ((count ≡ number) × (tail ≡ []))
      ⊎ ((count < number) × (tail ≡ run_ending to (run_check way to (count == 0)))
      × ((pick : Pick) → run_check way to (count == 0) ≡ Go pick → ⊥))
  pub whole : text ≡ lines ++ tail

-- ---- the answer of a command at p: its text, and what it leads to

abbrev pub core_named : SessionValue → ℕ → Option ℕ
core_named session core = if nat_lt core (cores_of session) then Some core else None

-- the pick of a core that is there
abbrev pub pick_named : SessionValue → ℕ → Option Event → Option Pick
pick_named session core event =
    if nat_lt core (cores_of session) then Some (record { core = core; event = event }) else None

abbrev pub step_by : SessionValue → Option Pick → List ℕ → SessionValue → Type 0
step_by from None text to = (text ≡ refusal_line from.manner (NoSuchCore (cores_of from))) × (to ≡ from)
step_by from (Some pick) text to =
    ((length from.board.history ≡ from.board.limit) × (text ≡ refusal_line from.manner LimitReached) × (to ≡ from))
    ⊎ ((outcome : Outcome) × IsStep from pick outcome to × IsStepLine from pick.core outcome to text)

abbrev pub StepAnswer : SessionValue → ℕ → Option Event → List ℕ → SessionValue → Type 0
StepAnswer from core event text to = step_by from (pick_named from core event) text to

-- the step of a pick whose turn it is
abbrev pub GoAnswer : SessionValue → Pick → List ℕ → SessionValue → Type 0
GoAnswer from pick text to =
    (outcome : Outcome) × IsStep from pick outcome to × IsStepLine from pick.core outcome to text

-- 1 to 100000 steps
abbrev pub run_by : Bool → Way → ℕ → SessionValue → List ℕ → SessionValue → Type 0
run_by true way number from text to = RunWhole way number from text to
run_by false way number from text to = (text ≡ refusal_line from.manner (OutOfRange Steps)) × (to ≡ from)

abbrev pub is_run_length : ℕ → Bool
is_run_length number = nat_le 1 number && nat_le number 100000

abbrev pub RunAnswer : Way → ℕ → SessionValue → List ℕ → SessionValue → Type 0
RunAnswer way number from text to = run_by (is_run_length number) way number from text to

-- the line behind some steps of a run: that of one more step, or the one that a test ends the run with
abbrev pub NextLine : RunCheck → SessionValue → List ℕ → SessionValue → Type 0
NextLine (Go pick) from line to = GoAnswer from pick line to
NextLine AllStopped from line to = (line ≡ run_ending from AllStopped) × (to ≡ from)
NextLine PlanEnded from line to = (line ≡ run_ending from PlanEnded) × (to ≡ from)
NextLine (NoCore count) from line to = (line ≡ run_ending from (NoCore count)) × (to ≡ from)
NextLine Full from line to = (line ≡ run_ending from Full) × (to ≡ from)
NextLine (AtBreakpoint core address) from line to = (line ≡ run_ending from (AtBreakpoint core address))
    × (to ≡ from)

-- a run of n steps that was broken off: the lines of some steps were written, and a beginning of the next line
pub record RunBroken (way : Way) (number : ℕ) (from : SessionValue) (old new : Device) (to : SessionValue)
    : Type 0 where
  pub count : ℕ
  pub below : count < number
  pub lines : List ℕ
  pub before : SessionValue
  pub ran : IsRunOf way count from lines before
  pub between : Device
  pub wrote : Wrote old between lines
  pub last : List ℕ
  pub next_line : NextLine (run_check way before (count == 0)) before last to
  pub stopped : Stopped between new last

-- a beginning of an answer was written
abbrev pub AnswerStopped : (List ℕ → SessionValue → Type 0) → Device → Device → SessionValue → Type 0
AnswerStopped answer old new to = (text : List ℕ) × answer text to × Stopped old new text

abbrev pub run_broken_by : Bool → Way → ℕ → SessionValue → Device → Device → SessionValue → Type 0
run_broken_by true way number from old new to = RunBroken way number from old new to
run_broken_by false way number from old new to =
    AnswerStopped (λ text after. (text ≡ refusal_line from.manner (OutOfRange Steps)) × (after ≡ from)) old new to

abbrev pub RunAnswerBroken : Way → ℕ → SessionValue → Device → Device → SessionValue → Type 0
RunAnswerBroken way number from old new to = run_broken_by (is_run_length number) way number from old new to

-- the number of 8 bits behind that of the core of a step
abbrev pub next_by : Option (ℕ × Outcome) → ℕ
next_by None = 0
next_by (Some pair) = (pair.0 + 1) % 2 ^ 8

-- how many steps are made
abbrev pub made_line : ℕ → List ℕ
made_line made = codes "at step " ++ decimal made ++ line_end

-- the number behind that of the core that was stepped last, 0 before the first step
abbrev pub next_behind : List (ℕ × Outcome) → ℕ
next_behind history = next_by (slice_get history (length history - 1))

-- the last so many steps are taken back: the board is that of the steps before them, and the breakpoints stay
pub record IsBack (from : SessionValue) (count : ℕ) (to : SessionValue) : Type 0 where
  pub board : IsFirst from.board (length from.board.history - count) to.board
  pub manner : to.manner ≡ from.manner
  pub plan : to.plan ≡ from.plan
  pub symbols : to.symbols ≡ from.symbols
  pub labels : to.labels ≡ from.labels
  pub breaks : to.breaks ≡ from.breaks
  pub next : to.next ≡ next_behind to.board.history

-- 1 step or more, and no more than were made
abbrev pub is_behind : SessionValue → ℕ → Bool
is_behind session count = nat_le 1 count && nat_le count (length session.board.history)

abbrev pub back_by : Bool → SessionValue → ℕ → List ℕ → SessionValue → Type 0
back_by true from count text to = IsBack from count to × (text ≡ made_line (length from.board.history - count))
back_by false from count text to = (text ≡ refusal_line from.manner (OutOfRange Made)) × (to ≡ from)

abbrev pub BackAnswer : SessionValue → ℕ → List ℕ → SessionValue → Type 0
BackAnswer from count text to = back_by (is_behind from count) from count text to

-- ok, or the refusal
abbrev pub done_line : Manner → Result (Unit {0}) CommandRefusal → List ℕ
done_line manner (Ok done) = ok_line
done_line manner (Err refusal) = refusal_line manner refusal

abbrev pub with_breaks : SessionValue → List ℕ → SessionValue
with_breaks session breaks = record {
  manner = session.manner;
  plan = session.plan;
  symbols = session.symbols;
  labels = session.labels;
  board = session.board;
  breaks = breaks;
  next = session.next;
}

-- a breakpoint is set at most once, and at most 64 are
abbrev pub set_at : Option ℕ → SessionValue → ℕ → Result (Unit {0}) CommandRefusal × SessionValue
set_at (Some i) session address = (Ok tt, session)
set_at None session address =
    if length session.breaks == 64 then (Err TooManyBreakpoints, session)
    else (Ok tt, with_breaks session (session.breaks ++ address ∷ []))

abbrev pub set_break : SessionValue → ℕ → Result (Unit {0}) CommandRefusal × SessionValue
set_break session address = if nat_lt (2 ^ 32 - 1) address then (Err (OutOfRange Addresses), session)
    else set_at (position (λ b. b == address) session.breaks) session address

abbrev pub unset_at : Option ℕ → SessionValue → SessionValue
unset_at None session = session
unset_at (Some i) session = with_breaks session (remove session.breaks i)

abbrev pub unset_break : SessionValue → ℕ → Result (Unit {0}) CommandRefusal × SessionValue
unset_break session address = if nat_lt (2 ^ 32 - 1) address then (Err (OutOfRange Addresses), session)
    else (Ok tt, unset_at (position (λ b. b == address) session.breaks) session)

abbrev pub regs_by : SessionValue → Option ℕ → List ℕ
regs_by session None = refusal_line session.manner (NoSuchCore (cores_of session))
regs_by session (Some core) = core_text session.board.machine core

abbrev pub regs_answer : SessionValue → ℕ → List ℕ
regs_answer session core = regs_by session (core_named session core)

-- 1 to 256 bytes, all of them in memory
abbrev pub mem_answer : Manner → Machine → ℕ → ℕ → List ℕ
mem_answer manner machine at count =
    if nat_lt count 1 || nat_lt 256 count || nat_lt (2 ^ 32 - 1) at || nat_lt (length machine.memory) at
    || nat_lt (length machine.memory - at) count then refusal_line manner (OutOfRange Bytes)
    else dump_lines (take count (drop at machine.memory)) at

-- 1 to 64 lines, the first of them in the code
abbrev pub list_answer : Manner → List Symbol → Program → ℕ → ℕ → List ℕ
list_answer manner labels program at count =
    if nat_lt count 1 || nat_lt 64 count || nat_lt at program.base
    || nat_le (length (code_of program)) (at - program.base)
    then refusal_line manner (OutOfRange Lines)
    else some_lines labels count (drop (at - program.base) (code_of program)) at

-- the lines of a core's sets, ascending
pub record SetsOf (machine : Machine) (core : ℕ) (text : List ℕ) : Type 0 where
  pub reads : List ℕ
  pub writes : List ℕ
  pub reads_ascend : IsStrictlyIncreasing reads
  pub writes_ascend : IsStrictlyIncreasing writes
  pub are_reads : set.from_list reads ≡ (view_at machine core).reads
  pub are_writes : set.from_list writes ≡ (view_at machine core).writes
  pub line : text ≡ sets_line core (shown_state machine core) reads writes

abbrev pub sets_by : SessionValue → Option ℕ → List ℕ → Type 0
sets_by session None text = text ≡ refusal_line session.manner (NoSuchCore (cores_of session))
sets_by session (Some core) text = SetsOf session.board.machine core text

abbrev pub SetsAnswer : SessionValue → ℕ → List ℕ → SessionValue → Type 0
SetsAnswer from core text to = sets_by from (core_named from core) text × (to ≡ from)

-- why a core's next step is an abort, where it is one
abbrev pub why_line : ℕ → Option Reason → List ℕ
why_line core None = codes "core " ++ decimal core ++ codes ": its next step is no abort" ++ line_end
why_line core (Some reason) = reason_line core reason

abbrev pub why_by : SessionValue → Option ℕ → List ℕ → Type 0
why_by session None text = text ≡ refusal_line session.manner (NoSuchCore (cores_of session))
why_by session (Some core) text =
    (reason : Option Reason) × IsReasonOf session.board core reason × (text ≡ why_line core reason)

abbrev pub WhyAnswer : SessionValue → ℕ → List ℕ → SessionValue → Type 0
WhyAnswer from core text to = why_by from (core_named from core) text × (to ≡ from)

-- the line of a core that has none
unfoldable pub none_pending : ℕ → List ℕ
none_pending core = codes "pending " ++ number_text core ++ codes " -\n"

-- the stores of a core that are pending, a line each, the oldest first
abbrev pub pending_lines : Machine → ℕ → List ℕ
pending_lines machine core =
    if nat_eq (length (pending_at machine core)) 0 then none_pending core else pending_text machine core

abbrev pub pending_by : SessionValue → Option ℕ → List ℕ
pending_by session None = refusal_line session.manner (NoSuchCore (cores_of session))
pending_by session (Some core) = pending_lines session.board.machine core

-- of this core, or of all cores
abbrev pub pending_answer : SessionValue → Option ℕ → List ℕ
pending_answer session (Some core) = pending_by session (core_named session core)
pending_answer session None =
    flat_map (pending_lines session.board.machine) (range_with_len 0 (cores_of session))

-- a text with this answer was written, or a beginning of it
abbrev pub TellsAnswer : {T E : Type 0} → (List ℕ → SessionValue → Type 0) → Device → Device → SessionValue → Result T E
    → Type 0
TellsAnswer answer old new to result = (text : List ℕ) × answer text to × Writes old new text result

-- what each command answers at p, and what it leads to
abbrev pub Answers : DebugCommand → SessionValue → List ℕ → SessionValue → Type 0
Answers (Step core event) from text to = StepAnswer from core event text to
Answers (Run number) from text to = RunAnswer InTurn number from text to
Answers (Next number) from text to = RunAnswer AlongPlan number from text to
Answers (Back count) from text to = BackAnswer from count text to
Answers (Break address) from text to =
    (text ≡ done_line from.manner (set_break from address).0) × (to ≡ (set_break from address).1)
Answers (Clear address) from text to =
    (text ≡ done_line from.manner (unset_break from address).0) × (to ≡ (unset_break from address).1)
Answers (Regs core) from text to = (text ≡ regs_answer from core) × (to ≡ from)
Answers (Mem at number) from text to = (text ≡ mem_answer from.manner from.board.machine at number) × (to ≡ from)
Answers (Sets core) from text to = SetsAnswer from core text to
Answers (Why core) from text to = WhyAnswer from core text to
Answers (Pending core) from text to = (text ≡ pending_answer from core) × (to ≡ from)
Answers (Listing at number) from text to =
    (text ≡ list_answer from.manner (told_labels from) from.board.program at number) × (to ≡ from)
Answers Help from text to = (text ≡ help_text) × (to ≡ from)
Answers Quit from text to = (text ≡ bye_line) × (to ≡ from)

-- what stands of each command's answer where the writing of it failed, and what it leads to
abbrev pub AnswersBroken : DebugCommand → SessionValue → Device → Device → SessionValue → Type 0
AnswersBroken (Run number) from old new to = RunAnswerBroken InTurn number from old new to
AnswersBroken (Next number) from old new to = RunAnswerBroken AlongPlan number from old new to
AnswersBroken (Step core event) from old new to = AnswerStopped (Answers (Step core event) from) old new to
AnswersBroken (Back count) from old new to = AnswerStopped (Answers (Back count) from) old new to
AnswersBroken (Break address) from old new to = AnswerStopped (Answers (Break address) from) old new to
AnswersBroken (Clear address) from old new to = AnswerStopped (Answers (Clear address) from) old new to
AnswersBroken (Regs core) from old new to = AnswerStopped (Answers (Regs core) from) old new to
AnswersBroken (Mem at number) from old new to = AnswerStopped (Answers (Mem at number) from) old new to
AnswersBroken (Sets core) from old new to = AnswerStopped (Answers (Sets core) from) old new to
AnswersBroken (Why core) from old new to = AnswerStopped (Answers (Why core) from) old new to
AnswersBroken (Pending core) from old new to = AnswerStopped (Answers (Pending core) from) old new to
AnswersBroken (Listing at number) from old new to = AnswerStopped (Answers (Listing at number) from) old new to
AnswersBroken Help from old new to = AnswerStopped (Answers Help from) old new to
AnswersBroken Quit from old new to = AnswerStopped (Answers Quit from) old new to

-- what ended a call: its text was written; it was broken off; or, for want of memory, nothing was written
abbrev pub Ends : (List ℕ → SessionValue → Type 0) → (Device → Device → SessionValue → Type 0) → Device → Device
    → SessionValue → SessionValue → Result (Unit {0}) Interruption → Type 0
Ends whole broken old new from to (Ok done) = (text : List ℕ) × whole text to × Wrote old new text
Ends whole broken old new from to (Err interruption.Write) = broken old new to
Ends whole broken old new from to (Err interruption.NoMemory) = (to ≡ from) × Wrote old new []
Ends whole broken old new from to (Err interruption.Read) = ⊥

-- of a call with this answer, of which a beginning stands where it was broken off
abbrev pub EndsAnswer : (List ℕ → SessionValue → Type 0) → Device → Device → SessionValue → SessionValue
    → Result (Unit {0}) Interruption → Type 0
EndsAnswer answer old new from to result = Ends answer (AnswerStopped answer) old new from to result

abbrev pub answer_result : Result (Unit {0}) WriteFault → Result (Unit {0}) Interruption
answer_result (Ok done) = Ok done
answer_result (Err fault) = Err interruption.Write
