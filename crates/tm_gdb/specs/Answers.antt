-- What a command tells and what it does to the target (gdb manual, appendix E.2, "Packets").
use Rattle.std.specs.Prelude.{◌≡◌, ℕ, ◌+◌, ◌==◌, if◌then◌else◌, List, [], ◌∷◌, ◌++◌, Option, Some, None, codes, is_some}
use Rattle.std.specs.Prelude.{nat_lt, Bool, true, false}
use Rattle.hex.specs.Hex.{encode_lower}
use Rattle.gdb_packet.specs.declared.command.Command.{Command}
use Rattle.gdb_packet.specs.declared.command.Command.TheVariants as command
use Rattle.gdb_packet.specs.declared.command.Monitor.TheVariants as monitor
use Rattle.gdb_packet.specs.declared.command.Move.{Move}
use Rattle.gdb_packet.specs.declared.command.Move.TheVariants as move
use Rattle.gdb_packet.specs.declared.command.Point.{Point}
use Rattle.gdb_packet.specs.declared.command.PointKind.{PointKind}
use Rattle.gdb_packet.specs.declared.command.PointKind.TheVariants as point
use Rattle.gdb_packet.specs.declared.command.Question.{Question}
use Rattle.gdb_packet.specs.declared.command.Question.TheVariants as question
use Rattle.gdb_packet.specs.declared.command.Setting.{Setting}
use Rattle.gdb_packet.specs.declared.command.Setting.TheVariants as setting
use Rattle.gdb_packet.specs.declared.command.Span.{Span}
use Rattle.gdb_target.specs.declared.shown.CoreShown.{CoreShown}
use Rattle.gdb_target.specs.Memory.{memory_text}
use Rattle.gdb_target.specs.Registers.{register_of, register_text, registers_text}
use Rattle.gdb_target.specs.Shown.{IsShown}
use Rattle.tm_gdb.specs.Back.{RunsBack, StepsBack}
use Rattle.tm_gdb.specs.Moves.{Continues, Resumes, StepsAlone, names_stranger, selected_goers}
use Rattle.tm_gdb.specs.Points.{set_break, set_watch, unset_break, unset_watch}
use Rattle.tm_gdb.specs.Stops.{stop_text}
use Rattle.tm_gdb.specs.Values.{TargetValue, core_of, cores_of, moved_core, thread_core}

-- all registers of the selected core
abbrev pub TellsRegisters : TargetValue → List ℕ → Type 0
TellsRegisters target text =
    (shown : CoreShown) × IsShown target.board (core_of target) shown × (text ≡ registers_text shown)

-- one of them, and E01 for a number that none has
abbrev pub TellsRegister : TargetValue → ℕ → List ℕ → Type 0
TellsRegister target number text =
    (shown : CoreShown) × IsShown target.board (core_of target) shown
    × (text ≡ (if nat_lt number 38 then register_text (register_of shown number) else codes "E01"))

-- memory as the selected core sees it
abbrev pub TellsMemory : TargetValue → ℕ → ℕ → List ℕ → Type 0
TellsMemory target at count text = text ≡ memory_text target.board.machine (core_of target) at count

-- that something was done, or was not
abbrev pub done_text : {A : Type 0} → Option A → List ℕ
done_text (Some done) = codes "OK"
done_text None = codes "E01"

-- the selected thread, which is 1 for the first core
abbrev pub thread_text : TargetValue → List ℕ
thread_text target = codes "QC" ++ encode_lower ((core_of target + 1) ∷ [])

-- what is promised of the texts that tell of the target, and of those that accept and refuse
abbrev pub Tells : Question → TargetValue → List ℕ → Type 0
Tells question.Status target text = text ≡ stop_text target.stop (core_of target)
Tells question.CurrentThread target text = text ≡ thread_text target
Tells (question.IsAlive thread) target text = text ≡ done_text (thread_core target thread)
Tells question.Registers target text = TellsRegisters target text
Tells (question.Register number) target text = TellsRegister target number text
Tells (question.Memory span) target text = TellsMemory target span.at span.count text
Tells question.NoAcknowledgements target text = text ≡ codes "OK"
Tells question.Detach target text = text ≡ codes "OK"
Tells question.KillAnswered target text = text ≡ codes "OK"
Tells question.WriteRegisters target text = text ≡ codes "E.read-only"
Tells question.WriteMemory target text = text ≡ codes "E01"
Tells question.Malformed target text = text ≡ codes "E01"
Tells question.Unknown target text = text ≡ []
Tells question.Kill target text = text ≡ []
Tells _ target text = Unit {0}

-- a question changes nothing, but that `monitor event` and `monitor drain` name the event that the next step comes
-- under
abbrev pub asked_of : Question → TargetValue → TargetValue
asked_of (question.Monitor (monitor.Event named)) target = record target { event = Some named }
asked_of _ target = target

-- what a move does
abbrev pub Moves : Move → TargetValue → TargetValue → Type 0
Moves (move.Resume actions) from to = Resumes actions from to
Moves move.StepSelected from to = StepsAlone (moved_core from) from to
Moves move.ContinueSelected from to = Continues (selected_goers from.for_moves from) from to
Moves move.StepBack from to = StepsBack (moved_core from) from to
Moves move.ContinueBack from to = RunsBack from to

-- a target with other breakpoints, or watchpoints; as it was where they cannot be set
abbrev pub with_breaks : TargetValue → Option (List ℕ) → TargetValue
with_breaks target None = target
with_breaks target (Some breaks) = record target { breaks = breaks }

abbrev pub with_watches : TargetValue → Option (List Span) → TargetValue
with_watches target None = target
with_watches target (Some watches) = record target { watches = watches }

abbrev pub InsertsAt : PointKind → Span → TargetValue → TargetValue → List ℕ → Type 0
InsertsAt point.Break span from to text =
    (to ≡ with_breaks from (set_break from.breaks span.at)) × (text ≡ done_text (set_break from.breaks span.at))
InsertsAt point.Watch span from to text =
    (to ≡ with_watches from (set_watch from.watches span)) × (text ≡ done_text (set_watch from.watches span))

abbrev pub removed : PointKind → Span → TargetValue → TargetValue
removed point.Break span target = record target { breaks = unset_break target.breaks span.at }
removed point.Watch span target = record target { watches = unset_watch target.watches span }

-- the target in which a thread is selected, the same for one that there is not
abbrev pub selecting : Option ℕ → TargetValue → TargetValue
selecting None target = target
selecting (Some core) target = record target { selected = core }

-- the same of moves, which are of no one thread after 0
abbrev pub moving : Option ℕ → TargetValue → TargetValue
moving None target = target
moving (Some core) target = record target { for_moves = Some core }

abbrev pub ChoosesForMoves : ℕ → TargetValue → TargetValue → List ℕ → Type 0
ChoosesForMoves thread from to text =
    (to ≡ (if thread == 0 then record from { for_moves = None } else moving (thread_core from thread) from))
    × (text ≡ done_text (thread_core from thread))

-- what a setting does, and whether it could
abbrev pub Sets : Setting → TargetValue → TargetValue → List ℕ → Type 0
Sets (setting.Select thread) from to text =
    (to ≡ selecting (thread_core from thread) from) × (text ≡ done_text (thread_core from thread))
Sets (setting.SelectForMoves thread) from to text = ChoosesForMoves thread from to text
Sets (setting.Insert place) from to text = InsertsAt place.kind place.span from to text
Sets (setting.Remove place) from to text = (to ≡ removed place.kind place.span from) × (text ≡ codes "OK")

-- a move of which an action names a thread that there is not is none
abbrev pub is_refused : Move → ℕ → Bool
is_refused (move.Resume actions) cores = names_stranger actions cores
is_refused _ cores = false

-- a move is answered by why the target stands then, and at which core
abbrev pub MovesUnless : Bool → Move → TargetValue → List ℕ → TargetValue → Type 0
MovesUnless true moved from text to = (to ≡ from) × (text ≡ codes "E01")
MovesUnless false moved from text to = Moves moved from to × (text ≡ stop_text to.stop (core_of to))

-- what a command does and tells
abbrev pub Answers : Command → TargetValue → List ℕ → TargetValue → Type 0
Answers (command.Ask asked) from text to = (to ≡ asked_of asked from) × Tells asked from text
Answers (command.Move moved) from text to = MovesUnless (is_refused moved (cores_of from)) moved from text to
Answers (command.Set setting) from text to = Sets setting from to text
