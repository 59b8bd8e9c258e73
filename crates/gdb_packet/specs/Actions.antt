-- What each thread is to do (gdb manual, appendix E.2, `vCont`): `vCont[;action[:thread-id]]...`.
use Rattle.std.specs.Prelude.{◌≡◌, ℕ, ◌+◌, ◌==◌, ◌≤◌, nat_eq, nat_le, Bool, true, false, if◌then◌else◌}
use Rattle.std.specs.Prelude.{List, [], ◌∷◌, codes, drop}
use Rattle.std.specs.Prelude.{Option, Some, None, Result, Ok, Err}
use Rattle.std.specs.List.{slice_split}
use Rattle.std.specs.Cmp.Lexicographic.{pointwise}
use Rattle.gdb_packet.specs.declared.command.Action.{Action}
use Rattle.gdb_packet.specs.declared.command.Action.TheVariants.{Step, Continue}
use Rattle.gdb_packet.specs.declared.command.Actions.{Actions}
use Rattle.gdb_packet.specs.declared.command.Command.{Command}
use Rattle.gdb_packet.specs.declared.command.Command.TheVariants as command
use Rattle.gdb_packet.specs.declared.command.Move.TheVariants as move
use Rattle.gdb_packet.specs.declared.command.Question.{Question}
use Rattle.gdb_packet.specs.declared.command.Question.TheVariants as question
use Rattle.gdb_packet.specs.declared.command.ThreadAction.{ThreadAction}
use Rattle.gdb_packet.specs.declared.resume.ToldAction.{ToldAction}
use Rattle.gdb_packet.specs.Numbers.{number_in}
use Rattle.gdb_packet.specs.Parts.{first_part, other_parts}

abbrev pub or_else : Option Action → Option Action → Option Action
or_else None other = other
or_else (Some action) other = Some action

-- the leftmost action among what is told, by what each says of a thread
unfoldable pub leftmost : {A : Type 0} → (A → Option Action) → List A → Option Action
leftmost says [] = None
leftmost says (told ∷ others) = or_else (says told) (leftmost says others)

abbrev pub entry_says : ℕ → Option ThreadAction → Option Action
entry_says thread None = None
entry_says thread (Some entry) = if entry.thread == thread then Some entry.action else None

-- what a thread is to do
abbrev pub action_of : Actions → ℕ → Option Action
action_of actions thread = or_else (leftmost (entry_says thread) actions.chosen) actions.others

-- a signal is a number, and no core hears it
abbrev pub with_signal : Action → Option ℕ → Result Action Question
with_signal action None = Err question.Malformed
with_signal action (Some signal) = Ok action

-- nothing may stand behind s and c
abbrev pub alone : Action → List ℕ → Result Action Question
alone action [] = Ok action
alone action (byte ∷ others) = Err question.Unknown

-- c, C sig, s or S sig
abbrev pub action_in : List ℕ → Result Action Question
action_in [] = Err question.Unknown
action_in (letter ∷ signal) =
    if letter == 83 then with_signal Step (number_in signal)
    else if letter == 67 then with_signal Continue (number_in signal)
    else if letter == 115 then alone Step signal
    else if letter == 99 then alone Continue signal
    else Err question.Unknown

-- the thread of a number: none for 0, which is any
abbrev pub thread_numbered : Option ℕ → Result (Option ℕ) Question
thread_numbered None = Err question.Malformed
thread_numbered (Some number) = if number == 0 then Ok None else Ok (Some number)

-- the thread behind the colon: none for -1, which is all, and where nothing stands
abbrev pub thread_named : List ℕ → Result (Option ℕ) Question
thread_named [] = Ok None
thread_named (byte ∷ others) =
    if pointwise nat_eq (byte ∷ others) (codes "-1") then Ok None else thread_numbered (number_in (byte ∷ others))

abbrev pub told_of : Result Action Question → Result (Option ℕ) Question → Result ToldAction Question
told_of (Err asked) thread = Err asked
told_of (Ok action) (Err asked) = Err asked
told_of (Ok action) (Ok thread) = Ok (record { thread = thread; action = action })

-- what one action tells
unfoldable pub told_action : List ℕ → Result ToldAction Question
told_action text = told_of (action_in (first_part 58 text)) (thread_named (other_parts 58 text))

abbrev pub in_front : Result ToldAction Question → Result (List ToldAction) Question → Result (List ToldAction) Question
in_front (Err asked) others = Err asked
in_front (Ok told) (Err asked) = Err asked
in_front (Ok told) (Ok others) = Ok (told ∷ others)

-- what all actions tell; the first that is wrong decides how they are refused
unfoldable pub told_actions : List (List ℕ) → Result (List ToldAction) Question
told_actions [] = Ok []
told_actions (text ∷ others) = in_front (told_action text) (told_actions others)

-- what is told of this thread by its number, and of all threads
abbrev pub says_by_number : ℕ → Option ℕ → Action → Option Action
says_by_number thread None action = None
says_by_number thread (Some number) action = if number == thread then Some action else None

abbrev pub says_of : ℕ → ToldAction → Option Action
says_of thread told = says_by_number thread told.thread told.action

abbrev pub says_without_number : Option ℕ → Action → Option Action
says_without_number None action = Some action
says_without_number (Some number) action = None

abbrev pub says_of_all : ToldAction → Option Action
says_of_all told = says_without_number told.thread told.action

-- the leftmost action that names the thread, else the leftmost one without a thread
abbrev pub action_told : List ToldAction → ℕ → Option Action
action_told told thread = or_else (leftmost (says_of thread) told) (leftmost says_of_all told)

abbrev pub names : Option ℕ → Bool
names None = false
names (Some number) = true

abbrev pub one_if : Bool → ℕ
one_if true = 1
one_if false = 0

-- how many name a thread
unfoldable pub named_count : List ToldAction → ℕ
named_count [] = 0
named_count (told ∷ others) = one_if (names told.thread) + named_count others

-- one action was added behind so many that name a thread
pub record IsAddedOne (told : ToldAction) (count : ℕ) (old new : Actions) (more : ℕ) : Type 0 where
  pub counted : more ≡ count + one_if (names told.thread)
  pub room : (thread : ℕ) → leftmost (entry_says thread) (drop more new.chosen) ≡ None
  pub chosen : more ≤ 64 → (thread : ℕ)
      → leftmost (entry_says thread) new.chosen
      ≡ or_else (leftmost (entry_says thread) old.chosen) (says_of thread told)
  pub others : new.others ≡ or_else old.others (says_of_all told)

-- so were all
pub record AreAdded (told : List ToldAction) (count : ℕ) (old new : Actions) (more : ℕ) : Type 0 where
  pub counted : more ≡ count + named_count told
  pub chosen : more ≤ 64 → (thread : ℕ)
      → leftmost (entry_says thread) new.chosen
      ≡ or_else (leftmost (entry_says thread) old.chosen) (leftmost (says_of thread) told)
  pub others : new.others ≡ or_else old.others (leftmost says_of_all told)

abbrev pub IsAdded : Result (List ToldAction) Question → ℕ → Actions → Actions → Result ℕ Question → Type 0
IsAdded (Err asked) count old new more = more ≡ Err asked
IsAdded (Ok told) count old new (Err asked) = ⊥
IsAdded (Ok told) count old new (Ok more) = AreAdded told count old new more

-- what a command resumes is what is told of each thread
pub record Resumes (told : List ToldAction) (resumed : Command) : Type 0 where
  pub actions : Actions
  pub is : resumed ≡ command.Move (move.Resume actions)
  pub each : (thread : ℕ) → action_of actions thread ≡ action_told told thread

-- there is room for 64 that name a thread
abbrev pub ResumesWithRoom : Bool → List ToldAction → Command → Type 0
ResumesWithRoom true told resumed = Resumes told resumed
ResumesWithRoom false told resumed = resumed ≡ command.Ask question.Malformed

abbrev pub IsToldMove : Result (List ToldAction) Question → Command → Type 0
IsToldMove (Err asked) resumed = resumed ≡ command.Ask asked
IsToldMove (Ok told) resumed = ResumesWithRoom (nat_le (named_count told) 64) told resumed

-- the actions that a text has between its semicolons
unfoldable pub actions_in : List ℕ → List (List ℕ)
actions_in text = slice_split (λ byte. byte == 59) text
