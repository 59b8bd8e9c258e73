-- The commands of the debugger (docs/FORMATS.md, "Debugger").
use Rattle.std.specs.Prelude.{ℕ, ◌==◌, if◌then◌else◌, List, codes, length, nat_eq, Option, Some, None, Result, Ok, Err}
use Rattle.std.specs.Cmp.Lexicographic.{pointwise}
use Rattle.debug_command.specs.declared.refusal.CommandRefusal.{CommandRefusal}
use Rattle.debug_command.specs.declared.refusal.CommandRefusal.TheVariants.{BadArgument, NoSuchSymbol, UnknownCommand}
use Rattle.debug_command.specs.declared.command.CommandName.{CommandName}
use Rattle.debug_command.specs.declared.command.CommandName.TheVariants as name
use Rattle.debug_command.specs.declared.command.DebugCommand.{DebugCommand}
use Rattle.debug_command.specs.declared.command.DebugCommand.TheVariants as command
use Rattle.symbols.specs.declared.symbol.Symbol.{Symbol}
use Rattle.debug_command.specs.Numbers.{number_in}
use Rattle.debug_command.specs.Addresses.{address_in}
use Rattle.debug_command.specs.Words.{after_first_word, first_word}
use Rattle.tm_model.specs.declared.outcome.Event.{Event}
use Rattle.tm_model.specs.declared.outcome.Pick.{Pick}
use Rattle.tm_schedule.specs.Picks.{pick_of_word}

unfoldable pub name_of : List ℕ → Option CommandName
name_of word =
    if pointwise nat_eq word (codes "step") then Some name.Step
    else if pointwise nat_eq word (codes "run") then Some name.Run
    else if pointwise nat_eq word (codes "next") then Some name.Next
    else if pointwise nat_eq word (codes "back") then Some name.Back
    else if pointwise nat_eq word (codes "break") then Some name.Break
    else if pointwise nat_eq word (codes "clear") then Some name.Clear
    else if pointwise nat_eq word (codes "regs") then Some name.Regs
    else if pointwise nat_eq word (codes "mem") then Some name.Mem
    else if pointwise nat_eq word (codes "sets") then Some name.Sets
    else if pointwise nat_eq word (codes "why") then Some name.Why
    else if pointwise nat_eq word (codes "pending") then Some name.Pending
    else if pointwise nat_eq word (codes "list") then Some name.List
    else if pointwise nat_eq word (codes "help") then Some name.Help
    else if pointwise nat_eq word (codes "quit") then Some name.Quit
    else None

-- the words behind the name must be none, a number, a number or none, a step, an address, or an address and a number
abbrev pub command_alone : CommandName → List ℕ → DebugCommand → Result DebugCommand CommandRefusal
command_alone name first command = if length first == 0 then Ok command else Err (BadArgument name)

abbrev pub number_result : CommandName → Option ℕ → Result ℕ CommandRefusal
number_result name None = Err (BadArgument name)
number_result name (Some number) = Ok number

abbrev pub one_number : CommandName → List ℕ → List ℕ → Result ℕ CommandRefusal
one_number name first second = if length second == 0 then number_result name (number_in first)
    else Err (BadArgument name)

-- one number, or none
abbrev pub as_given : Result ℕ CommandRefusal → Result (Option ℕ) CommandRefusal
as_given (Ok number) = Ok (Some number)
as_given (Err refusal) = Err refusal

abbrev pub at_most_one : CommandName → List ℕ → List ℕ → Result (Option ℕ) CommandRefusal
at_most_one name first second = if length first == 0 then Ok None else as_given (one_number name first second)

-- a step: a number, which is a core under no event, or the word of a step in a schedule (docs/FORMATS.md, "Schedules")
abbrev pub step_result : Option ℕ → Option Pick → Result (ℕ × Option Event) CommandRefusal
step_result (Some core) pick = Ok (core, None)
step_result None (Some pick) = Ok (pick.core, pick.event)
step_result None None = Err (BadArgument name.Step)

abbrev pub one_step : List ℕ → List ℕ → Result (ℕ × Option Event) CommandRefusal
one_step first second = if length second == 0 then step_result (number_in first) (pick_of_word first)
    else Err (BadArgument name.Step)

-- an address: a number, or what a symbol stands for
abbrev pub address_result : CommandName → List ℕ → Option ℕ → Result ℕ CommandRefusal
address_result name word None = if length word == 0 then Err (BadArgument name) else Err NoSuchSymbol
address_result name word (Some address) = Ok address

abbrev pub one_address : CommandName → List Symbol → List ℕ → List ℕ → Result ℕ CommandRefusal
one_address name symbols first second = if length second == 0
    then address_result name first (address_in symbols first)
    else Err (BadArgument name)

abbrev pub both : Result ℕ CommandRefusal → Result ℕ CommandRefusal → Result (ℕ × ℕ) CommandRefusal
both (Ok address) (Ok number) = Ok (address, number)
both (Ok address) (Err refusal) = Err refusal
both (Err refusal) number = Err refusal

abbrev pub address_and_number : CommandName → List Symbol → List ℕ → List ℕ → List ℕ → Result (ℕ × ℕ) CommandRefusal
address_and_number name symbols first second third = if length third == 0
    then both (address_result name first (address_in symbols first)) (number_result name (number_in second))
    else Err (BadArgument name)

-- what a command makes of its numbers
abbrev pub command_with : {A : Type 0} → (A → DebugCommand) → Result A CommandRefusal
    → Result DebugCommand CommandRefusal
command_with make (Ok number) = Ok (make number)
command_with make (Err refusal) = Err refusal

-- the command of this name with these words behind it
abbrev pub command_named : CommandName → List Symbol → List ℕ → List ℕ → List ℕ → Result DebugCommand CommandRefusal
command_named name.Step symbols first second third =
    command_with (λ (step : ℕ × Option Event). command.Step step.0 step.1) (one_step first second)
command_named name.Run symbols first second third =
    command_with (λ number. command.Run number) (one_number name.Run first second)
command_named name.Next symbols first second third =
    command_with (λ number. command.Next number) (one_number name.Next first second)
command_named name.Back symbols first second third =
    command_with (λ number. command.Back number) (one_number name.Back first second)
command_named name.Break symbols first second third =
    command_with (λ number. command.Break number) (one_address name.Break symbols first second)
command_named name.Clear symbols first second third =
    command_with (λ number. command.Clear number) (one_address name.Clear symbols first second)
command_named name.Regs symbols first second third =
    command_with (λ number. command.Regs number) (one_number name.Regs first second)
command_named name.Mem symbols first second third =
    command_with (λ (pair : ℕ × ℕ). command.Mem pair.0 pair.1)
    (address_and_number name.Mem symbols first second third)
command_named name.Sets symbols first second third =
    command_with (λ number. command.Sets number) (one_number name.Sets first second)
command_named name.Why symbols first second third =
    command_with (λ number. command.Why number) (one_number name.Why first second)
command_named name.Pending symbols first second third =
    command_with (λ (core : Option ℕ). command.Pending core) (at_most_one name.Pending first second)
command_named name.List symbols first second third =
    command_with (λ (pair : ℕ × ℕ). command.List pair.0 pair.1)
    (address_and_number name.List symbols first second third)
command_named name.Help symbols first second third = command_alone name.Help first command.Help
command_named name.Quit symbols first second third = command_alone name.Quit first command.Quit

abbrev pub command_by : Option CommandName → List Symbol → List ℕ → Result DebugCommand CommandRefusal
command_by None symbols rest = Err UnknownCommand
command_by (Some name) symbols rest = command_named name symbols (first_word rest) (first_word (after_first_word rest))
    (first_word (after_first_word (after_first_word rest)))

-- the command of a line that is not blank
unfoldable pub command_of : List Symbol → List ℕ → Result DebugCommand CommandRefusal
command_of symbols line = command_by (name_of (first_word line)) symbols (after_first_word line)
