-- A session of the debugger on the machine that the options say.
use Rattle.std.specs.Prelude.{◌≡◌, ℕ, ◌&&◌, if◌then◌else◌, List, Option}
use Rattle.text_out.specs.Writing.{Device}
use Rattle.debug_command.specs.declared.manner.Manner.{Manner}
use Rattle.debug_command.specs.declared.manner.Manner.TheVariants.{Plain, Spoken}
use Rattle.symbols.specs.declared.symbol.Symbol.{Symbol}
use Rattle.tm_model.specs.declared.outcome.Pick.{Pick}
use Rattle.tm_debug.specs.Serving.{BehindPrompt, ServesInput}
use Rattle.tm_debug.specs.Session.{start_in}
use Rattle.tm_hist.specs.Board.{ShownBoard as Board}
use Rattle.elide_args.specs.declared.subcommand.SessionOptions.{SessionOptions}
use Rattle.elide_session.specs.Opened.{IsOpened, IsPlan}
use Rattle.elide_device.specs.declared.terminals.Terminals.{Terminals}

-- a session is spoken where a person types its input and reads its output
abbrev pub manner_at : Terminals → Manner
manner_at terminals = if terminals.input && terminals.output then Spoken else Plain

-- what was written are the answers to the input with that board, by the symbols of the program that the content of FILE
-- is read as, along the schedule that the options ask for, and this is left of the input
pub record IsServed (content : List ℕ → Option (List ℕ)) (options : SessionOptions) (terminals : Terminals)
    (input left : Option (List ℕ)) (old new : Device) : Type 0 where
  pub first : Board
  pub last : Board
  pub plan : List Pick
  pub planned : IsPlan content options.schedule first plan
  pub symbols : List Symbol
  pub opened : IsOpened (content options.machine.file.now) options.machine first symbols
  pub labels : List Symbol
  pub manner : Manner
  pub speaks : manner ≡ manner_at terminals
  pub answers :
      BehindPrompt manner old
      (λ begun. ServesInput input left (start_in manner plan symbols labels first) begun new last)
