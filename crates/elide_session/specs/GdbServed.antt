-- A session with gdb on the machine that the options say.
use Rattle.std.specs.Prelude.{ℕ, if◌then◌else◌, List, Option, Some, None}
use Rattle.text_out.specs.Writing.{Device}
use Rattle.elide_args.specs.declared.subcommand.SessionOptions.{SessionOptions}
use Rattle.tm_model.specs.declared.outcome.Pick.{Pick}
use Rattle.tm_gdb.specs.Serving.{ServesInput, start}
use Rattle.symbols.specs.declared.symbol.Symbol.{Symbol}
use Rattle.elide_session.specs.Opened.{IsOpened, IsPlan, is_scheduled}
use Rattle.tm_hist.specs.Board.{ShownBoard as Board}

-- what was written is what is to be done of the input's packets with that board, along the schedule that the options
-- ask for, where they ask for one, and this is left of the input
pub record IsServed (content : List ℕ → Option (List ℕ)) (options : SessionOptions) (input left : Option (List ℕ))
    (old new : Device) : Type 0 where
  pub first : Board
  pub last : Board
  pub symbols : List Symbol
  pub opened : IsOpened (content options.machine.file.now) options.machine first symbols
  pub plan : List Pick
  pub planned : IsPlan content options.schedule first plan
  pub answers :
      ServesInput input left (start first (if is_scheduled options.schedule then Some plan else None)) old new last
