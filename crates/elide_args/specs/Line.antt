-- What the words of a command line come to.
use Rattle.std.specs.Prelude.{◌≡◌, ℕ, List, map, Some, codes}
use Rattle.std.specs.Borrow.{Bor}
use Rattle.std.specs.Option.{option_copied}
use Rattle.clap.specs.Matches.{first_value}
use Rattle.clap.specs.Words.{HasMatchesOf, app_of, rows_of, subcommand_rows_of}
use Rattle.clap.specs.declared.builder.command.Command.{Command}
use Rattle.clap.specs.declared.parser.matches.ArgMatches.{ArgMatches}
use Rattle.clap.specs.declared.parser.matches.Found.{Found}
use Rattle.elide_args.specs.Asked.{Asks}
use Rattle.elide_args.specs.declared.subcommand.CommandLine.{CommandLine}

-- the line is what a parse met: the subcommand of the name that it met, by the values that it found of that
-- subcommand's options, and how messages are told
pub record IsLine (matches : ArgMatches) (line : CommandLine) : Type 0 where
  pub name : List ℕ
  pub found : Found
  pub met : subcommand_rows_of matches ≡ Some (name, rows_of found)
  pub asks : Asks found name line.subcommand
  pub color : first_value found (codes "color") ≡ option_copied line.color
  pub words : first_value found (codes "words") ≡ option_copied line.words

-- the line is what a parse of these words met, by some command
pub record IsParsedLine (words : List (Bor (List ℕ))) (line : CommandLine) : Type 0 where
  pub command : Command
  pub matches : ArgMatches
  pub parsed : HasMatchesOf (app_of command) (map (λ word. word.now) words) matches
  pub met : IsLine matches line
