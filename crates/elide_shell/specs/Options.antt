-- The options of a command line that make a machine and its schedule again (docs/FORMATS.md, "Options of the command
-- line").
use Rattle.std.specs.Prelude.{ℕ, nat_lt, nat_eq, List, [], ◌∷◌, ◌++◌, codes, length, map}
use Rattle.std.specs.Prelude.{Option, Some, None, if◌then◌else◌}
use Rattle.std.specs.Borrow.{Bor}
use Rattle.std.specs.Cmp.Lexicographic.{pointwise}
use Rattle.std.specs.List.{join_with_byte}
use Rattle.elide_args.specs.declared.subcommand.MachineOptions.{MachineOptions}
use Rattle.elide_shell.specs.Shell.{path_word, shell_word}
use Rattle.tm_model.specs.declared.outcome.Pick.{Pick}
use Rattle.tm_schedule.specs.Picks.{pick_word}

-- an option of the machine, where it is given and not what it is by default
abbrev pub option_text : List ℕ → List ℕ → Option (Bor (List ℕ)) → List ℕ
option_text name usual None = []
option_text name usual (Some value) = if pointwise nat_eq value.now usual then [] else name ++ shell_word value.now

abbrev pub machine_text : MachineOptions → List ℕ
machine_text machine =
    option_text (codes " --cores ") (codes "1") machine.cores
    ++ (option_text (codes " --mem ") (codes "65536") machine.memory
    ++ (option_text (codes " --entry ") [] machine.entry
    ++ (option_text (codes " --reads ") (codes "512") machine.reads
    ++ (option_text (codes " --writes ") (codes "512") machine.writes
    ++ option_text (codes " --store-buffer ") (codes "0") machine.store_buffer))))

-- the words of the steps, with spaces between
abbrev pub steps_text : List Pick → List ℕ
steps_text picks = join_with_byte 32 (map pick_word picks)

-- a schedule of at most 1,000 steps
abbrev pub steps_option : List Pick → List ℕ
steps_option picks =
    if nat_lt 1000 (length picks) then codes " --schedule PATH, with the schedule that --record PATH writes"
    else codes " --steps " ++ (34 ∷ steps_text picks ++ 34 ∷ [])

-- by its file, where it was recorded
abbrev pub schedule_text : Option (Bor (List ℕ)) → List Pick → List ℕ
schedule_text None picks = steps_option picks
schedule_text (Some path) picks = codes " --schedule " ++ path_word path.now
