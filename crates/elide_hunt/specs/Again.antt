-- The command that makes a run of a search again (docs/FORMATS.md, "Checks").
use Rattle.std.specs.Prelude.{ℕ, ◌+◌, Bool, List, [], ◌++◌, codes, if◌then◌else◌}
use Rattle.std.specs.Borrow.{Bor}
use Rattle.std.specs.Fmt.{decimal}
use Rattle.std.specs.List.{flat_map}
use Rattle.elide_args.specs.declared.hunt_options.HuntOptions.{HuntOptions}
use Rattle.elide_shell.specs.Options.{machine_text, option_text}
use Rattle.elide_shell.specs.Shell.{path_word, shell_word}

-- an option once for each of its values
abbrev pub demand_text : List ℕ → Bor (List ℕ) → List ℕ
demand_text name value = name ++ shell_word value.now

-- an option that has no value, where it is given
abbrev pub flag_text : List ℕ → Bool → List ℕ
flag_text name is_given = if is_given then name else []

-- what is checked
abbrev pub demands_text : HuntOptions → List ℕ
demands_text options =
    flat_map (demand_text (codes " --check ")) options.checks.items
    ++ (flat_map (demand_text (codes " --forbid ")) options.forbids.items
    ++ (flat_map (demand_text (codes " --stop ")) options.stops.items
    ++ flag_text (codes " --expect-halt") options.expects_halt))

-- how the runs are made, where it is not the usual way
abbrev pub plan_text : HuntOptions → List ℕ
plan_text options =
    option_text (codes " --seed ") (codes "1") options.seed
    ++ (option_text (codes " --method ") (codes "mix") options.method
    ++ (option_text (codes " --events ") [] options.events
    ++ (option_text (codes " --limit ") (codes "1000000") options.limit
    ++ (option_text (codes " --jobs ") [] options.jobs ++ flag_text (codes " --json") options.is_json))))

-- this run alone
abbrev pub runs_text : ℕ → List ℕ
runs_text run = codes " --runs " ++ decimal run ++ codes ".." ++ decimal (run + 1)

abbrev pub hunt_command : HuntOptions → ℕ → List ℕ
hunt_command options run =
    codes "elide hunt " ++ (path_word options.machine.file.now
    ++ (machine_text options.machine ++ (demands_text options ++ (plan_text options ++ runs_text run))))
