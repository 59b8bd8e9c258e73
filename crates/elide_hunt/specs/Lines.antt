-- The lines that `elide hunt` prints (docs/FORMATS.md, "Checks").
use Rattle.std.specs.Prelude.{ℕ, ◌+◌, ◌-◌, nat_eq, nat_le, nat_lt, Bool, true, List, [], ◌++◌, codes, length, slice_get}
use Rattle.std.specs.Prelude.{Option, Some, None, if◌then◌else◌}
use Rattle.std.specs.Borrow.{Bor}
use Rattle.std.specs.Fmt.{decimal}
use Rattle.std.specs.List.{flat_map}
use Rattle.elide_args.specs.declared.hunt_options.HuntOptions.{HuntOptions}
use Rattle.elide_shell.specs.Options.{machine_text, schedule_text}
use Rattle.elide_shell.specs.Shell.{path_word}
use Rattle.text_out.specs.TextLine.{line_end}
use Rattle.tm_model.specs.declared.outcome.Pick.{Pick}
use Rattle.tm_hunt.specs.Cost.{events_in, switches_of}
use Rattle.tm_hunt.specs.Deciding.{deciding}
use Rattle.elide_hunt.specs.Again.{hunt_command}
use Rattle.elide_hunt.specs.Cycles.{cycle_text}
use Rattle.elide_hunt.specs.Lates.{late_line}
use Rattle.tm_hunt.specs.declared.searching.Found.{Found}
use Rattle.tm_hunt.specs.declared.searching.Search.{Search}
use Rattle.elide_hunt.specs.declared.report.Beside.{Beside}
use Rattle.elide_hunt.specs.declared.report.Counts.{Counts}

-- no run fails: how many there are, how many of them ended, and how many reached the limit
unfoldable pub none_line : ℕ → ℕ → List ℕ
none_line ended cut =
    codes "no failure in " ++ decimal (ended + cut) ++ codes " runs: " ++ decimal ended ++ codes " ended, "
    ++ decimal cut ++ codes " reached the limit" ++ line_end

-- the option that says the check with this index: those of `--check` come first, then those of `--forbid`, then those
-- of `--stop`
abbrev pub stop_option : Option (Bor (List ℕ)) → List ℕ
stop_option None = codes "--expect-halt"
stop_option (Some text) = codes "--stop " ++ text.now

abbrev pub forbid_option : List (Bor (List ℕ)) → ℕ → Option (Bor (List ℕ)) → List ℕ
forbid_option stops index None = stop_option (slice_get stops index)
forbid_option stops index (Some text) = codes "--forbid " ++ text.now

abbrev pub check_option : HuntOptions → ℕ → Option (Bor (List ℕ)) → List ℕ
check_option options index None =
    forbid_option options.stops.items (index - length options.forbids.items) (slice_get options.forbids.items index)
check_option options index (Some text) = codes "--check " ++ text.now

abbrev pub check_text : HuntOptions → ℕ → List ℕ
check_text options index =
    check_option options (index - length options.checks.items) (slice_get options.checks.items index)

-- how many steps a schedule has, how often the core changes, and how many of the steps come under an event
abbrev pub counts_of : List Pick → Counts
counts_of picks = record { steps = length picks; switches = switches_of picks; events = events_in picks }

-- the events, where there are any
abbrev pub events_text : ℕ → List ℕ
events_text count = if nat_eq count 0 then [] else codes ", events " ++ decimal count

unfoldable pub counts_text : Counts → List ℕ
counts_text counts =
    codes "steps " ++ decimal counts.steps ++ codes ", switches " ++ decimal counts.switches
    ++ events_text counts.events

-- how many of the first steps decide, behind which each core steps in turn, where they are not all
abbrev pub some_text : ℕ → List ℕ
some_text front = codes "; its first " ++ decimal front ++ codes " decide, behind them each core in turn"

abbrev pub front_text : ℕ → List ℕ
front_text front = if nat_eq front 0 then codes "; each core in turn from the start" else some_text front

unfoldable pub deciding_text : ℕ → ℕ → List ℕ
deciding_text front steps = if nat_lt front steps then front_text front else []

-- before it was shortened, and after that
unfoldable pub counts_line : Counts → Counts → ℕ → List ℕ
counts_line before after front =
    line_end ++ counts_text before ++ codes "; shortened to " ++ counts_text after
    ++ deciding_text front after.steps ++ line_end

-- the command that replays a schedule
abbrev pub replay_command : HuntOptions → List Pick → List ℕ
replay_command options picks =
    codes "elide replay " ++ (path_word options.machine.file.now
    ++ (machine_text options.machine ++ schedule_text options.record picks))

-- a schedule is said in a command line where it is recorded, or has at most 1,000 steps
abbrev pub is_short : Option (Bor (List ℕ)) → List Pick → Bool
is_short None picks = nat_le (length picks) 1000
is_short (Some path) picks = true

-- the command that replays a schedule, and else the one that makes its run again
abbrev pub told_command : HuntOptions → ℕ → List Pick → List ℕ
told_command options run picks =
    if is_short options.record picks then replay_command options picks else hunt_command options run

abbrev pub told_line : HuntOptions → ℕ → List Pick → List ℕ
told_line options run picks = told_command options run picks ++ line_end

unfoldable pub run_front : ℕ → List ℕ
run_front run = codes "run " ++ decimal run ++ codes " fails "

-- a run fails: the check, how long its schedule was and is, how much of it decides, the loop that it comes to, its
-- stores that are late past a load, and the command that replays what decides
abbrev pub failure_text : HuntOptions → Beside → Found → List ℕ
failure_text options beside found =
    run_front found.run ++ (check_text options found.failure.check
    ++ (counts_line beside.before (counts_of found.failure.picks.items) found.failure.front
    ++ (cycle_text found.failure.picks.items beside.cycle
    ++ (flat_map late_line beside.lates.items
    ++ told_line options found.run (deciding found.failure)))))

-- what a search came to
abbrev pub search_lines : HuntOptions → Beside → ℕ → ℕ → Option Found → List ℕ
search_lines options beside ended cut None = none_line ended cut
search_lines options beside ended cut (Some found) = failure_text options beside found

abbrev pub search_text : HuntOptions → Beside → Search → List ℕ
search_text options beside search = search_lines options beside search.ended search.cut search.found
