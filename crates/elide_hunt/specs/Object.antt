-- The object that `elide hunt --json` prints (docs/JSON.md, "hunt").
use Rattle.std.specs.Prelude.{ℕ, ◌-◌, nat_lt, Bool, true, false, List, codes, length, Option, Some, None, slice_get}
use Rattle.std.specs.Prelude.{if◌then◌else◌}
use Rattle.std.specs.Borrow.{Bor}
use Rattle.elide_args.specs.declared.hunt_options.HuntOptions.{HuntOptions}
use Rattle.elide_object.specs.Object.{list_value, number_value, schedule_value}
use Rattle.elide_program.specs.Settings.{has_store_buffer}
use Rattle.serde_json.specs.Data.{Data, Members, member, no_members, null, object, string}
use Rattle.tm_model.specs.declared.outcome.Pick.{Pick}
use Rattle.tm_hunt.specs.Cycle.{loop_of}
use Rattle.tm_hunt.specs.Deciding.{deciding}
use Rattle.tm_hunt.specs.declared.cycle.Cycle.{Cycle}
use Rattle.tm_hunt.specs.declared.searching.Found.{Found}
use Rattle.tm_hunt.specs.declared.searching.Search.{Search}
use Rattle.elide_hunt.specs.Lines.{counts_of, told_command}
use Rattle.elide_hunt.specs.declared.late.Late.{Late}
use Rattle.elide_hunt.specs.declared.report.Beside.{Beside}
use Rattle.elide_hunt.specs.declared.report.Counts.{Counts}

-- the option that says the check with this index: those of `--check` come first, then those of `--forbid`, then those
-- of `--stop`
abbrev pub option_value : List ℕ → Data → Data
option_value name text = object (member (codes "option") (string name) (member (codes "text") text no_members))

abbrev pub stop_value : Option (Bor (List ℕ)) → Data
stop_value None = option_value (codes "--expect-halt") null
stop_value (Some text) = option_value (codes "--stop") (string text.now)

abbrev pub forbid_value : List (Bor (List ℕ)) → ℕ → Option (Bor (List ℕ)) → Data
forbid_value stops index None = stop_value (slice_get stops index)
forbid_value stops index (Some text) = option_value (codes "--forbid") (string text.now)

abbrev pub option_of : HuntOptions → ℕ → Option (Bor (List ℕ)) → Data
option_of options index None =
    forbid_value options.stops.items (index - length options.forbids.items) (slice_get options.forbids.items index)
option_of options index (Some text) = option_value (codes "--check") (string text.now)

abbrev pub check_value : HuntOptions → ℕ → Data
check_value options index =
    option_of options (index - length options.checks.items) (slice_get options.checks.items index)

-- how long a schedule is
abbrev pub counts_value : Counts → Data
counts_value counts =
    object (member (codes "steps") (number_value counts.steps)
    (member (codes "switches") (number_value counts.switches)
    (member (codes "events") (number_value counts.events) no_members)))

-- the steps of a loop, where they are at most 64
abbrev pub loop_value : List Pick → Data
loop_value steps = if nat_lt 64 (length steps) then null else schedule_value steps

-- a loop of these steps: how many steps come before it, how many it has, and these
abbrev pub told_cycle : Cycle → List Pick → Data
told_cycle cycle steps =
    object (member (codes "start") (number_value cycle.start)
    (member (codes "steps") (number_value cycle.steps)
    (member (codes "schedule") (loop_value steps) no_members)))

-- the loop that a run of these steps comes to
abbrev pub cycle_value : List Pick → Option Cycle → Data
cycle_value picks None = null
cycle_value picks (Some cycle) = told_cycle cycle (loop_of picks cycle)

-- a store that is late past a load: its core, their steps, counted from 1, and the addresses of their instructions
abbrev pub late_value : Late → Data
late_value late =
    object (member (codes "core") (number_value late.core)
    (member (codes "stored") (number_value late.stored)
    (member (codes "store") (number_value late.store_eip)
    (member (codes "loaded") (number_value late.loaded)
    (member (codes "load") (number_value late.load_eip) no_members)))))

-- those of a run, where stores may be pending
abbrev pub lates_then : Bool → List Late → Members → Members
lates_then true lates rest = member (codes "delayed") (list_value late_value lates) rest
lates_then false lates rest = rest

-- the run that failed: its check, how long its schedule was and is, how many of its steps decide, these, the loop that
-- it comes to, its stores that are late, and the command that replays what decides or makes the run again
abbrev pub failure_value : HuntOptions → Beside → List ℕ → Found → Data
failure_value options beside replay found =
    object (member (codes "run") (number_value found.run)
    (member (codes "check") (check_value options found.failure.check)
    (member (codes "before") (counts_value beside.before)
    (member (codes "after") (counts_value (counts_of found.failure.picks.items))
    (member (codes "deciding") (number_value found.failure.front)
    (member (codes "schedule") (schedule_value (deciding found.failure))
    (member (codes "cycle") (cycle_value found.failure.picks.items beside.cycle)
    (lates_then (has_store_buffer options.machine) beside.lates.items
    (member (codes "replay") (string replay) no_members)))))))))

abbrev pub found_value : HuntOptions → Beside → Option Found → Data
found_value options beside None = null
found_value options beside (Some found) =
    failure_value options beside (told_command options found.run (deciding found.failure)) found

-- the exit status
abbrev pub search_status : {A : Type 0} → Option A → ℕ
search_status None = 0
search_status (Some found) = 3

-- in how many runs that passed each core stopped, and how many reached the limit
abbrev pub runs_value : ℕ → ℕ → Data
runs_value ended cut =
    object (member (codes "ended") (number_value ended) (member (codes "cut") (number_value cut) no_members))

unfoldable pub hunt_value : ℕ → ℕ → Data → ℕ → Data
hunt_value ended cut failure status =
    object (member (codes "format") (number_value 1)
    (member (codes "command") (string (codes "hunt"))
    (member (codes "runs") (runs_value ended cut)
    (member (codes "failure") failure
    (member (codes "status") (number_value status) no_members)))))

-- what a search came to
abbrev pub search_value : HuntOptions → Beside → Search → Data
search_value options beside search =
    hunt_value search.ended search.cut (found_value options beside search.found) (search_status search.found)
