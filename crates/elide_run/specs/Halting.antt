-- What `elide run --expect-halt` tells of a machine (docs/FORMATS.md, "Options of the command line"): a line a core
-- that has not stopped, and whether there is one.
use Rattle.std.specs.Prelude.{ℕ, Bool, List, [], ◌++◌, codes, if◌then◌else◌, is_some, length}
use Rattle.std.specs.List.{flat_map, list_all, range_with_len}
use Rattle.text_out.specs.Number.{eight_digits}
use Rattle.text_out.specs.TextLine.{line_end, number_text}
use Rattle.tm_core.specs.Theorem.{ShownMachine as Machine, view_at}
use Rattle.tm_hist.specs.Board.{stop_shown}
use Rattle.elide_run.specs.declared.halting.Ending.{Ending}
use Rattle.elide_run.specs.declared.halting.Ending.TheVariants.{AsAsked, RunsOn}

abbrev pub is_stopped : Machine → ℕ → Bool
is_stopped machine core = is_some (stop_shown (view_at machine core).mode)

-- the line of a core that has not, and the address at which it is
unfoldable pub running_line : ℕ → ℕ → List ℕ
running_line core eip =
    codes "core " ++ number_text core ++ codes " has not stopped: eip=" ++ eight_digits eip ++ line_end

-- that of a core of a machine, where it has not stopped
abbrev pub running_text : Machine → ℕ → List ℕ
running_text machine core = if is_stopped machine core then [] else running_line core (view_at machine core).regs.eip

-- those of all cores, in the order of their numbers
abbrev pub halt_lines : Machine → List ℕ
halt_lines machine = flat_map (running_text machine) (range_with_len 0 (length machine.views))

-- `RunsOn` exactly where a core has not stopped
abbrev pub halt_ending : Machine → Ending
halt_ending machine =
    if list_all (is_stopped machine) (range_with_len 0 (length machine.views)) then AsAsked else RunsOn

-- both where it is asked for that all cores stop
abbrev pub asked_lines : Bool → Machine → List ℕ
asked_lines expects machine = if expects then halt_lines machine else []

abbrev pub asked_ending : Bool → Machine → Ending
asked_ending expects machine = if expects then halt_ending machine else AsAsked
