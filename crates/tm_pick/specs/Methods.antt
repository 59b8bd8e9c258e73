-- By which method the cores of a run are drawn (docs/FORMATS.md, "Options of the command line", "Hunt").
use Rattle.std.specs.Prelude.{◌≡◌, ℕ, ◌%◌, [], true, false, nat_eq, nat_lt, if◌then◌else◌}
use Rattle.tm_pick.specs.declared.method.Method.{Method}
use Rattle.tm_pick.specs.declared.method.Method.TheVariants.{Mix, Uniform, Bursts, Priorities, Seen}
use Rattle.tm_pick.specs.declared.seen.Draws.{Draws}
use Rattle.tm_pick.specs.declared.seen.Draws.TheVariants.{Each, InRounds}

-- of `mix`: `seen` each second run, and `uniform`, `bursts` and `pct` in turn the others
abbrev pub mixed_by : ℕ → Method
mixed_by turn =
    if nat_eq turn 0 then Uniform else if nat_eq turn 2 then Bursts else if nat_eq turn 4 then Priorities else Seen

abbrev pub method_of_run : Method → ℕ → Method
method_of_run Mix run = mixed_by (run % 6)
method_of_run Uniform run = Uniform
method_of_run Bursts run = Bursts
method_of_run Priorities run = Priorities
method_of_run Seen run = Seen

-- of `seen`: each as likely as another where the number, divided by 4, leaves 0 or 1, and else in rounds, of which
-- the first begins
abbrev pub IsDrawnBy : ℕ → Draws → Type 0
IsDrawnBy run Each = nat_lt (run % 4) 2 ≡ true
IsDrawnBy run (InRounds rounds) = (nat_lt (run % 4) 2 ≡ false) × (rounds.left.items ≡ [])
