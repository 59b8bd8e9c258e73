-- The runs that `--runs` says, the events that `--events` says, and how `--method` has the core of each step drawn
-- (docs/FORMATS.md, "Options of the command line").
use Rattle.std.specs.Prelude.{◌≡◌, ◌≢◌, ◌<◌, ◌≤◌, ◌⊎◌, ℕ, List, ◌++◌, codes, nat_eq, Option, Some, None}
use Rattle.std.specs.Prelude.{if◌then◌else◌}
use Rattle.std.specs.Cmp.Lexicographic.{pointwise}
use Rattle.elide_program.specs.Settings.{number_or, word32}
use Rattle.elide_setup.specs.Events.{events_said}
use Rattle.tm_pick.specs.declared.events.Events.{Events}
use Rattle.tm_pick.specs.declared.events.Events.TheVariants.{Never, Draw}
use Rattle.tm_pick.specs.declared.method.Method.{Method}
use Rattle.tm_pick.specs.declared.method.Method.TheVariants.{Mix, Uniform, Bursts, Priorities, Seen}

-- the runs of the numbers from A to B - 1
pub record AreBetween (text : List ℕ) (first end : ℕ) : Type 0 where
  pub low : List ℕ
  pub high : List ℕ
  pub whole : text ≡ low ++ (codes ".." ++ high)
  pub first_said : word32 low ≡ Some first
  pub end_said : word32 high ≡ Some end
  pub ordered : first ≤ end

-- those, or of the numbers from 0 to K - 1
abbrev pub AreRuns : Option (List ℕ) → ℕ → ℕ → Type 0
AreRuns None first end = ⊥
AreRuns (Some text) first end = ((first ≡ 0) × (word32 text ≡ Some end)) ⊎ AreBetween text first end

-- the events of the runs: none where the option is not given, those that each run draws with `draw`, and else those of
-- a rate
abbrev pub events_asked : Option (List ℕ) → Option Events
events_asked None = Some Never
events_asked (Some text) = if pointwise nat_eq text (codes "draw") then Some Draw else events_said text

abbrev pub method_word : Method → List ℕ
method_word Mix = codes "mix"
method_word Uniform = codes "uniform"
method_word Bursts = codes "bursts"
method_word Priorities = codes "pct"
method_word Seen = codes "seen"

-- ---- values that are none of these

-- no runs: the option is not given; it is no number, and has no `..`; or it has one, and a number is wanting before it
-- or behind it, or the first is above the second
pub data AreNoRuns (option : Option (List ℕ)) : Type 0 where
  not_given : option ≡ None → AreNoRuns option
  no_count : (text : List ℕ) → option ≡ Some text → word32 text ≡ None
      → ((low high : List ℕ) → text ≢ low ++ (codes ".." ++ high)) → AreNoRuns option
  no_first : (low high : List ℕ) → option ≡ Some (low ++ (codes ".." ++ high)) → word32 low ≡ None → AreNoRuns option
  no_end : (low high : List ℕ) → option ≡ Some (low ++ (codes ".." ++ high)) → word32 high ≡ None → AreNoRuns option
  turned : (low high : List ℕ) (first end : ℕ) → option ≡ Some (low ++ (codes ".." ++ high)) → word32 low ≡ Some first
      → word32 high ≡ Some end → end < first → AreNoRuns option

-- the word of no method
abbrev pub IsNoMethod : Option (List ℕ) → Type 0
IsNoMethod option = (method : Method) → option ≢ Some (method_word method)

-- no number from 1 on
abbrev pub IsNoLimit : Option (List ℕ) → Type 0
IsNoLimit option = (most : ℕ) → number_or 1000000 option ≡ Some most → most ≡ 0
