-- The objects of `run`, `replay` and `threads` (docs/JSON.md).
use Rattle.std.specs.Prelude.{ℕ, Bool, List, codes, Option, Some, None}
use Rattle.std.specs.Borrow.{Bor}
use Rattle.elide_object.specs.Object.{list_value, number_value}
use Rattle.elide_program.specs.declared.parts.MemoryParts.{MemoryParts}
use Rattle.serde_json.specs.Data.{Data, Members, boolean, member, no_members, null}
use Rattle.tm_core.specs.Theorem.{ShownMachine as Machine}
use Rattle.elide_json.specs.Cores.{cores_value}
use Rattle.elide_json.specs.Memory.{dumps_value, shows_value}
use Rattle.elide_json.specs.Outcomes.{command_value}

-- the state of a machine, as three values, before other members
abbrev pub three_members : Data → Data → Data → Members → Members
three_members cores dumps shows others =
    member (codes "cores") cores (member (codes "dump") dumps (member (codes "show") shows others))

-- its cores, the parts of its memory, and the doublewords that these texts ask for
abbrev pub shown_members : Machine → MemoryParts → List (Bor (List ℕ)) → Members → Members
shown_members machine parts texts others =
    three_members (cores_value machine) (dumps_value machine.memory parts.dumps.items)
    (shows_value machine.memory texts parts.values.items) others

abbrev pub status_member : ℕ → Members
status_member status = member (codes "status") (number_value status) no_members

-- the cores that have not stopped, where it is expected that all do
abbrev pub running_value : Option (List ℕ) → Data
running_value None = null
running_value (Some cores) = list_value number_value cores

-- what stands behind the outcomes of a run: the state, the cores that have not stopped, and the exit status
abbrev pub run_members : Machine → MemoryParts → List (Bor (List ℕ)) → Option (List ℕ) → ℕ → Members
run_members machine parts texts running status =
    shown_members machine parts texts (member (codes "running") (running_value running) (status_member status))

-- of a machine that was run again, and whether both runs ended alike
abbrev pub replay_value : Machine → MemoryParts → List (Bor (List ℕ)) → Bool → ℕ → Data
replay_value machine parts texts agrees status =
    command_value (codes "replay") (shown_members machine parts texts
    (member (codes "agree") (boolean agrees) (status_member status)))

abbrev pub threads_value : Machine → MemoryParts → List (Bor (List ℕ)) → Data
threads_value machine parts texts =
    command_value (codes "threads") (shown_members machine parts texts (status_member 0))
