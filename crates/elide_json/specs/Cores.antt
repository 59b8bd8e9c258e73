-- The cores of a machine (docs/JSON.md, "The state of a machine").
use Rattle.std.specs.Prelude.{ℕ, ◌==◌, Bool, List, [], ◌∷◌, ◌++◌, codes, if◌then◌else◌, length, slice_index}
use Rattle.std.specs.Prelude.{None, Option, Some}
use Rattle.std.specs.List.{range_with_len}
use Rattle.elide_object.specs.Object.{list_value, number_value, text_list}
use Rattle.ia_regs.specs.Flags.{has_carry, has_parity, has_adjust, has_zero, has_sign, has_overflow}
use Rattle.ia_regs.specs.declared.Regs.{Regs}
use Rattle.ia_regs.specs.declared.flags.Flags.{Flags}
use Rattle.ia_word.specs.Width.{bytes_of}
use Rattle.serde_json.specs.Data.{Data, Members, member, no_members, object, string}
use Rattle.tm_core.specs.Theorem.{ShownMachine as Machine, pending_at, view_at}
use Rattle.tm_core.specs.Types.{Store}
use Rattle.tm_hist.specs.Machine.{depth_of}
use Rattle.tm_model.specs.State.{Pending}
use Rattle.tm_model.specs.declared.outcome.CoreState.{CoreState}
use Rattle.elide_json.specs.Words.{state_name, state_stop}
use Rattle.elide_object.specs.Object.{text_or_null}

abbrev pub named_if : Bool → List ℕ → List (List ℕ)
named_if is_set name = if is_set then name ∷ [] else []

-- the names of the flags that are set, in the order of their bits (SDM volume 1, "EFLAGS Register")
abbrev pub flag_names : Flags → List (List ℕ)
flag_names f =
    named_if (has_carry f) (codes "CF") ++ named_if (has_parity f) (codes "PF")
    ++ named_if (has_adjust f) (codes "AF") ++ named_if (has_zero f) (codes "ZF")
    ++ named_if (has_sign f) (codes "SF") ++ named_if (has_overflow f) (codes "OF")

-- what the core is doing, before other members
abbrev pub state_members : CoreState → Members → Members
state_members state others =
    member (codes "state") (string (state_name state))
    (member (codes "depth") (number_value (depth_of state))
    (member (codes "stop") (text_or_null (state_stop state)) others))

-- the general registers, by number, and the instruction pointer, before other members
abbrev pub regs_members : Regs → Members → Members
regs_members regs others =
    member (codes "eax") (number_value (slice_index regs.gpr 0))
    (member (codes "ecx") (number_value (slice_index regs.gpr 1))
    (member (codes "edx") (number_value (slice_index regs.gpr 2))
    (member (codes "ebx") (number_value (slice_index regs.gpr 3))
    (member (codes "esp") (number_value (slice_index regs.gpr 4))
    (member (codes "ebp") (number_value (slice_index regs.gpr 5))
    (member (codes "esi") (number_value (slice_index regs.gpr 6))
    (member (codes "edi") (number_value (slice_index regs.gpr 7))
    (member (codes "eip") (number_value regs.eip) others))))))))

-- a core of this number that has these registers, before other members
abbrev pub front_members : ℕ → CoreState → Regs → Members → Members
front_members core state regs others =
    member (codes "core") (number_value core)
    (state_members state (regs_members regs
    (member (codes "flags") (text_list (flag_names regs.flags)) others)))

-- a store that is not in memory yet: the address of its lowest byte, and of how many bytes it is
abbrev pub store_value : Store → Data
store_value store =
    object (member (codes "address") (number_value store.addr)
    (member (codes "value") (number_value store.value)
    (member (codes "width") (number_value (bytes_of store.width)) no_members)))

-- the stores of a core that are pending, the oldest first
abbrev pub stores_value : Pending → Data
stores_value pending = list_value store_value pending

-- they are told where there is room for one
abbrev pub stores_members : Option Pending → Members
stores_members None = no_members
stores_members (Some pending) = member (codes "pending") (stores_value pending) no_members

abbrev pub stores_told : Machine → ℕ → Option Pending
stores_told machine core = if machine.store_buffer == 0 then None else Some (pending_at machine core)

unfoldable pub core_object : ℕ → CoreState → Regs → Option Pending → Data
core_object core state regs stores = object (front_members core state regs (stores_members stores))

abbrev pub core_value : Machine → ℕ → Data
core_value machine core =
    core_object core (view_at machine core).mode (view_at machine core).regs (stores_told machine core)

-- all cores, in the order of their numbers
abbrev pub cores_value : Machine → Data
cores_value machine = list_value (core_value machine) (range_with_len 0 (length machine.views))
