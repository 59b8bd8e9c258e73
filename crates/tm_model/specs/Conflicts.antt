-- Conflicts by line: what a step stores in memory hits the open transactions of other cores that have the line in
-- their read set or write set, and what it loads hits those that have it in their write set (SDM volume 1, 16.2.4.2).
-- The core that steps goes on, and a transaction that it hits is doomed (forward validation: Härder, "Observations on
-- Optimistic Concurrency Control Schemes", Information Systems 9, 1984).
use Rattle.std.specs.Prelude.{ℕ, suc, Bool, ◌||◌, if◌then◌else◌, List, [], ◌∷◌, Option, Some, None, nat_eq}
use Rattle.tm_model.specs.Access.{have_line_of, stored_addresses, stores_of}
use Rattle.tm_model.specs.Isolated.{Body, isolated_body, read_set, write_set}
use Rattle.tm_model.specs.Setting.{Setting, outside_at}
use Rattle.tm_model.specs.State.{Closed, Core, Midway, Opened, Pending, State, seen_by, seen_memory}
use Rattle.tm_model.specs.Steps.{store_buffered}
use Rattle.tm_model.specs.Types.{Aborted, AbortedBy, Begins, Committed, Drained, Goes, Inside, Loaded, Outcome}
use Rattle.tm_model.specs.Types.{OutsideResult, Plain, Stops, Store}

-- ---- what a step loads and stores

abbrev pub addresses_loaded_after : Setting → Option Body → List ℕ
addresses_loaded_after setting None = []
addresses_loaded_after setting (Some body) = setting.load_of body.regs

-- The addresses that a step loads: outside, those of an instruction's one step or of the first of two, which it takes
-- from memory; inside, those of the one instruction, also where the transaction's own bytes answer. A commit runs no
-- instruction anew, and a step that stops or aborts loads nothing.
abbrev pub addresses_loaded_by : Setting → List ℕ → Core → Outcome → List ℕ
addresses_loaded_by setting memory (Closed regs) Plain = setting.load_of regs
addresses_loaded_by setting memory (Closed regs) Loaded = setting.load_of regs
addresses_loaded_by setting memory (Opened regs steps) Inside =
    addresses_loaded_after setting (isolated_body setting regs memory steps)
addresses_loaded_by setting memory core outcome = []

abbrev pub addresses_stored_outside : OutsideResult → List ℕ
addresses_stored_outside (Goes regs store) = stored_addresses (stores_of store)
addresses_stored_outside (Begins regs) = []
addresses_stored_outside (Stops stop) = []

abbrev pub addresses_stored_inside : Option Body → List ℕ
addresses_stored_inside None = []
addresses_stored_inside (Some body) = stored_addresses body.stores

-- The addresses that a step stores to in memory: outside, those of an instruction's one step or of the second of two;
-- of a commit, those of its whole body.
abbrev pub addresses_stored_by : Setting → List ℕ → Core → Outcome → List ℕ
addresses_stored_by setting memory (Closed regs) Plain = addresses_stored_outside (outside_at setting regs memory)
addresses_stored_by setting memory (Midway regs value) Plain = addresses_stored_outside (setting.outside regs value)
addresses_stored_by setting memory (Opened regs steps) Committed =
    addresses_stored_inside (isolated_body setting regs memory (suc steps))
addresses_stored_by setting memory core outcome = []

-- the addresses that a store writes in memory when it is no longer pending
abbrev pub addresses_drained : Pending → List ℕ
addresses_drained [] = []
addresses_drained (oldest ∷ younger) = stored_addresses (stores_of (Some oldest))

-- what a step stores is in memory at once
abbrev pub addresses_at_once : Option Store → List ℕ → List ℕ
addresses_at_once None addresses = addresses
addresses_at_once (Some store) addresses = []

-- The addresses that a step writes in memory: those that it stores to, but for a store that is pending now, whose step
-- in memory comes later. So a store hits nobody before other cores can see it.
abbrev pub addresses_written_by : Setting → List ℕ → Pending → Core → Outcome → List ℕ
addresses_written_by setting memory pending core Drained = addresses_drained pending
addresses_written_by setting memory pending core outcome =
    let seen : List ℕ = seen_memory memory pending in
    addresses_at_once (store_buffered setting seen core outcome) (addresses_stored_by setting seen core outcome)

-- ---- what it hits

-- by these addresses loaded and these stored; a store of an unchanged value counts
abbrev pub is_hit : List ℕ → List ℕ → Body → Bool
is_hit loads stores body =
    have_line_of (read_set body) stores || (have_line_of (write_set body) stores || have_line_of (write_set body) loads)

-- of each doomed core, the depth that its transaction had when it was hit
abbrev pub Doomed : Type 0
Doomed = ℕ → Option ℕ

abbrev pub depth_at_hit : List ℕ → List ℕ → Option Body → Option ℕ
depth_at_hit loads stores None = None
depth_at_hit loads stores (Some body) = if is_hit loads stores body then Some body.depth else None

-- what another core's loads and stores make of a core which sees this memory before that step
abbrev pub doom_after_other : Setting → List ℕ → List ℕ → List ℕ → Core → Option ℕ → Option ℕ
doom_after_other setting memory loads stores (Opened regs steps) None =
    depth_at_hit loads stores (isolated_body setting regs memory steps)
doom_after_other setting memory loads stores core doom = doom

-- a doomed core is so until its own abort
abbrev pub doom_after_own : Outcome → Option ℕ → Option ℕ
doom_after_own (Aborted status) doom = None
doom_after_own (AbortedBy by status) doom = None
doom_after_own outcome doom = doom

-- the doomed cores after a step of the core of this number
abbrev pub doomed_after : Setting → State → Doomed → ℕ → Outcome → Doomed
doomed_after setting state doomed number outcome other =
    if nat_eq other number
    then doom_after_own outcome (doomed number)
    else
    doom_after_other setting (seen_by state other)
    (addresses_loaded_by setting (seen_by state number) (state.cores number) outcome)
    (addresses_written_by setting state.memory (state.pending number) (state.cores number) outcome)
    (state.cores other) (doomed other)
