-- What a reader of the page does with a step's delta: the script's `apply`, in words (docs/FORMATS.md, "Pages").
use Rattle.std.specs.Prelude.{ℕ, Bool, false, ◌||◌, if◌then◌else◌, List, [], ◌∷◌, ◌++◌, drop, Option, Some, None}
use Rattle.std.specs.Prelude.{nat_eq, slice_index_or, unwrap_or}
use Rattle.std.specs.List.{list_any}
use Rattle.std.specs.Option.{option_or}
use Rattle.tm_model.specs.State.{Pending}
use Rattle.tm_why.specs.Watched.{is_drain}
use Rattle.tm_page.specs.Types.{Aborted, AbortedBy, Begun, Changes, Committed, Condemned, CoreState, AtStop, Drained}
use Rattle.tm_page.specs.Types.{Hit, Idle, Inside, Loaded, Mid, Open, Outcome, PageDelta, Plain, Regs, Running, Stopped}
use Rattle.tm_page.specs.Types.{Store, StoredByte}

-- what the page has of a core
pub record PageCore : Type 0 where
  pub mode : CoreState
  pub base : Regs  -- what an abort puts back; outside of transactions, its registers
  pub regs : Regs
  pub reads : ℕ → Bool  -- whether a line is in its read set
  pub writes : ℕ → Bool
  pub private : ℕ → Option ℕ  -- by its address, a byte that its transaction keeps for itself

pub record Page : Type 0 where
  pub memory : ℕ → ℕ  -- itself, and not as a core sees it
  pub cores : ℕ → PageCore
  pub pending : ℕ → Pending  -- of each core, its stores that are not in memory yet, the oldest first

-- ---- the parts of a delta

abbrev pub is_listed : List ℕ → ℕ → Bool
is_listed numbers number = list_any (nat_eq number) numbers

-- the byte at an address, where it is among these
abbrev pub stored_at : List StoredByte → ℕ → Option ℕ
stored_at [] address = None
stored_at (stored ∷ others) address =
    if nat_eq address stored.address then Some stored.byte else stored_at others address

abbrev pub patched_list : List (Option ℕ) → List ℕ → List ℕ
patched_list [] values = values
patched_list (change ∷ changes) [] = []
patched_list (change ∷ changes) (value ∷ values) = unwrap_or change value ∷ patched_list changes values

-- registers, with those that changed
abbrev pub patched : Changes → Regs → Regs
patched changes regs = record {
  gpr = patched_list changes.gpr regs.gpr;
  flags = unwrap_or changes.flags regs.flags;
  eip = unwrap_or changes.eip regs.eip;
}

abbrev pub hit_on : PageDelta → ℕ → Option Hit
hit_on delta core = slice_index_or delta.hits core None

-- ---- what it does

-- a core with nothing of a transaction
abbrev pub core_outside : CoreState → Regs → PageCore
core_outside mode regs = record {
  mode = mode;
  base = regs;
  regs = regs;
  reads = λ _. false;
  writes = λ _. false;
  private = λ _. None;
}

-- the core that steps: XBEGIN keeps its registers for an abort and begins with empty sets, a step inside adds to them,
-- a drain leaves it as it is, and every other step leaves it outside
abbrev pub own_after : Outcome → PageDelta → PageCore → PageCore
own_after Begun delta core = record {
  mode = delta.state;
  base = core.regs;
  regs = patched delta.registers core.regs;
  reads = is_listed delta.reads.items;
  writes = is_listed delta.writes.items;
  private = λ _. None;
}
own_after Inside delta core = record {
  mode = delta.state;
  base = core.base;
  regs = patched delta.registers core.regs;
  reads = λ line. core.reads line || is_listed delta.reads.items line;
  writes = λ line. core.writes line || is_listed delta.writes.items line;
  private = λ address. option_or (stored_at delta.stored.items address) (core.private address);
}
own_after Plain delta core = core_outside delta.state (patched delta.registers core.regs)
own_after Loaded delta core = core_outside delta.state (patched delta.registers core.regs)
own_after (Stopped stop) delta core = core_outside delta.state (patched delta.registers core.regs)
own_after Idle delta core = core_outside delta.state (patched delta.registers core.regs)
own_after Committed delta core = core_outside delta.state (patched delta.registers core.regs)
own_after (Aborted status) delta core = core_outside delta.state (patched delta.registers core.regs)
own_after (AbortedBy by status) delta core = core_outside delta.state (patched delta.registers core.regs)
own_after Drained delta core = core

-- the mark of a doomed transaction, which keeps its depth
abbrev pub condemned : CoreState → CoreState
condemned (Open depth) = Condemned depth
condemned Running = Running
condemned Mid = Mid
condemned (Condemned depth) = Condemned depth
condemned (AtStop stop) = AtStop stop

-- another core: one that the delta names is doomed, and shows what its abort puts back
abbrev pub other_after : Option Hit → PageCore → PageCore
other_after None core = core
other_after (Some hit) core = core_outside (condemned core.mode) core.base

-- bytes that are stored inside are private; those of any other step are memory's, and a step whose store is pending
-- behind it tells of none
abbrev pub memory_with : Outcome → List StoredByte → (ℕ → ℕ) → ℕ → ℕ
memory_with Inside stored memory address = memory address
memory_with Plain stored memory address = unwrap_or (stored_at stored address) (memory address)
memory_with Loaded stored memory address = unwrap_or (stored_at stored address) (memory address)
memory_with (Stopped stop) stored memory address = unwrap_or (stored_at stored address) (memory address)
memory_with Idle stored memory address = unwrap_or (stored_at stored address) (memory address)
memory_with Begun stored memory address = unwrap_or (stored_at stored address) (memory address)
memory_with Committed stored memory address = unwrap_or (stored_at stored address) (memory address)
memory_with (Aborted status) stored memory address = unwrap_or (stored_at stored address) (memory address)
memory_with (AbortedBy by status) stored memory address = unwrap_or (stored_at stored address) (memory address)
memory_with Drained stored memory address = unwrap_or (stored_at stored address) (memory address)

-- a store that is pending now stands behind the others
abbrev pub pending_with : Option Store → Pending → Pending
pending_with None pending = pending
pending_with (Some store) pending = pending ++ store ∷ []

-- and a drain takes the oldest away
abbrev pub pending_after : Outcome → Option Store → Pending → Pending
pending_after outcome store pending = if is_drain outcome then drop 1 pending else pending_with store pending

abbrev pub applied : PageDelta → Page → Page
applied delta page = record {
  memory = memory_with delta.outcome delta.stored.items page.memory;
  cores = λ core. if nat_eq core delta.core
      then own_after delta.outcome delta (page.cores core)
      else other_after (hit_on delta core) (page.cores core);
  pending = λ core. if nat_eq core delta.core
      then pending_after delta.outcome delta.pending (page.pending core)
      else page.pending core;
}

-- the first delta first
abbrev pub all_applied : List PageDelta → Page → Page
all_applied [] page = page
all_applied (delta ∷ deltas) page = all_applied deltas (applied delta page)
