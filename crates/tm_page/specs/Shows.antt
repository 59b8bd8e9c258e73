-- What it is that a page shows of a machine, and that a delta is right.
use Rattle.std.specs.Prelude.{◌≡◌, ℕ, ◌<◌, ◌%◌, ◌^◌, List, [], ◌∷◌, Option, Some, length, nat_eq, option_map}
use Rattle.std.specs.Prelude.{if◌then◌else◌, slice_index, unwrap_or}
use Rattle.std.specs.FinMap as map_of
use Rattle.std.specs.FinSet as set
use Rattle.tm_model.specs.Access.{Stores, stores_of}
use Rattle.tm_model.specs.Shown.{View}
use Rattle.tm_model.specs.State.{Pending}
use Rattle.tm_core.specs.Seen.{byte_seen}
use Rattle.tm_core.specs.Theorem.{ShownMachine, pending_at, view_at}
use Rattle.tm_page.specs.Applied.{Page, PageCore, all_applied, applied}
use Rattle.tm_page.specs.Types.{PageDelta}

-- an address of 32 bits that lies in a memory of so many bytes
abbrev pub IsAddress : ℕ → ℕ → Type 0
IsAddress size address = (address < size) × (address < 2 ^ 32)

-- the byte that a transaction keeps for itself at an address
abbrev pub private_byte : View → ℕ → Option ℕ
private_byte view address = option_map (λ byte. byte % 256) (map_of.get view.buffer address)

-- of a core of a machine with so many bytes of memory
pub record ShowsCore (size : ℕ) (view : View) (core : PageCore) : Type 0 where
  pub mode : view.mode ≡ core.mode
  pub base : view.base ≡ core.base
  pub regs : view.regs ≡ core.regs
  pub reads : (line : ℕ) → set.contains view.reads line ≡ core.reads line
  pub writes : (line : ℕ) → set.contains view.writes line ≡ core.writes line
  pub private : (address : ℕ) → IsAddress size address → private_byte view address ≡ core.private address

-- a page is what the machine shows: of each core its state, its registers, its sets, its private bytes and its pending
-- stores, and memory
pub record Shows (machine : ShownMachine) (page : Page) : Type 0 where
  pub memory : (address : ℕ) → IsAddress (length machine.memory) address →
      slice_index machine.memory address ≡ page.memory address
  pub cores : (number : ℕ) → number < length machine.views →
      ShowsCore (length machine.memory) (view_at machine number) (page.cores number)
  pub pending : (number : ℕ) → number < length machine.views → pending_at machine number ≡ page.pending number

-- a step's delta takes each page of the machine before it to one of the machine behind it
abbrev pub IsDelta : ShownMachine → ShownMachine → PageDelta → Type 0
IsDelta before after delta = (page : Page) → Shows before page → Shows after (applied delta page)

-- each delta of a run is of its step
abbrev pub AreDeltas : ShownMachine → List PageDelta → ShownMachine → Type 0
AreDeltas start [] now = start ≡ now
AreDeltas start (delta ∷ deltas) now = (next : ShownMachine) × IsDelta start next delta × AreDeltas next deltas now

-- ---- laws

-- behind all steps of a run the page is what the machine shows
abbrev pub StatesStand : Type 0
StatesStand =
    (start now : ShownMachine) (deltas : List PageDelta) (page : Page) →
    Shows start page → AreDeltas start deltas now → Shows now (all_applied deltas page)

-- bytes over others, of each address the newest
abbrev pub bytes_over : Stores → (ℕ → ℕ) → ℕ → ℕ
bytes_over [] memory address = memory address
bytes_over (store ∷ stores) memory address =
    if nat_eq address store.0 then store.1 else bytes_over stores memory address

-- memory with stores that are pending laid over it, the oldest first
abbrev pub pending_over : Pending → (ℕ → ℕ) → ℕ → ℕ
pending_over [] memory = memory
pending_over (oldest ∷ younger) memory = pending_over younger (bytes_over (stores_of (Some oldest)) memory)

-- a core sees its private bytes over its pending stores, and these over memory
abbrev pub SeesPrivate : Type 0
SeesPrivate =
    (machine : ShownMachine) (page : Page) (core address : ℕ) →
    Shows machine page → core < length machine.views → IsAddress (length machine.memory) address →
    byte_seen machine core address
    ≡ unwrap_or ((page.cores core).private address) (pending_over (page.pending core) page.memory address) % 256
