-- How a machine's parts show its views, and what holds of them between steps.
use Rattle.std.specs.Prelude.{◌≡◌, ℕ, ◌+◌, ◌*◌, ◌^◌, ◌<◌, ◌≤◌, Bool, true, false, List, [], Option, Some, None}
use Rattle.std.specs.Prelude.{if◌then◌else◌, length, map}
use Rattle.std.specs.Prelude.{slice_index_or, nat_eq, IfSome}
use Rattle.std.specs.List.{list_any}
use Rattle.std.specs.FinSet as set
use Rattle.std.specs.FinMap as map_of
use Rattle.ia_word.specs.Width.{bytes_of}
use Rattle.tm_buffer.specs.Buffer.{Fits}
use Rattle.tm_sets.specs.Content.{Content}
use Rattle.tm_core.specs.declared.cpu.Cpu.{Cpu}
use Rattle.tm_core.specs.declared.step.OutsideStep.{OutsideStep}
use Rattle.tm_core.specs.declared.usual.Usual.{Usual}
use Rattle.tm_core.specs.declared.usual.Usual.TheVariants as usual
use Rattle.tm_core.specs.declared.usual.UsualOutcome.{UsualOutcome}
use Rattle.tm_core.specs.declared.usual.UsualOutcome.TheVariants as tag
use Rattle.tm_core.specs.declared.transaction.InsideStep.{InsideStep}
use Rattle.tm_core.specs.declared.transaction.InsideStep.TheVariants.{Aborts, Commits, GoesInside}
use Rattle.tm_core.specs.StepRefinement.{StepResult, Touched, finished, lines_hit, stayed, stepped, stepped_under}
use Rattle.tm_core.specs.StepRefinement.{touched_by, views_after}
use Rattle.tm_core.specs.Theorem.{no_regs}
use Rattle.tm_core.specs.Types.{Aborted, AbortedBy, Access, AtStop, Begun, Committed, Condemned, CoreState, Drained}
use Rattle.tm_core.specs.Types.{Event}
use Rattle.tm_core.specs.Types.{Idle, Inside, Kind}
use Rattle.tm_core.specs.Types.{Lines}
use Rattle.tm_core.specs.Types.{Open}
use Rattle.tm_core.specs.Types.{Loaded, Mid, Outcome, Plain, Read, Regs, Running, Stopped}
use Rattle.tm_core.specs.Types.{Store, Width, Write}
use Rattle.tm_model.specs.Access.{loaded_addresses, memory_after, stores_of}
use Rattle.tm_model.specs.Owed.{have_room}
use Rattle.tm_model.specs.Setting.{Setting, setting_of}
use Rattle.tm_model.specs.Shown.{View, view_between, view_outside}
use Rattle.tm_quick.specs.Goes.{IsGoing}

-- ---- views

-- between the two steps of an instruction
abbrev pub kept_in : CoreState → ℕ → ℕ
kept_in Mid value = value
kept_in Running value = 0
kept_in (Open depth) value = 0
kept_in (Condemned depth) value = 0
kept_in (AtStop stop) value = 0

-- the registers now: those of the body while a transaction is open
abbrev pub regs_in : CoreState → Regs → Regs → Regs
regs_in (Open depth) base regs = regs
regs_in Running base regs = base
regs_in Mid base regs = base
regs_in (Condemned depth) base regs = base
regs_in (AtStop stop) base regs = base

abbrev pub regs_of : Cpu → Regs
regs_of cpu = regs_in cpu.state cpu.base cpu.regs

abbrev pub cpu_view : Content → ℕ → Cpu → View
cpu_view content number cpu = record {
  mode = cpu.state;
  base = cpu.base;
  regs = regs_of cpu;
  kept = kept_in cpu.state cpu.kept;
  buffer = cpu.buffer.bytes;
  reads = content.lines number Read;
  writes = content.lines number Write;
}

abbrev pub no_cpu : Cpu
no_cpu = record {
  base = no_regs;
  regs = no_regs;
  state = Running;
  kept = 0;
  buffer = record { bytes = map_of.empty; order = []; slots = []; room = 0 };
}

abbrev pub cpu_at : List Cpu → ℕ → Cpu
cpu_at cpus number = slice_index_or cpus number no_cpu

abbrev pub cpu_views : Content → List Cpu → ℕ → View
cpu_views content cpus number = cpu_view content number (cpu_at cpus number)

-- a view, with the order and the number of the lines of the buffer, the slots that these lines hold there, and the
-- slots that the sets tell of lines
pub record KeptCore : Type 0 where
  pub view : View
  pub order : List ℕ
  pub room : ℕ
  pub held : List ℕ
  pub slots : ℕ → Option ℕ

abbrev pub kept_of : Content → ℕ → Cpu → KeptCore
kept_of content number cpu = record {
  view = cpu_view content number cpu;
  order = cpu.buffer.order;
  room = cpu.buffer.room;
  held = cpu.buffer.slots;
  slots = content.slots number;
}

abbrev pub kept_at : Content → List Cpu → ℕ → KeptCore
kept_at content cpus number = kept_of content number (cpu_at cpus number)

-- ---- hits

abbrev pub condemn_kept : CoreState → KeptCore → KeptCore
condemn_kept (Open depth) core = record {
  view = view_outside (Condemned depth) core.view.base;
  order = [];
  room = core.room;
  held = [];
  slots = λ _. None;
}
condemn_kept Running core = core
condemn_kept Mid core = core
condemn_kept (Condemned depth) core = core
condemn_kept (AtStop stop) core = core

abbrev pub kept_after_hit : Touched → KeptCore → KeptCore
kept_after_hit touched core =
    if lines_hit core.view.reads core.view.writes touched then condemn_kept core.view.mode core else core

-- of all cores but the one of this number
abbrev pub AreHit : Touched → ℕ → ℕ → (ℕ → KeptCore) → (ℕ → KeptCore) → Type 0
AreHit touched number count before after =
    (other : ℕ) → other < count →
    after other ≡ (if nat_eq other number then before other else kept_after_hit touched (before other))

-- an access lies on lines that the sets know
abbrev pub IsOnLines : Content → ℕ → Width → Type 0
IsOnLines content address width =
    (address + bytes_of width ≤ content.fixed.line_count * 64) × (address + bytes_of width ≤ 2 ^ 32)

abbrev pub IsLoadOnLines : Content → InsideStep → Type 0
IsLoadOnLines content (GoesInside access) = IfSome access (λ load. IsOnLines content load.addr load.width)
IsLoadOnLines content (Aborts outcome) = Unit {0}
IsLoadOnLines content Commits = Unit {0}

-- ---- between steps

-- the buffer has just the lines of the write set, on the slots that the sets tell, and room for as many as that
pub record IsHeld (room : ℕ) (core : KeptCore) : Type 0 where
  pub same_room : core.room ≡ room
  pub count : length core.order ≡ set.len core.view.writes
  pub same : (q : ℕ) → list_any (nat_eq q) core.order ≡ set.contains core.view.writes q
  pub slotted : map core.slots core.order ≡ map Some core.held

-- the sets of all cores but one are as they were
pub record Elsewhere (before after : Content) (number : ℕ) : Type 0 where
  pub lines : (other : ℕ) → (nat_eq other number ≡ true → ⊥) → (kind : Kind) →
      after.lines other kind ≡ before.lines other kind
  pub slots : (other : ℕ) → (nat_eq other number ≡ true → ⊥) → after.slots other ≡ before.slots other
  pub fixed : after.fixed ≡ before.fixed

-- where at most so many stores of a core are pending
abbrev pub setting_with : List ℕ → ℕ → ℕ → Content → ℕ → Setting
setting_with code base size content most =
    setting_of code base size (content.fixed.room Read) (content.fixed.room Write) most

-- and where none may be
abbrev pub parts_setting : List ℕ → ℕ → ℕ → Content → Setting
parts_setting code base size content = setting_with code base size content 0

-- each line begins below the memory's end
abbrev pub AreLines : Lines → ℕ → Type 0
AreLines lines size = (q : ℕ) → set.contains lines q ≡ true → q * 64 < size

-- what holds of each core
abbrev pub Sane : Setting → View → CoreState → Type 0
Sane setting view (Open depth) =
    (0 < depth) × (depth ≤ 7) × (have_room setting view.reads view.writes ≡ true)
    × Fits view.buffer setting.size × AreLines view.writes setting.size
Sane setting view Running = view ≡ view_outside Running view.base
Sane setting view Mid =
    (view ≡ view_between view.base view.kept) × IsGoing (setting.outside view.base view.kept)
Sane setting view (Condemned depth) = view ≡ view_outside (Condemned depth) view.base
Sane setting view (AtStop stop) = view ≡ view_outside (AtStop stop) view.base

pub record IsSound (setting : Setting) (content : Content) (cpus : List Cpu) : Type 0 where
  pub sane : (number : ℕ) → number < length cpus →
      Sane setting (cpu_views content cpus number) (cpu_at cpus number).state
  pub held : (number : ℕ) → number < length cpus → IsHeld setting.write_lines (kept_at content cpus number)

abbrev pub is_open : CoreState → Bool
is_open (Open depth) = true
is_open Running = false
is_open Mid = false
is_open (Condemned depth) = false
is_open (AtStop stop) = false

-- no core is open
abbrev pub AreClosed : List Cpu → Type 0
AreClosed cpus = (number : ℕ) → number < length cpus → is_open (cpu_at cpus number).state ≡ false

-- no core but that of this number is open
abbrev pub AreOthersClosed : List Cpu → ℕ → Type 0
AreOthersClosed cpus number =
    (other : ℕ) → other < length cpus → nat_eq other number ≡ false → is_open (cpu_at cpus other).state ≡ false

-- a transaction begins
abbrev pub has_begun : Outcome → Bool
has_begun Begun = true
has_begun Plain = false
has_begun Loaded = false
has_begun (Stopped stop) = false
has_begun Idle = false
has_begun Inside = false
has_begun Committed = false
has_begun (Aborted status) = false
has_begun (AbortedBy by status) = false
has_begun Drained = false

-- ---- a step, by its parts

-- outside: the memory and the others are still to be written
abbrev pub left_outside : List ℕ → Outcome → Option Access → Option Store → View → StepResult
left_outside memory outcome access store view = record {
  outcome = outcome;
  memory = memory_after memory (stores_of store);
  view = view;
  touched = touched_by (loaded_addresses access) store;
}

-- the same with its store in memory, of a core that no transaction keeps open
pub record RanInPlace (code : List ℕ) (base : ℕ) (memory memory_now : List ℕ) (cpu cpu_now : Cpu)
    (ran : OutsideStep) : Type 0 where
  pub memory_is : memory_now ≡ memory_after memory (stores_of ran.store)
  pub same_buffer : cpu_now.buffer ≡ cpu.buffer
  pub loads : IfSome ran.access (λ load. load.addr + bytes_of load.width ≤ length memory)
  pub stores : IfSome ran.store (λ store. store.addr + bytes_of store.width ≤ length memory)
  pub step : (content : Content) (number : ℕ) →
      let setting : Setting = parts_setting code base (length memory) content in
      Sane setting (cpu_view content number cpu) cpu.state →
      stepped setting memory (cpu_view content number cpu) cpu.state
      ≡ left_outside memory ran.outcome ran.access ran.store (cpu_view content number cpu_now)

-- inside: it is an abort, or an instruction whose load others are still to see, or a commit that is still to be made
abbrev pub left_inside : List ℕ → InsideStep → View → StepResult
left_inside memory Commits view = finished memory view
left_inside memory (GoesInside access) view = stayed memory (loaded_addresses access) view
left_inside memory (Aborts outcome) view = record { outcome = outcome; memory = memory; view = view; touched = [] }

-- a step of the core of this number, under an event or under none, gives this outcome, memory and views
pub record IsStepUnder (event : Option Event) (setting : Setting) (memory : List ℕ) (views : ℕ → View)
    (count number : ℕ) (outcome : Outcome) (memory_now : List ℕ) (views_now : ℕ → View) : Type 0 where
  pub outcome_is : outcome ≡ (stepped_under event setting memory (views number) (views number).mode).outcome
  pub new_memory : memory_now ≡ (stepped_under event setting memory (views number) (views number).mode).memory
  pub each : (other : ℕ) → other < count → views_now other
      ≡ views_after views number (stepped_under event setting memory (views number) (views number).mode) other

abbrev pub IsStep : Setting → List ℕ → (ℕ → View) → ℕ → ℕ → Outcome → List ℕ → (ℕ → View) → Type 0
IsStep setting memory views count number outcome memory_now views_now =
    IsStepUnder None setting memory views count number outcome memory_now views_now

-- ---- a usual step where no core is open

-- it ran in place, and nobody asks what it touched
pub record RanUnseen (code : List ℕ) (base : ℕ) (memory memory_now : List ℕ) (cpu cpu_now : Cpu) (outcome : Outcome)
    : Type 0 where
  pub ran : OutsideStep
  pub outcome_is : ran.outcome ≡ outcome
  pub in_place : RanInPlace code base memory memory_now cpu cpu_now ran

abbrev pub IsUsual : List ℕ → ℕ → List ℕ → List ℕ → Cpu → Cpu → Usual → Type 0
IsUsual code base memory memory_now cpu cpu_now usual.Plain = RanUnseen code base memory memory_now cpu cpu_now Plain
IsUsual code base memory memory_now cpu cpu_now usual.Loaded = RanUnseen code base memory memory_now cpu cpu_now Loaded
IsUsual code base memory memory_now cpu cpu_now usual.Other = (memory_now ≡ memory) × (cpu_now ≡ cpu)

-- the outcome that a tag stands for
abbrev pub usual_outcome : UsualOutcome → Option Outcome
usual_outcome tag.Plain = Some Plain
usual_outcome tag.Loaded = Some Loaded
usual_outcome tag.Inside = Some Inside
usual_outcome tag.Other = None
