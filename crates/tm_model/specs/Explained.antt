-- How a run is explained: which line a step hits another core's transaction on, why a step is an abort, and which bytes
-- a step reaches. That a hit dooms, and that a reason is the owed abort's, are laws (HitsCondemn, ReasonsAreOfAborts).
use Rattle.std.specs.Prelude.{◌≡◌, ℕ, ◌≤◌, Bool, true, false, ◌&&◌, ◌||◌, if◌then◌else◌, List, [], ◌∷◌, ◌++◌, map}
use Rattle.std.specs.Prelude.{Option, Some, None, IsSome, MatchOption, nat_eq, nat_lt}
use Rattle.std.specs.FinSet as set
use Rattle.ia_word.specs.Line.{line}
use Rattle.tm_sets.specs.declared.interface.Kind.TheVariants.{Read, Write}
use Rattle.tm_status.specs.declared.cause.Cause.TheVariants as cause
use Rattle.tm_model.specs.declared.explain.AbortReason.{AbortReason}
use Rattle.tm_model.specs.declared.explain.AbortReason.TheVariants as reason
use Rattle.tm_model.specs.declared.explain.Hit.{Hit}
use Rattle.tm_model.specs.declared.explain.Reach.{Reach}
use Rattle.tm_model.specs.Access.{Lines, Stores, lines_of, loaded_addresses, memory_after, stored_addresses, stores_of}
use Rattle.tm_model.specs.Conflicts.{Doomed, addresses_loaded_by, addresses_stored_outside, addresses_written_by}
use Rattle.tm_model.specs.Conflicts.{doomed_after}
use Rattle.tm_model.specs.Isolated.{Body, instruction_after, isolated_body, read_set, write_set}
use Rattle.tm_model.specs.Owed.{abort_at, owed_outcome, owed_under}
use Rattle.tm_model.specs.Setting.{Setting, outside_at}
use Rattle.tm_model.specs.State.{Closed, Core, Halted, Midway, Opened, State, seen_by}
use Rattle.tm_model.specs.Types.{Aborted, AbortedBy, Begins, Begun, Cause, Committed, Drained, Ends, Event, Fails, Goes}
use Rattle.tm_model.specs.Types.{GoesOn, Idle, Inside, InsideResult, Loaded, Nests, Outcome, OutsideResult, Plain}
use Rattle.tm_model.specs.Types.{Stopped, Stops}

-- ---- whom a step hits (SDM volume 1, 16.2.4.2)

-- by the lines that a step stores to and loads from, on these sets of another core: a line that it stores to, in either
-- set, or that it loads from, in the write set
abbrev pub hits_line : (ℕ → Bool) → (ℕ → Bool) → Lines → Lines → ℕ → Bool
hits_line stored loaded reads writes q =
    (stored q && (set.contains reads q || set.contains writes q)) || (loaded q && set.contains writes q)

-- the lowest such line, and how the step uses it
pub record IsLowestHit (stored loaded : ℕ → Bool) (reads writes : Lines) (hit : Hit) : Type 0 where
  pub hits : hits_line stored loaded reads writes hit.line ≡ true
  pub lowest : (q : ℕ) → hits_line stored loaded reads writes q ≡ true → hit.line ≤ q
  pub kind : hit.kind ≡ (if stored hit.line then Write else Read)

-- what is told: that hit, or that there is none
abbrev pub IsHitOnLines : (ℕ → Bool) → (ℕ → Bool) → Lines → Lines → Option Hit → Type 0
IsHitOnLines stored loaded reads writes None = (q : ℕ) → hits_line stored loaded reads writes q ≡ false
IsHitOnLines stored loaded reads writes (Some hit) = IsLowestHit stored loaded reads writes hit

abbrev pub IsHitOnBody : List ℕ → List ℕ → Option Body → Option Hit → Type 0
IsHitOnBody loads stores None told = told ≡ None
IsHitOnBody loads stores (Some body) told =
    IsHitOnLines (set.contains (lines_of stores)) (set.contains (lines_of loads)) (read_set body) (write_set body) told

-- a transaction that is open and not doomed is hit, and no other core
abbrev pub IsHitOnCore : Setting → List ℕ → List ℕ → List ℕ → Core → Option ℕ → Option Hit → Type 0
IsHitOnCore setting memory loads stores (Opened regs steps) None told =
    IsHitOnBody loads stores (isolated_body setting regs memory steps) told
IsHitOnCore setting memory loads stores core doom told = told ≡ None

-- the outcome that is owed to the core of this number, under an event or under none
abbrev pub owed_now : Option Event → Setting → State → Doomed → ℕ → Outcome
owed_now event setting state doomed number =
    owed_under event setting state.memory (state.pending number) (state.cores number) (doomed number)

-- what is told of such a step of the core of this number and of another core
abbrev pub IsHitTold : Option Event → Setting → State → Doomed → ℕ → ℕ → Option Hit → Type 0
IsHitTold event setting state doomed number other told =
    let outcome : Outcome = owed_now event setting state doomed number in
    IsHitOnCore setting (seen_by state other)
    (addresses_loaded_by setting (seen_by state number) (state.cores number) outcome)
    (addresses_written_by setting state.memory (state.pending number) (state.cores number) outcome)
    (state.cores other) (doomed other) told

-- whatever is told so: the other core is doomed by the step exactly where a hit is told
abbrev pub HitsCondemn : Type 0
HitsCondemn =
    (event : Option Event) (setting : Setting) (state : State) (doomed : Doomed) (number other : ℕ)
    (told : Option Hit) →
    nat_eq other number ≡ false → IsHitTold event setting state doomed number other told →
    let outcome : Outcome = owed_now event setting state doomed number in
    MatchOption told
    (doomed_after setting state doomed number outcome other ≡ doomed other)
    (λ hit. (doomed other ≡ None) × IsSome (doomed_after setting state doomed number outcome other))

-- ---- why a step is an abort

-- the cause that the status is made of (docs/MACHINE.md, "Status of an abort")
abbrev pub cause_of : AbortReason → Cause
cause_of reason.Conflict = cause.Conflict
cause_of (reason.Capacity kind line) = cause.Capacity
cause_of reason.Nest = cause.Nest
cause_of (reason.Explicit argument) = cause.Explicit argument
cause_of reason.Breakpoint = cause.Debug
cause_of (reason.Stop stop) = cause.Other
cause_of reason.NotAllowed = cause.Other

-- an instruction fails with this cause, and outside of transactions would come to this; none fails by the first two
abbrev pub reason_of_failure : Cause → OutsideResult → AbortReason
reason_of_failure cause.Conflict outside = reason.Conflict
reason_of_failure cause.Capacity outside = reason.Nest
reason_of_failure cause.Nest outside = reason.Nest
reason_of_failure (cause.Explicit argument) outside = reason.Explicit argument
reason_of_failure cause.Debug outside = reason.Breakpoint
reason_of_failure cause.Other (Stops stop) = reason.Stop stop
reason_of_failure cause.Other (Goes regs store) = reason.NotAllowed
reason_of_failure cause.Other (Begins regs) = reason.NotAllowed

-- the first of these lines, one after the other, that a set of at most so many lines has no room for
abbrev pub line_without_room : ℕ → Lines → List ℕ → ℕ
line_without_room most lines [] = 0
line_without_room most lines (q ∷ others) =
    if nat_lt most (set.len (set.insert lines q)) then q else line_without_room most (set.insert lines q) others

-- an instruction loads from and stores to these addresses, beside these sets, which would then be those
abbrev pub reason_by_room : Setting → Lines → Lines → List ℕ → List ℕ → Lines → Lines → Option AbortReason
reason_by_room setting reads writes loads stores reads_then writes_then =
    if nat_lt setting.read_lines (set.len reads_then)
    then Some (reason.Capacity Read (line_without_room setting.read_lines reads (map line loads)))
    else if nat_lt setting.write_lines (set.len writes_then)
    then Some (reason.Capacity Write (line_without_room setting.write_lines writes (map line stores)))
    else None

-- the next instruction of a body stores so
abbrev pub reason_of_lines : Setting → Body → Stores → Option AbortReason
reason_of_lines setting body stores =
    reason_by_room setting (read_set body) (write_set body) (setting.load_of body.regs) (stored_addresses stores)
    (lines_of (setting.load_of body.regs ++ body.loads)) (lines_of (stored_addresses (stores ++ body.stores)))

abbrev pub reason_inside : Setting → Body → OutsideResult → InsideResult → Option AbortReason
reason_inside setting body outside (Fails cause) = Some (reason_of_failure cause outside)
reason_inside setting body outside (GoesOn regs store) = reason_of_lines setting body (stores_of store)
reason_inside setting body outside (Nests regs) = reason_of_lines setting body []
reason_inside setting body outside (Ends regs) = reason_of_lines setting body []

abbrev pub reason_after : Setting → List ℕ → Option Body → Option AbortReason
reason_after setting memory None = None
reason_after setting memory (Some body) =
    reason_inside setting body (outside_at setting body.regs (memory_after memory body.stores))
    (instruction_after setting memory body)

-- of a core's next step, with its depth where it is doomed; none where the step is no abort
abbrev pub abort_reason : Setting → List ℕ → Core → Option ℕ → Option AbortReason
abort_reason setting memory (Halted regs stop) doom = None
abort_reason setting memory core (Some depth) = Some reason.Conflict
abort_reason setting memory (Midway regs value) None = None
abort_reason setting memory (Closed regs) None = None
abort_reason setting memory (Opened regs steps) None =
    reason_after setting memory (isolated_body setting regs memory steps)

abbrev pub is_abort : Outcome → Bool
is_abort (Aborted status) = true
is_abort (AbortedBy by status) = true
is_abort Plain = false
is_abort Loaded = false
is_abort (Stopped stop) = false
is_abort Idle = false
is_abort Begun = false
is_abort Inside = false
is_abort Committed = false
is_abort Drained = false

-- the outcome is the abort of this reason's cause, and where there is no reason, it is no abort
abbrev pub IsReasonOf : Outcome → Option AbortReason → Type 0
IsReasonOf outcome None = is_abort outcome ≡ false
IsReasonOf outcome (Some why) = (depth : ℕ) × (outcome ≡ abort_at (cause_of why) depth)

-- of every core, in whatever state
abbrev pub ReasonsAreOfAborts : Type 0
ReasonsAreOfAborts =
    (setting : Setting) (memory : List ℕ) (core : Core) (doom : Option ℕ) →
    IsReasonOf (owed_outcome setting memory core doom) (abort_reason setting memory core doom)

-- ---- which bytes a step reaches

-- the addresses that the instruction after a body stores to
abbrev pub addresses_stored_next : InsideResult → List ℕ
addresses_stored_next (GoesOn regs store) = stored_addresses (stores_of store)
addresses_stored_next (Nests regs) = []
addresses_stored_next (Ends regs) = []
addresses_stored_next (Fails cause) = []

abbrev pub addresses_stored_after : Setting → List ℕ → Option Body → List ℕ
addresses_stored_after setting memory None = []
addresses_stored_after setting memory (Some body) = addresses_stored_next (instruction_after setting memory body)

-- The addresses that the instruction of a step stores to: outside, those of memory; inside, those of which others see
-- nothing before the commit. A commit stores nothing of its own: it shows what its body has stored (SDM volume 1,
-- 16.2.1).
abbrev pub addresses_stored_at : Setting → List ℕ → Core → Outcome → List ℕ
addresses_stored_at setting memory (Closed regs) Plain = addresses_stored_outside (outside_at setting regs memory)
addresses_stored_at setting memory (Midway regs value) Plain = addresses_stored_outside (setting.outside regs value)
addresses_stored_at setting memory (Opened regs steps) Inside =
    addresses_stored_after setting memory (isolated_body setting regs memory steps)
addresses_stored_at setting memory core outcome = []

-- what is told of the owed step of a core, with its depth where it is doomed
pub record IsReachTold (setting : Setting) (memory : List ℕ) (core : Core) (doom : Option ℕ) (told : Reach)
    : Type 0 where
  pub loads : loaded_addresses told.load
      ≡ addresses_loaded_by setting memory core (owed_outcome setting memory core doom)
  pub stores : loaded_addresses told.store
      ≡ addresses_stored_at setting memory core (owed_outcome setting memory core doom)
