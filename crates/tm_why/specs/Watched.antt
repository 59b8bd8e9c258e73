-- Of a run, when each core's open transaction began, and the hit that condemned it. Steps are listed newest first, each
-- with what the machine said of it before and what came of it, and are numbered from 1.
use Rattle.std.specs.Prelude.{◌≡◌, ℕ, suc, ◌<◌, ◌==◌, Bool, true, false, if◌then◌else◌, List, [], ◌∷◌, length}
use Rattle.std.specs.Prelude.{Option, Some, None, nat_eq, option_map, slice_index_or, unwrap_or}
use Rattle.std.specs.List.{slice_get}
use Rattle.std.specs.Option.{option_or}
use Rattle.tm_model.specs.declared.outcome.Outcome.{Outcome}
use Rattle.tm_model.specs.declared.outcome.Outcome.TheVariants.{Aborted, AbortedBy, Begun, Committed, Drained}
use Rattle.tm_model.specs.Runs.{is_aborted_by}
use Rattle.tm_stores.specs.Queues.{queue_at}
use Rattle.tm_stores.specs.Stores.{change_by, queue_after}
use Rattle.tm_why.specs.Types.{Asked, Hit, MadeStore, Reason, StandingHit, Watch, Watched}

abbrev pub Told : Type 0
Told = Asked × Outcome

-- ---- when the open transaction began

-- behind an own step of this number
abbrev pub begun_by : Outcome → ℕ → Option ℕ → Option ℕ
begun_by Begun number before = Some number
begun_by Committed number before = None
begun_by (Aborted status) number before = None
begun_by (AbortedBy interference status) number before = None
begun_by outcome number before = before

abbrev pub begun_in : ℕ → List Told → Option ℕ
begun_in core [] = None
begun_in core (step ∷ earlier) =
    if core == step.0.core
    then begun_by step.1 (suc (length earlier)) (begun_in core earlier)
    else begun_in core earlier

-- ---- the stores that are pending, each by the step that made it

-- that of a step of this number, at the address of its instruction
abbrev pub made_store : ℕ → Asked → MadeStore
made_store number asked = record { step = number; eip = asked.eip }

-- those of a core, the oldest first, of which at most so many are pending
abbrev pub queue_in : ℕ → ℕ → List Told → List MadeStore
queue_in most core [] = []
queue_in most core (step ∷ earlier) =
    if core == step.0.core
    then
    queue_after most (change_by step.1 step.0.pends (made_store (suc (length earlier)) step.0))
    (queue_in most core earlier)
    else queue_in most core earlier

-- in whose place the oldest store of the core reached memory
abbrev pub is_drain : Outcome → Bool
is_drain Drained = true
is_drain _ = false

-- of a drain, the store that reached memory: the oldest of these
abbrev pub drained_store : Told → List MadeStore → Option MadeStore
drained_store step queue = if is_drain step.1 then slice_get queue 0 else None

-- ---- the hit that condemned it: the first since it began

-- an own step that begins a transaction or ends one leaves no hit
abbrev pub left_by : Outcome → Option StandingHit → Option StandingHit
left_by Begun hit = None
left_by Committed hit = None
left_by (Aborted status) hit = None
left_by (AbortedBy interference status) hit = None
left_by outcome hit = hit

-- by which instruction a step hits: of a drain, the one that made this store
abbrev pub eip_by : Asked → Option MadeStore → ℕ
eip_by asked by = unwrap_or (option_map (λ store. store.eip) by) asked.eip

abbrev pub step_of : Option MadeStore → Option ℕ
step_of by = option_map (λ store. store.step) by

-- the hit of a step of this number on a core, if there is one; of a drain, by this store
abbrev pub standing : ℕ → Told → Option MadeStore → Option Hit → Option StandingHit
standing number step by hit =
    option_map (λ hit. record {
      step = number;
      core = step.0.core;
      eip = eip_by step.0 by;
      is_drain = is_drain step.1;
      stored = step_of by;
      hit = hit;
    }) hit

-- of the core's own step
abbrev pub hit_on : Asked → ℕ → Option Hit
hit_on asked core = slice_index_or asked.hits core None

-- of a drain in its place
abbrev pub drain_hit_on : Asked → ℕ → Option Hit
drain_hit_on asked core = slice_index_or asked.drain_hits core None

-- what was asked, by what was made: where an abort from outside came in the place of the core's own step, neither was
abbrev pub hit_made : Told → ℕ → Option Hit
hit_made step core =
    if is_aborted_by step.1 then None
    else if is_drain step.1 then drain_hit_on step.0 core
    else hit_on step.0 core

abbrev pub hit_in : ℕ → ℕ → List Told → Option StandingHit
hit_in most core [] = None
hit_in most core (step ∷ earlier) =
    if core == step.0.core
    then left_by step.1 (hit_in most core earlier)
    else
    option_or (hit_in most core earlier)
    (standing (suc (length earlier)) step (drained_store step (queue_in most step.0.core earlier)) (hit_made step core))

-- ---- what a watch keeps

abbrev pub watched_in : ℕ → ℕ → List Told → Watched
watched_in most core steps = record { begun = begun_in core steps; hit = hit_in most core steps }

abbrev pub outside : Watched
outside = record { begun = None; hit = None }

-- it was told of these steps
pub record IsWatch (watch : Watch) (steps : List Told) : Type 0 where
  pub made : watch.made ≡ length steps
  pub room : length watch.stores.queues ≡ (if nat_eq watch.stores.most 0 then 0 else 64)
  pub queues : (core : ℕ) → core < 64 → queue_at watch.stores core ≡ queue_in watch.stores.most core steps
  pub rows : (core : ℕ) → core < 64 →
      slice_index_or watch.rows core outside ≡ watched_in watch.stores.most core steps

-- the reason of an abort behind these steps, with what is known of its transaction
abbrev pub reason_in : ℕ → Asked → List Told → Option Reason
reason_in most asked steps =
    option_map (λ cause. record { cause = cause; eip = asked.eip; transaction = watched_in most asked.core steps })
    asked.reason
