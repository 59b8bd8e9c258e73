-- Steps that load a byte from memory, and steps that leave a store pending.
use Rattle.std.proofs.Common.{◌≡◌, ℕ, zero, suc, ◌+◌, ◌<◌, ◌≤◌, Bool, true, false, List, [], ◌∷◌, ◌++◌, take, length}
use Rattle.std.proofs.Common.{refl, sym, ap, ◌∙◌, subst, arith, Option, Some, None, get_or}
use Rattle.std.specs.Prelude.{All, Contains, IfSome, if◌then◌else◌, slice_get, slice_index_or}
use Rattle.std.proofs.lemmas.List.{map-append, take_more}
use Rattle.ia_word.specs.Width.{bytes_of}
use Rattle.tm_core.specs.Theorem.{IsRun, ShownMachine as Machine, StandsFor, TakesStep, machine_setting, pending_at}
use Rattle.tm_core.specs.Theorem.{view_at}
use Rattle.tm_model.specs.Access.{addresses_from, addresses_of, loaded_addresses}
use Rattle.tm_model.specs.Conflicts.{Doomed, addresses_loaded_by}
use Rattle.tm_model.specs.Explained.{IsReachTold, owed_now}
use Rattle.tm_model.specs.Owed.{owed_outcome, owed_under}
use Rattle.tm_model.specs.Runs.{event_told, pick_of, picks_of}
use Rattle.tm_model.specs.Setting.{Setting}
use Rattle.tm_model.specs.State.{Core, Pending, State, opening_state, seen_by, seen_memory}
use Rattle.tm_model.specs.Steps.{must_wait}
use Rattle.tm_model.specs.Types.{Access}
use Rattle.tm_model.specs.declared.explain.Reach.{Reach}
use Rattle.tm_model.specs.declared.outcome.Event.{Event}
use Rattle.tm_model.specs.declared.outcome.Event.TheVariants as event
use Rattle.tm_model.specs.declared.outcome.Outcome.{Outcome}
use Rattle.tm_model.specs.declared.outcome.Outcome.TheVariants.{Drained}
use Rattle.tm_model.specs.declared.outcome.Pick.{Pick}
use Rattle.tm_hunt.specs.Cycle.{CameBy, IsMachineOf, Makes}
use Rattle.tm_hunt.specs.Delays.{GoesUnheld, HasByteBeside, IsBeside, IsLoading, IsMadeAt, IsReached, IsStepOf}
use Rattle.tm_hunt.specs.Delays.{IsStored, LeavesStore, LoadsMemory, drains_of}
use Rattle.tm_hunt.specs.declared.delays.Course.{Course}
use Rattle.tm_hunt.specs.declared.delays.Glance.{Glance}
use Rattle.tm_hunt.specs.declared.delays.Place.{Place}
use Rattle.tm_hunt.specs.declared.trial.Trial.{Trial}
use Rattle.tm_hunt.proofs.Cycles.{came_by, makes_none, of_same}

-- ---- a step that does not wait

no_drain : (outcome : Outcome) → outcome ≡ Drained → event_told outcome ≡ None → ⊥
no_drain outcome is tells = (let e : Some event.Drain ≡ None = sym (ap event_told is) ∙ tells in cc)

owed_or : (t : Bool) (outcome owed : Outcome) → outcome ≡ (if t then Drained else owed) → event_told outcome ≡ None →
    (if t then Drained else owed) ≡ owed
owed_or true outcome owed is tells = absurd (no_drain outcome is tells)
owed_or false outcome owed is tells = refl

unheld : (setting : Setting) (memory : List ℕ) (pending : Pending) (core : Core) (doom : Option ℕ) (outcome : Outcome) →
    outcome ≡ owed_under None setting memory pending core doom → event_told outcome ≡ None →
    owed_under None setting memory pending core doom ≡ owed_outcome setting (seen_memory memory pending) core doom
unheld setting memory pending core doom outcome is tells =
    let owed : Outcome = owed_outcome setting (seen_memory memory pending) core doom in
    owed_or (must_wait setting (seen_memory memory pending) pending core owed) outcome owed is tells

-- one that tells of no event did not wait
pub goes_unheld : (before after : Machine) (core : ℕ) (outcome : Outcome) →
    ((state : State) (doomed : Doomed) → StandsFor before state doomed →
    TakesStep before after state doomed core outcome) → event_told outcome ≡ None → GoesUnheld before core
goes_unheld before after core outcome takes tells = λ state doomed stands.
    unheld (machine_setting before) state.memory (state.pending core) (state.cores core) (doomed core) outcome
    (takes state doomed stands).is_owed tells

-- it loads what is told before it
pub loads_memory : (before : Machine) (core : ℕ) (reach : Reach) →
    HasByteBeside (loaded_addresses reach.load) (pending_at before core) →
    ((state : State) (doomed : Doomed) → StandsFor before state doomed →
    IsReachTold (machine_setting before) (seen_by state core) (state.cores core) (doomed core) reach) →
    GoesUnheld before core → LoadsMemory before core
loads_memory before core reach byte told goes = λ state doomed stands.
    subst (λ (addresses : List ℕ). HasByteBeside addresses (pending_at before core))
    ((told state doomed stands).loads
    ∙ ap (addresses_loaded_by (machine_setting before) (seen_by state core) (state.cores core))
    (sym (goes state doomed stands)))
    byte

-- ---- the bytes of an access

length_from : (address count : ℕ) → length (addresses_from address count) ≡ count
length_from address zero = refl
length_from address (suc count) = ap suc (length_from (address + 1) count)

from_at : (address count k d : ℕ) → k < count → slice_index_or (addresses_from address count) k d ≡ address + k
from_at address zero k d below = absurd (omega arith)
from_at address (suc count) zero d below = omega arith
from_at address (suc count) (suc k) d below =
    (let e = from_at (address + 1) count k d (omega arith) in omega arith)

among_from : (address count k : ℕ) → k < count → Contains (addresses_from address count) (address + k)
among_from address count k below = (
  k,
  (let e = length_from address count in omega arith),
  from_at address count k (address + k) below,
)

pub byte_of : (access : Access) (k : ℕ) (pending : Pending) → k < bytes_of access.width →
    All (IsBeside (access.addr + k)) pending →
    HasByteBeside (loaded_addresses (Some access)) pending
byte_of access k pending below beside = record {
  address = access.addr + k;
  among = among_from access.addr (bytes_of access.width) k below;
  beside = beside;
}

-- ---- how many stores have drained

drains_append : (core : ℕ) (one two : List Pick) →
    drains_of core (one ++ two) ≡ drains_of core one + drains_of core two
drains_append core [] two = omega arith
drains_append core (pick ∷ one) two = (let e = drains_append core one two in omega arith)

pub drains_more : (core : ℕ) (picks : List Pick) (index : ℕ) (d : Pick) (so_far more : ℕ) → index < length picks →
    so_far ≡ drains_of core (take index picks) → more ≡ drains_of core (get_or picks index d ∷ []) →
    so_far + more ≡ drains_of core (take (index + 1) picks)
drains_more core picks index d so_far more below before one =
    let all : drains_of core (take (index + 1) picks)
    ≡ drains_of core (take index picks) + drains_of core (get_or picks index d ∷ []) =
    ap (drains_of core) (take_more picks index d below)
    ∙ drains_append core (take index picks) (get_or picks index d ∷ []) in
    omega arith

-- ---- steps that were made

pub came_first : (trial : Trial) (start : Machine) → IsMachineOf trial start →
    StandsFor start (opening_state trial.program.now) (λ _. None) → CameBy trial start []
came_first trial start of_trial stands = came_by trial start start [] of_trial stands (makes_none start)

pub came_more : (trial : Trial) (a b : Machine) (picks more all : List Pick) → all ≡ picks ++ more →
    CameBy trial a picks → Makes a b more → CameBy trial b all
came_more trial a b picks more all is came made = record {
  start = came.start;
  of_trial = came.of_trial;
  history = came.history ++ made.history;
  told =
      map-append pick_of came.history made.history
      ∙ (ap (λ (l : List Pick). l ++ picks_of made.history) came.told
      ∙ (ap (λ (l : List Pick). picks ++ l) made.told ∙ sym is));
  is_run = made.runs came.start (opening_state trial.program.now) (λ _. None) came.history came.is_run;
}

pub of_came : (trial : Trial) (machine : Machine) (picks : List Pick) → CameBy trial machine picks →
    IsMachineOf trial machine
of_came trial machine picks came = of_same trial came.start machine came.of_trial came.is_run.same

-- ---- a machine that goes on

pub reached_first : (trial : Trial) (start : Machine) → IsMachineOf trial start →
    StandsFor start (opening_state trial.program.now) (λ _. None) → IsReached trial start
reached_first trial start of_trial stands =
    let came = came_first trial start of_trial stands in
    record { start = came.start; of_trial = came.of_trial; history = came.history; is_run = came.is_run }

pub reached_more : (trial : Trial) (a b : Machine) (core : ℕ) (outcome : Outcome) → IsReached trial a →
    ((start : Machine) (state : State) (doomed : Doomed) (earlier : List (ℕ × Outcome))
    → IsRun start a state doomed earlier → IsRun start b state doomed (earlier ++ (core, outcome) ∷ [])) →
    IsReached trial b
reached_more trial a b core outcome reached goes = record {
  start = reached.start;
  of_trial = reached.of_trial;
  history = reached.history ++ (core, outcome) ∷ [];
  is_run = goes reached.start (opening_state trial.program.now) (λ _. None) reached.history reached.is_run;
}

-- ---- a step that was made

-- of this core, under no event
pub step_of : (course : Course) (pick : Pick) (seen : Glance) (place : Place) → (made : IsMadeAt course pick seen place)
    → pick.core ≡ course.core → pick.event ≡ None →
    IsStepOf course.trial course.picks.now place.step course.core place.eip made.before made.after
step_of course pick seen place made own alone = record {
  pick = made.is_pick ∙ (λ i. Some (record { core = own i; event = alone i }));
  came = made.came;
  goes = made.goes;
  address =
      ap (λ (core : ℕ). (view_at made.before core).regs.eip) (sym own)
      ∙ (made.is_glance.address ∙ made.address);
}

pub loading : (course : Course) (pick : Pick) (seen : Glance) (place : Place) → IsMadeAt course pick seen place →
    pick.core ≡ course.core → seen.loads ≡ true → IsLoading course place
loading course pick seen place made own loads =
    let is = made.is_glance.loads loads in
    record {
      loads = record {
        before = made.before;
        after = made.after;
        is_step = step_of course pick seen place made own is.0;
        loads = subst (LoadsMemory made.before) own is.1;
      };
      drained = made.drained;
    }

pub stored : (course : Course) (pick : Pick) (seen : Glance) (place : Place) (older : ℕ) →
    IsMadeAt course pick seen place → pick.core ≡ course.core → seen.older ≡ Some older →
    IsStored course (record { place = place; older = older })
stored course pick seen place older made own is =
    let leaves : (pick.event ≡ None) × LeavesStore made.before made.after pick.core older =
    subst (λ (o : Option ℕ). IfSome o (λ older. (pick.event ≡ None)
    × LeavesStore made.before made.after pick.core older)) is made.is_glance.stores in
    record {
      stores = record {
        before = made.before;
        after = made.after;
        is_step = step_of course pick seen place made own leaves.0;
        leaves = subst (λ (core : ℕ). LeavesStore made.before made.after core older) own leaves.1;
      };
      drained = made.drained;
    }
