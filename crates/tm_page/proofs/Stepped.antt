-- A step of a state where stores may be pending: what is owed, what it leaves of memory, of the stores that are pending
-- and of its core, and what another core sees of it.
use Rattle.std.proofs.Common.{◌≡◌, ℕ, Bool, true, false, cond, eqb, List, [], ◌∷◌, length, get_or}
use Rattle.std.proofs.Common.{Option, Some, None, refl, sym, ap, ◌∙◌, subst, arith}
use Rattle.std.specs.Prelude.{nat_lt, option_map, slice_get, if◌then◌else◌}
use Rattle.std.proofs.lemmas.Bool.{eq-eqb, true≢false}
use Rattle.std.proofs.lemmas.Option.{same_Some, slice_get_past}
use Rattle.tm_model.specs.Access.{Stores, memory_after, stored_addresses, stores_of}
use Rattle.tm_model.specs.Conflicts.{addresses_at_once, addresses_stored_by, addresses_written_by}
use Rattle.tm_model.specs.Owed.{owed_outcome, owed_under, owed_with_pending}
use Rattle.tm_model.specs.Runs.{is_aborted_by}
use Rattle.tm_model.specs.Setting.{Setting}
use Rattle.tm_model.specs.State.{Closed, Core, Halted, Midway, Opened, Pending, State, seen_by, seen_memory, with_store}
use Rattle.tm_model.specs.Steps.{Change, Next, after_drain, after_step, after_step_of, must_wait, settled, state_with}
use Rattle.tm_model.specs.Steps.{step, store_buffered}
use Rattle.tm_model.specs.declared.outcome.Event.TheVariants as event
use Rattle.tm_model.proofs.StoreBuffer.{Settles, sees, steps_as_seen}
use Rattle.tm_core.specs.Types.{Aborted, AbortedBy, Begun, Committed, Drained, Event, Idle, Inside, Loaded, Outcome}
use Rattle.tm_core.specs.Types.{Plain, Stopped, Store}
use Rattle.tm_core.proofs.Frame.{length-memory_after}
use Rattle.tm_core.proofs.OtherCores.{Agree, agree_seen}
use Rattle.tm_core.proofs.StoreBufferStep.{agree_settled, length-settled}
use Rattle.tm_why.specs.Watched.{is_drain}
use Rattle.tm_page.proofs.Memory.{stays_there}
use Rattle.tm_page.proofs.Moved.{IsMoved, moved}
use Rattle.tm_page.specs.Applied.{is_listed, pending_with}

-- ---- what is owed

-- a step that is no drain and no abort from outside is owed under no event
pub owes_none : (event : Option Event) (k : Setting) (m : List ℕ) (p : Pending) (core : Core) (doom : Option ℕ)
    (o : Outcome) → is_aborted_by o ≡ false → is_drain o ≡ false → o ≡ owed_under event k m p core doom →
    o ≡ owed_with_pending k m p core doom
owes_none None k m p core doom o free goes e = e
owes_none (Some event.Drain) k m [] core doom o free goes e = e
owes_none (Some event.Drain) k m (oldest ∷ younger) core doom o free goes e =
    absurd (true≢false (sym (ap is_drain e) ∙ goes))
owes_none (Some (event.Abort by)) k m p (Closed s) doom o free goes e = e
owes_none (Some (event.Abort by)) k m p (Midway s value) doom o free goes e = e
owes_none (Some (event.Abort by)) k m p (Halted s stop) doom o free goes e = e
owes_none (Some (event.Abort by)) k m p (Opened s n) (Some depth) o free goes e = e
owes_none (Some (event.Abort by)) k m p (Opened s n) None o free goes e =
    absurd (true≢false (sym (ap is_aborted_by e) ∙ free))

no_wait : (waits : Bool) (o alone : Outcome) → is_drain o ≡ false → o ≡ (if waits then Drained else alone) → o ≡ alone
no_wait true o alone goes e = absurd (true≢false (sym (ap is_drain e) ∙ goes))
no_wait false o alone goes e = e

-- and is what is owed on the memory that the core sees
pub owes_alone : (event : Option Event) (k : Setting) (m : List ℕ) (p : Pending) (core : Core) (doom : Option ℕ)
    (o : Outcome) → is_aborted_by o ≡ false → is_drain o ≡ false → o ≡ owed_under event k m p core doom →
    o ≡ owed_outcome k (seen_memory m p) core doom
owes_alone event k m p core doom o free goes e =
    let alone : Outcome = owed_outcome k (seen_memory m p) core doom in
    no_wait (must_wait k (seen_memory m p) p core alone) o alone goes (owes_none event k m p core doom o free goes e)

-- ---- what it leaves

-- a step that is no drain: it changes so what its core sees
pub record IsStepped (k : Setting) (a : State) (c : ℕ) (o : Outcome) (next : State) : Type 0 where
  pub change : List ℕ × Core
  pub is : after_step_of k (seen_by a c) (a.cores c) o ≡ Some change
  pub goes : must_wait k (seen_by a c) (a.pending c) (a.cores c) o ≡ false
  pub gives :
      state_with a c (settled a.memory (a.pending c) (store_buffered k (seen_by a c) (a.cores c) o) change) ≡ next

pub record IsDrained (a : State) (c : ℕ) (next : State) : Type 0 where
  pub oldest : Store
  pub younger : Pending
  pub was : a.pending c ≡ oldest ∷ younger
  pub gives : state_with a c (with_store a.memory oldest, (younger, a.cores c)) ≡ next

told_step : (k : Setting) (m : List ℕ) (p : Pending) (core : Core) (o : Outcome) → is_drain o ≡ false →
    after_step k m p core o
    ≡ (if must_wait k (seen_memory m p) p core o then None
    else option_map (settled m p (store_buffered k (seen_memory m p) core o))
    (after_step_of k (seen_memory m p) core o))
told_step k m p core Drained goes = cc
told_step k m p core (AbortedBy by status) goes = refl
told_step k m p core (Aborted status) goes = refl
told_step k m p core Plain goes = refl
told_step k m p core Loaded goes = refl
told_step k m p core (Stopped stop) goes = refl
told_step k m p core Idle goes = refl
told_step k m p core Begun goes = refl
told_step k m p core Inside goes = refl
told_step k m p core Committed goes = refl

told_writes : (k : Setting) (m : List ℕ) (p : Pending) (core : Core) (o : Outcome) → is_drain o ≡ false →
    addresses_written_by k m p core o
    ≡ addresses_at_once (store_buffered k (seen_memory m p) core o) (addresses_stored_by k (seen_memory m p) core o)
told_writes k m p core Drained goes = cc
told_writes k m p core (AbortedBy by status) goes = refl
told_writes k m p core (Aborted status) goes = refl
told_writes k m p core Plain goes = refl
told_writes k m p core Loaded goes = refl
told_writes k m p core (Stopped stop) goes = refl
told_writes k m p core Idle goes = refl
told_writes k m p core Begun goes = refl
told_writes k m p core Inside goes = refl
told_writes k m p core Committed goes = refl

parts : (k : Setting) (a : State) (c : ℕ) (o : Outcome) (next : State) (there waits : Bool) (change : Change) →
    must_wait k (seen_by a c) (a.pending c) (a.cores c) o ≡ waits →
    after_step_of k (seen_by a c) (a.cores c) o ≡ change →
    (if there
    then option_map (state_with a c) (if waits then None
    else option_map (settled a.memory (a.pending c) (store_buffered k (seen_by a c) (a.cores c) o)) change)
    else None) ≡ Some next →
    IsStepped k a c o next
parts k a c o next true false (Some change) goes is e = record {
  change = change;
  is = is;
  goes = goes;
  gives = same_Some
      (state_with a c (settled a.memory (a.pending c) (store_buffered k (seen_by a c) (a.cores c) o) change)) next e;
}
parts k a c o next true false None goes is e = cc
parts k a c o next true true change goes is e = cc
parts k a c o next false waits change goes is e = cc

pub stepped : (k : Setting) (a : State) (c : ℕ) (o : Outcome) (next : State) → is_drain o ≡ false →
    step k a c o ≡ Some next → IsStepped k a c o next
stepped k a c o next goes e =
    parts k a c o next (nat_lt c a.count) (must_wait k (seen_by a c) (a.pending c) (a.cores c) o)
    (after_step_of k (seen_by a c) (a.cores c) o) refl refl
    (subst (λ (made : Option Next). (if nat_lt c a.count then option_map (state_with a c) made else None) ≡ Some next)
    (told_step k a.memory (a.pending c) (a.cores c) o goes) e)

pub drained : (k : Setting) (a : State) (c : ℕ) (next : State) → step k a c Drained ≡ Some next → IsDrained a c next
drained k a c next e = on (nat_lt c a.count) (a.pending c) refl e
  where
    on : (there : Bool) (p : Pending) → a.pending c ≡ p →
        (if there then option_map (state_with a c) (after_drain a.memory p (a.cores c)) else None) ≡ Some next →
        IsDrained a c next
    on true (oldest ∷ younger) is e = record {
      oldest = oldest;
      younger = younger;
      was = is;
      gives = same_Some (state_with a c (with_store a.memory oldest, (younger, a.cores c))) next e;
    }
    on true [] is e = cc
    on false p is e = cc

-- ---- its own core, behind a step that is no drain

memory_is : (m : List ℕ) (p : Pending) (store : Option Store) (change : List ℕ × Core) (n : List ℕ) → change.0 ≡ n →
    (settled m p store change).0 ≡ (settled m p store (n, change.1)).0
memory_is m p (Some store) change n e = refl
memory_is m [] None change n e = e
memory_is m (oldest ∷ younger) None change n e = refl

core_is : (m : List ℕ) (p : Pending) (store : Option Store) (change : List ℕ × Core) →
    (settled m p store change).1.1 ≡ change.1
core_is m p (Some store) change = refl
core_is m [] None change = refl
core_is m (oldest ∷ younger) None change = refl

pending_is : (m : List ℕ) (p : Pending) (store : Option Store) (change : List ℕ × Core) →
    (settled m p store change).1.0 ≡ pending_with store p
pending_is m p (Some store) change = refl
pending_is m [] None change = refl
pending_is m (oldest ∷ younger) None change = refl

seen_is : (m : List ℕ) (p : Pending) (store : Option Store) (made : Change) (change : List ℕ × Core) →
    made ≡ Some change → Settles m p store made →
    seen_memory (settled m p store change).0 (settled m p store change).1.0 ≡ change.0
seen_is m p store made change is e =
    ap (λ (x : List ℕ × Core). x.0)
    (same_Some (sees (settled m p store change)) change
    (subst (λ (x : Change). option_map sees (option_map (settled m p store) x) ≡ x) is e))

-- the store of a step stands behind those that were
pub stands_behind : (p : Pending) (store : Option Store) → slice_get (pending_with store p) (length p) ≡ store
stands_behind p None = slice_get_past p (length p) (omega arith)
stands_behind [] (Some store) = refl
stands_behind (oldest ∷ younger) (Some store) = stands_behind younger (Some store)

-- a byte to which nothing is stored in memory
same_byte : (m : List ℕ) (p : Pending) (store : Option Store) (ws : Stores) (own : Core) (a : ℕ) →
    (store ≡ None → is_listed (stored_addresses ws) a ≡ false) →
    get_or (settled m p store (memory_after (seen_memory m p) ws, own)).0 a 0 ≡ get_or m a 0
same_byte m p (Some store) ws own a h = refl
same_byte m [] None ws own a h = stays_there m ws a (h refl)
same_byte m (oldest ∷ younger) None ws own a h = refl

module _ (k : Setting) (a : State) (c : ℕ) (o : Outcome) (next : State) (goes : is_drain o ≡ false)
    (made : IsStepped k a c o next) where
  abbrev pub store : Option Store
  store = store_buffered k (seen_by a c) (a.cores c) o

  abbrev left : Next
  left = settled a.memory (a.pending c) store made.change

  pub moves : IsMoved k (seen_by a c) (a.cores c) o made.change.0 made.change.1
  moves = moved k (seen_by a c) (a.cores c) o made.change.0 made.change.1 made.is

  pub core_then : next.cores c ≡ made.change.1
  core_then =
      ap (λ (s : State). s.cores c) (sym made.gives)
      ∙ ap (λ t. cond t left.1.1 (a.cores c)) (eq-eqb c c refl)
      ∙ core_is a.memory (a.pending c) store made.change

  left_then : next.pending c ≡ left.1.0
  left_then =
      ap (λ (s : State). s.pending c) (sym made.gives) ∙ ap (λ t. cond t left.1.0 (a.pending c)) (eq-eqb c c refl)

  pub pending_then : next.pending c ≡ pending_with store (a.pending c)
  pending_then = left_then ∙ pending_is a.memory (a.pending c) store made.change

  pub seen_then : seen_by next c ≡ made.change.0
  seen_then =
      ap (seen_memory next.memory) left_then
      ∙ ap (λ (s : State). seen_memory s.memory left.1.0) (sym made.gives)
      ∙ seen_is a.memory (a.pending c) store (after_step_of k (seen_by a c) (a.cores c) o) made.change made.is
      (steps_as_seen k a.memory (a.pending c) (a.cores c) o made.goes)

  abbrev behind : List ℕ
  behind = (settled a.memory (a.pending c) store (memory_after (seen_by a c) moves.stores, made.change.1)).0

  memory_then : next.memory ≡ behind
  memory_then =
      ap (λ (s : State). s.memory) (sym made.gives)
      ∙ memory_is a.memory (a.pending c) store made.change (memory_after (seen_by a c) moves.stores) moves.memory

  pub byte_then : (at : ℕ) → (store ≡ None → is_listed (stored_addresses moves.stores) at ≡ false) →
      get_or next.memory at 0 ≡ get_or a.memory at 0
  byte_then at none =
      ap (λ (n : List ℕ). get_or n at 0) memory_then
      ∙ same_byte a.memory (a.pending c) store moves.stores made.change.1 at none

  -- ---- what others see of it

  pub size_then : length next.memory ≡ length a.memory
  size_then = ap length memory_then ∙ length-settled a.memory (a.pending c) made.change.1 store moves.stores

  pub agrees_then : (q : Pending) → Agree (seen_memory a.memory q) (seen_memory next.memory q)
      (addresses_written_by k a.memory (a.pending c) (a.cores c) o)
  agrees_then q =
      subst (λ (n : List ℕ). Agree (seen_memory a.memory q) (seen_memory n q)
      (addresses_written_by k a.memory (a.pending c) (a.cores c) o)) (sym memory_then)
      (subst (λ (written : List ℕ). Agree (seen_memory a.memory q) (seen_memory behind q) written)
      (ap (addresses_at_once store) moves.stored ∙ sym (told_writes k a.memory (a.pending c) (a.cores c) o goes))
      (agree_settled a.memory q (a.pending c) made.change.1 store moves.stores))

-- what others see of a step
pub record IsFollowed (k : Setting) (a : State) (c : ℕ) (o : Outcome) (next : State) : Type 0 where
  pub size : length next.memory ≡ length a.memory
  pub agrees : (q : Pending) → Agree (seen_memory a.memory q) (seen_memory next.memory q)
      (addresses_written_by k a.memory (a.pending c) (a.cores c) o)
  pub cores : (n : ℕ) → eqb n c ≡ false → next.cores n ≡ a.cores n
  pub pending : (n : ℕ) → eqb n c ≡ false → next.pending n ≡ a.pending n

pub follows_step : (k : Setting) (a : State) (c : ℕ) (o : Outcome) (next : State) → is_drain o ≡ false →
    IsStepped k a c o next → IsFollowed k a c o next
follows_step k a c o next goes made =
    let left : Next =
    settled a.memory (a.pending c) (store_buffered k (seen_by a c) (a.cores c) o) made.change in
    record {
      size = size_then k a c o next goes made;
      agrees = agrees_then k a c o next goes made;
      cores = λ n apart. ap (λ (s : State). s.cores n) (sym made.gives)
          ∙ ap (λ t. cond t left.1.1 (a.cores n)) apart;
      pending = λ n apart. ap (λ (s : State). s.pending n) (sym made.gives)
          ∙ ap (λ t. cond t left.1.0 (a.pending n)) apart;
    }

-- ---- a drain

module _ (k : Setting) (a : State) (c : ℕ) (next : State) (made : IsDrained a c next) where
  pub drained_memory : next.memory ≡ with_store a.memory made.oldest
  drained_memory = ap (λ (s : State). s.memory) (sym made.gives)

  pub drained_core : next.cores c ≡ a.cores c
  drained_core =
      ap (λ (s : State). s.cores c) (sym made.gives)
      ∙ ap (λ t. cond t (a.cores c) (a.cores c)) (eq-eqb c c refl)

  pub drained_pending : next.pending c ≡ made.younger
  drained_pending =
      ap (λ (s : State). s.pending c) (sym made.gives)
      ∙ ap (λ t. cond t made.younger (a.pending c)) (eq-eqb c c refl)

  -- its core saw the store before
  pub drained_seen : seen_by next c ≡ seen_by a c
  drained_seen =
      ap (seen_memory next.memory) drained_pending
      ∙ ap (λ (n : List ℕ). seen_memory n made.younger) drained_memory
      ∙ sym (ap (seen_memory a.memory) made.was)

  pub follows_drain : IsFollowed k a c Drained next
  follows_drain = record {
    size = ap length drained_memory ∙ length-memory_after a.memory (stores_of (Some made.oldest));
    agrees = λ q.
        subst (λ (n : List ℕ). Agree (seen_memory a.memory q) (seen_memory n q)
        (addresses_written_by k a.memory (a.pending c) (a.cores c) Drained)) (sym drained_memory)
        (subst (λ (p : Pending). Agree (seen_memory a.memory q) (seen_memory (with_store a.memory made.oldest) q)
        (addresses_written_by k a.memory p (a.cores c) Drained)) (sym made.was)
        (agree_seen a.memory q (stores_of (Some made.oldest))));
    cores = λ n apart. ap (λ (s : State). s.cores n) (sym made.gives)
        ∙ ap (λ t. cond t (a.cores c) (a.cores n)) apart;
    pending = λ n apart. ap (λ (s : State). s.pending n) (sym made.gives)
        ∙ ap (λ t. cond t made.younger (a.pending n)) apart;
  }

-- ---- either

pub followed : (k : Setting) (a : State) (c : ℕ) (o : Outcome) (next : State) → step k a c o ≡ Some next →
    IsFollowed k a c o next
followed k a c Drained next e = follows_drain k a c next (drained k a c next e)
followed k a c Plain next e = follows_step k a c Plain next refl (stepped k a c Plain next refl e)
followed k a c Loaded next e = follows_step k a c Loaded next refl (stepped k a c Loaded next refl e)
followed k a c (Stopped stop) next e =
    follows_step k a c (Stopped stop) next refl (stepped k a c (Stopped stop) next refl e)
followed k a c Idle next e = follows_step k a c Idle next refl (stepped k a c Idle next refl e)
followed k a c Begun next e = follows_step k a c Begun next refl (stepped k a c Begun next refl e)
followed k a c Inside next e = follows_step k a c Inside next refl (stepped k a c Inside next refl e)
followed k a c Committed next e = follows_step k a c Committed next refl (stepped k a c Committed next refl e)
followed k a c (Aborted status) next e =
    follows_step k a c (Aborted status) next refl (stepped k a c (Aborted status) next refl e)
followed k a c (AbortedBy by status) next e =
    follows_step k a c (AbortedBy by status) next refl (stepped k a c (AbortedBy by status) next refl e)
