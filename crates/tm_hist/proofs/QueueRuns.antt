-- A run over lists with queues is a run of the definitions; with queues of no room it is the run over lists without.
use Rattle.std.proofs.Common.{◌≡◌, ℕ, zero, suc, ◌+◌, ◌<◌, ◌≤◌, Bool, true, false, List, [], ◌∷◌, ◌++◌, length, map}
use Rattle.std.proofs.Common.{take, get_or, Option, Some, None, refl, sym, ap, ◌∙◌, subst, arith, nat_eq, nat_lt}
use Rattle.std.proofs.Common.{if◌then◌else◌, slice_set}
use Rattle.std.specs.Prelude.{⊤, All, Vec, vec_capacity}
use Rattle.std.specs.List.{AllByRecursion, range_with_len, slice_get}
use Rattle.std.specs.Option.{option_and_then, option_map}
use Rattle.std.proofs.lemmas.Bool.{ltb-true, lt-ltb, le-ltb, eqb-true, eqb-false}
use Rattle.std.proofs.lemmas.List.{length-set, length-map, map-set, get_or-map, get_or-set_same, get_or-set_other}
use Rattle.std.proofs.lemmas.List.{length-append, take_more}
use Rattle.std.proofs.lemmas.List.Elements.{All-nil}
use Rattle.std.proofs.lemmas.List.FromFn.{length-map-range_with_len}
use Rattle.std.proofs.lemmas.Option.{get_or_from_slice_get, slice_get_within}
use Rattle.ia_image.specs.Program.{ProgramValue as Program, code_of, opening_memory}
use Rattle.tm_model.specs.declared.outcome.Outcome.{Outcome}
use Rattle.tm_model.specs.Setting.{Setting, program_setting, setting_of}
use Rattle.tm_model.specs.State.{Core, Pending, State, opening_state}
use Rattle.tm_model.specs.Steps.{Change, Next, after_step, after_step_of, run, state_with, step}
use Rattle.tm_model.specs.Types.{Store}
use Rattle.tm_model.proofs.WithoutBuffer.{same_after_step}
use Rattle.tm_hist.specs.Queues.{AreNew, EndsIn, Holds, IsQueue, IsStorable, QueueStuck, Queued, behind_queue, queue_at}
use Rattle.tm_hist.specs.Queues.{queue_run, queue_step, queued_in, queues_of, with_next}
use Rattle.tm_hist.specs.Serial.{Agrees, EndsWith, IsStuck, core_at, core_of, first_core, list_run, list_step}
use Rattle.tm_hist.specs.Serial.{with_core}
use Rattle.tm_hist.specs.declared.serial_core.SerialCore.{SerialCore}
use Rattle.tm_hist.proofs.Runs.{first_agrees}

-- lists with a queue a core, that hold what a state has
record HoldsAll (a : State) (q : Queued) : Type 0 where
  holds : Holds a q
  size : length q.queues ≡ length q.cores

Same : Option State → Option Queued → Type 0
Same None None = ⊤
Same None (Some q) = ⊥
Same (Some a) None = ⊥
Same (Some a) (Some q) = HoldsAll a q

same_if : (b : Bool) (x : Option State) (y : Option Queued) → (b ≡ true → Same x y)
    → Same (if b then x else None) (if b then y else None)
unfolding Same
same_if true x y h = h refl
same_if false x y h = tt

-- the core that steps, and the others
each_after : (a : State) (q : Queued) (c : ℕ) (n : Next) → HoldsAll a q → c < length q.cores →
    (j : ℕ) → j < length (with_next q c n).cores
    → core_at (with_next q c n).cores j ≡ (state_with a c n).cores j
each_after a q c n h l j below =
    let size = length-set q.cores c n.1.1 in
    elim (nat_eq j c) as (λ b. nat_eq j c ≡ b
    → core_at (slice_set q.cores c n.1.1) j ≡ (if b then n.1.1 else a.cores j)) [
      | true ↦ λ e. let same : j ≡ c = eqb-true j c e in
          ap (core_at (slice_set q.cores c n.1.1)) same ∙ get_or-set_same q.cores c n.1.1 _ l
      | false ↦ λ e. get_or-set_other q.cores c j n.1.1 _ (eqb-false j c e) ∙ h.holds.each j (omega arith)
    ] refl

left_after : (a : State) (q : Queued) (c : ℕ) (n : Next) → HoldsAll a q → c < length q.cores →
    (j : ℕ) → j < length (with_next q c n).cores
    → queue_at (with_next q c n).queues j ≡ (state_with a c n).pending j
left_after a q c n h l j below =
    let size = length-set q.cores c n.1.1 in
    let has : length q.queues ≡ length q.cores = h.size in
    elim (nat_eq j c) as (λ b. nat_eq j c ≡ b
    → queue_at (slice_set q.queues c n.1.0) j ≡ (if b then n.1.0 else a.pending j)) [
      | true ↦ λ e. let same : j ≡ c = eqb-true j c e in
          ap (queue_at (slice_set q.queues c n.1.0)) same ∙ get_or-set_same q.queues c n.1.0 _ (omega arith)
      | false ↦ λ e. get_or-set_other q.queues c j n.1.0 _ (eqb-false j c e) ∙ h.holds.pending j (omega arith)
    ] refl

same_put : (a : State) (q : Queued) (c : ℕ) → HoldsAll a q → c < length q.cores → (o : Option Next) →
    Same (option_map (state_with a c) o) (option_map (with_next q c) o)
unfolding Same
same_put a q c h l None = tt
same_put a q c h l (Some n) = record {
  holds = record {
    memory = refl;
    count = length-set q.cores c n.1.1 ∙ h.holds.count;
    each = each_after a q c n h l;
    pending = left_after a q c n h l;
  };
  size = length-set q.queues c n.1.0 ∙ h.size ∙ sym (length-set q.cores c n.1.1);
}

same_step : (k : Setting) (a : State) (q : Queued) (c : ℕ) (o : Outcome) → HoldsAll a q
    → Same (step k a c o) (queue_step k q c o)
same_step k a q c o h =
    let moved : List ℕ → Pending → Core → Option State =
    λ n p x. option_map (state_with a c) (after_step k n p x o) in
    let listed : Option Queued =
    option_map (with_next q c) (after_step k q.memory (queue_at q.queues c) (core_at q.cores c) o) in
    subst (λ n. Same (if nat_lt c n then moved a.memory (a.pending c) (a.cores c) else None) (queue_step k q c o))
    h.holds.count
    (same_if (nat_lt c (length q.cores)) (moved a.memory (a.pending c) (a.cores c)) listed λ e.
    let l : c < length q.cores = ltb-true c (length q.cores) e in
    subst (λ n. Same (moved n (a.pending c) (a.cores c)) listed) h.holds.memory
    (subst (λ p. Same (moved q.memory p (a.cores c)) listed) (h.holds.pending c l)
    (subst (λ x. Same (moved q.memory (queue_at q.queues c) x) listed) (h.holds.each c l)
    (same_put a q c h l (after_step k q.memory (queue_at q.queues c) (core_at q.cores c) o)))))

same_then : (k : Setting) (ps : List (ℕ × Outcome))
    → ((a : State) (q : Queued) → HoldsAll a q → Same (run k a ps) (queue_run k q ps)) →
    (x : Option State) (y : Option Queued) → Same x y
    → Same (option_and_then (λ b. run k b ps) x) (option_and_then (λ q. queue_run k q ps) y)
unfolding Same
same_then k ps f None None h = tt
same_then k ps f None (Some q) h = absurd h
same_then k ps f (Some a) None h = absurd h
same_then k ps f (Some a) (Some q) h = f a q h

same_run : (k : Setting) (ps : List (ℕ × Outcome)) (a : State) (q : Queued) → HoldsAll a q
    → Same (run k a ps) (queue_run k q ps)
unfolding Same
same_run k [] a q h = h
same_run k (p ∷ ps) a q h =
    same_then k ps (same_run k ps) (step k a p.0 p.1) (queue_step k q p.0 p.1) (same_step k a q p.0 p.1 h)

read_some : (x : Option State) (q : Queued) → Same x (Some q) → (end : State) × (x ≡ Some end) × HoldsAll end q
unfolding Same
read_some None q h = absurd h
read_some (Some a) q h = (a, refl, h)

read_none : (x : Option State) → Same x None → x ≡ None
unfolding Same
read_none None h = refl
read_none (Some a) h = absurd h

pub queues_end : (k : Setting) (a : State) (q now : Queued) (ps : List (ℕ × Outcome)) → Holds a q
    → length q.queues ≡ length q.cores → queue_run k q ps ≡ Some now → EndsIn k a ps now
queues_end k a q now ps h size e =
    let P : Option Queued → Type 0 = λ y. Same (run k a ps) y in
    let all : HoldsAll a q = record { holds = h; size = size } in
    let got = read_some (run k a ps) now (subst P e (same_run k ps a q all)) in
    record { end = got.0; ran = got.1; holds = got.2.holds }

queues_fail : (k : Setting) (a : State) (q : Queued) (ps : List (ℕ × Outcome)) → Holds a q
    → length q.queues ≡ length q.cores → queue_run k q ps ≡ None → run k a ps ≡ None
queues_fail k a q ps h size e =
    let P : Option Queued → Type 0 = λ y. Same (run k a ps) y in
    let all : HoldsAll a q = record { holds = h; size = size } in
    read_none (run k a ps) (subst P e (same_run k ps a q all))

-- where the lists are stuck, so is the run
pub queues_stuck : (k : Setting) (a : State) (q : Queued) (ps : List (ℕ × Outcome)) (i : ℕ) → Holds a q
    → length q.queues ≡ length q.cores → QueueStuck k q ps i → IsStuck k a ps i
queues_stuck k a q ps i h size stuck =
    let good : EndsIn k a (take i ps) stuck.before = queues_end k a q stuck.before (take i ps) h size stuck.ran in
    record {
      within = stuck.within;
      before = good.end;
      ran = good.ran;
      stuck = queues_fail k a q (take (i + 1) ps) h size stuck.stuck;
    }

-- ---- one more pair

last : (k : Setting) (o : Option Queued) → option_and_then (λ q. queue_run k q []) o ≡ o
last k None = refl
last k (Some q) = refl

more : (k : Setting) (ps : List (ℕ × Outcome)) (p : ℕ × Outcome) →
    ((q : Queued)
    → queue_run k q (ps ++ p ∷ []) ≡ option_and_then (λ q. queue_step k q p.0 p.1) (queue_run k q ps)) →
    (o : Option Queued) →
    option_and_then (λ q. queue_run k q (ps ++ p ∷ [])) o
    ≡ option_and_then (λ q. queue_step k q p.0 p.1) (option_and_then (λ q. queue_run k q ps) o)
more k ps p f None = refl
more k ps p f (Some q) = f q

run_more : (k : Setting) (ps : List (ℕ × Outcome)) (p : ℕ × Outcome) (q : Queued) →
    queue_run k q (ps ++ p ∷ []) ≡ option_and_then (λ q. queue_step k q p.0 p.1) (queue_run k q ps)
run_more k [] p q = last k (queue_step k q p.0 p.1)
run_more k (r ∷ ps) p q = more k ps p (run_more k ps p) (queue_step k q r.0 r.1)

-- the next pair of a history
pub queue_next : (k : Setting) (q now : Queued) (history : List (ℕ × Outcome)) (i : ℕ) (p : ℕ × Outcome)
    → slice_get history i ≡ Some p → queue_run k q (take i history) ≡ Some now
    → queue_run k q (take (i + 1) history) ≡ queue_step k now p.0 p.1
queue_next k q now history i p at ran =
    ap (queue_run k q) (take_more history i p (slice_get_within history i p at))
    ∙ run_more k (take i history) (get_or history i p) q
    ∙ ap (option_and_then (λ q. queue_step k q (get_or history i p).0 (get_or history i p).1)) ran
    ∙ ap (λ (r : ℕ × Outcome). queue_step k now r.0 r.1) (get_or_from_slice_get history i p p at)

-- ---- where none may be pending

-- without queues
abbrev pub without : List ℕ × List Core → Queued
without q = record { memory = q.0; queues = []; cores = q.1 }

without_step : (m : List ℕ) (cores : List Core) (c : ℕ) (change : Change) →
    option_map (with_next (without (m, cores)) c) (option_map (λ (x : List ℕ × Core). (x.0, ([], x.1))) change)
    ≡ option_map without (with_core cores c change)
without_step m cores c None = refl
without_step m cores c (Some change) = refl

without_if : (b : Bool) (x : Option Queued) (y : Option (List ℕ × List Core)) → x ≡ option_map without y →
    (if b then x else None) ≡ option_map without (if b then y else None)
without_if true x y e = e
without_if false x y e = refl

-- a step is that over lists without them
pub same_list_step : (k : Setting) → k.store_buffer ≡ 0 → (m : List ℕ) (cores : List Core) (c : ℕ) (o : Outcome) →
    queue_step k (without (m, cores)) c o ≡ option_map without (list_step k m cores c o)
same_list_step k off m cores c o =
    without_if (nat_lt c (length cores)) _ _
    (ap (option_map (with_next (without (m, cores)) c)) (same_after_step k m (core_at cores c) o off)
    ∙ without_step m cores c (after_step_of k m (core_at cores c) o))

pub same_list_run : (k : Setting) → k.store_buffer ≡ 0 → (ps : List (ℕ × Outcome)) (m : List ℕ) (cores : List Core) →
    queue_run k (without (m, cores)) ps ≡ option_map without (list_run k m cores ps)
same_list_run k off [] m cores = refl
same_list_run k off (p ∷ ps) m cores =
    ap (option_and_then (λ q. queue_run k q ps)) (same_list_step k off m cores p.0 p.1)
    ∙ goes_on (same_list_run k off ps) (list_step k m cores p.0 p.1)
  where
    goes_on : ((m : List ℕ) (cores : List Core) →
        queue_run k (without (m, cores)) ps ≡ option_map without (list_run k m cores ps)) →
        (o : Option (List ℕ × List Core)) →
        option_and_then (λ q. queue_run k q ps) (option_map without o)
        ≡ option_map without (option_and_then (λ q. list_run k q.0 q.1 ps) o)
    goes_on rest None = refl
    goes_on rest (Some q) = rest q.0 q.1

-- and so is what such a run ends with
pub ends_without : (k : Setting) (a : State) (ps : List (ℕ × Outcome)) (m : List ℕ) (cores : List Core) →
    EndsWith k a ps m cores → EndsIn k a ps (without (m, cores))
ends_without k a ps m cores h = record {
  end = h.end;
  ran = h.ran;
  holds = record {
    memory = h.agrees.memory;
    count = h.agrees.count;
    each = h.agrees.each;
    pending = h.agrees.none;
  };
}

pub ends_with_none : {Z : Type 0} (k : Setting) (a : State) (ps : List (ℕ × Outcome)) (m : List ℕ) (cores : List Core)
    (queues : List (Vec Store Z)) → queues ≡ [] → EndsWith k a ps m cores →
    EndsIn k a ps (record { memory = m; queues = queues_of queues; cores = cores })
ends_with_none k a ps m cores queues none h =
    subst (λ left. EndsIn k a ps (record { memory = m; queues = queues_of left; cores = cores })) (sym none)
    (ends_without k a ps m cores h)

-- ---- from a program's start

-- lists that hold the state before the first step
pub first_holds : (p : Program) (m : List ℕ) (queues : List Pending) (xs : List SerialCore) → m ≡ opening_memory p
    → xs ≡ map (first_core p) (range_with_len 0 (length p.entries)) → ((core : ℕ) → queue_at queues core ≡ []) →
    Holds (opening_state p) (record { memory = m; queues = queues; cores = map core_of xs })
first_holds p m queues xs em ex none =
    let start : Agrees (opening_state p) m (map core_of xs) = first_agrees p m xs em ex in
    record { memory = start.memory; count = start.count; each = start.each; pending = λ core below. none core }

-- the run by the rules of the program
by_rules : (p : Program) (stores : ℕ) (history : List (ℕ × Outcome)) (code : List ℕ) (base size : ℕ) (q : Queued)
    → code ≡ code_of p → base ≡ p.base → size ≡ p.mem_size →
    queue_run (program_setting p 0 0 stores) q history ≡ queue_run (setting_of code base size 0 0 stores) q history
by_rules p stores history code base size q ec eb es =
    ap (λ x. queue_run (setting_of x p.base p.mem_size 0 0 stores) q history) (sym ec)
    ∙ ap (λ x. queue_run (setting_of code x p.mem_size 0 0 stores) q history) (sym eb)
    ∙ ap (λ x. queue_run (setting_of code base x 0 0 stores) q history) (sym es)

module _ (p : Program) (stores : ℕ) (history : List (ℕ × Outcome)) (code : List ℕ) (base size : ℕ) (start : Queued)
    (ec : code ≡ code_of p) (eb : base ≡ p.base) (es : size ≡ p.mem_size) (holds : Holds (opening_state p) start)
    (own : length start.queues ≡ length start.cores) where
  pub queues_replayed : (now : Queued) → queue_run (setting_of code base size 0 0 stores) start history ≡ Some now →
      EndsIn (program_setting p 0 0 stores) (opening_state p) history now
  queues_replayed now ran =
      queues_end (program_setting p 0 0 stores) (opening_state p) start now history holds own
      (by_rules p stores history code base size start ec eb es ∙ ran)

  pub queues_refused : (i : ℕ) → QueueStuck (setting_of code base size 0 0 stores) start history i →
      IsStuck (program_setting p 0 0 stores) (opening_state p) history i
  queues_refused i h =
      queues_stuck (program_setting p 0 0 stores) (opening_state p) start history i holds own (record {
        within = h.within;
        before = h.before;
        ran = by_rules p stores (take i history) code base size start ec eb es ∙ h.ran;
        stuck = by_rules p stores (take (i + 1) history) code base size start ec eb es ∙ h.stuck;
      })

-- ---- the queues that code keeps

-- the queue of a core
pub queue_is : {Z : Type 0} (queues : List (Vec Store Z)) (i : ℕ) (queue : Vec Store Z) → i < length queues
    → queue ≡ get_or queues i queue → queue_at (queues_of queues) i ≡ queue.items
queue_is queues i queue l e =
    get_or-map (λ (v : Vec Store _). v.items) queues i queue [] l ∙ ap (λ (v : Vec Store _). v.items) (sym e)

new_more : {Z : Type 0} (queues : List (Vec Store Z)) (queue : Vec Store Z) → queue.items ≡ [] →
    ((core : ℕ) → queue_at (queues_of queues) core ≡ []) →
    (core : ℕ) → queue_at (queues_of (queues ++ queue ∷ [])) core ≡ []
new_more [] queue empty none zero = empty
new_more [] queue empty none (suc core) = refl
new_more (first ∷ queues) queue empty none zero = none 0
new_more (first ∷ queues) queue empty none (suc core) =
    new_more queues queue empty (λ other. none (suc other)) core

all_push : {X : Type 0} (P : X → Type 0) (xs : List X) (x : X) → AllByRecursion P xs → P x →
    AllByRecursion P (xs ++ x ∷ [])
all_push P [] x all one = (one, tt)
all_push P (y ∷ xs) x all one = (all.0, all_push P xs x all.1 one)

-- one queue more
pub are_new : {Z : Type 0} (stores count : ℕ) (queues : List (Vec Store Z)) (queue : Vec Store Z) →
    AreNew stores count queues → queue.items ≡ [] → vec_capacity queue ≡ stores →
    AreNew stores (count + 1) (queues ++ queue ∷ [])
are_new stores count queues queue new empty room = record {
  number = length-append queues (queue ∷ []) ∙ ap (λ n. n + 1) new.number;
  none = new_more queues queue empty new.none;
  each = λ size. all_push (IsQueue size stores) queues queue (new.each size) (record {
    room = room;
    lie = subst (All (IsStorable size)) (sym empty) (All-nil (IsStorable size));
  });
}

-- ---- a step at a place of the lists that code keeps

module _ {Z : Type 0} (k : Setting) (m now : List ℕ) (queues : List (Vec Store Z)) (xs : List SerialCore) (i c : ℕ)
    (o : Outcome) (queue left dq : Vec Store Z) (x d : SerialCore) (at : i ≡ c) (l : i < length xs)
    (own : length queues ≡ length xs) (eq : queue ≡ get_or queues i dq) (ex : x ≡ get_or xs i d) where
  abbrev given : Queued
  given = queued_in m queues xs

  queue_step_at : queue_step k given c o ≡ option_map (with_next given i) (after_step k m queue.items (core_of x) o)
  queue_step_at =
      let size = length-map xs core_of in
      let inside : nat_lt i (length (map core_of xs)) ≡ true = lt-ltb i (length (map core_of xs)) (omega arith) in
      let here : core_at (map core_of xs) i ≡ core_of x = get_or-map core_of xs i d _ l ∙ ap core_of (sym ex) in
      let there : queue_at (queues_of queues) i ≡ queue.items =
      get_or-map (λ (v : Vec Store Z). v.items) queues i dq [] (omega arith)
      ∙ ap (λ (v : Vec Store Z). v.items) (sym eq) in
      ap (λ j. queue_step k given j o) (sym at)
      ∙ ap (λ b. if b
      then option_map (with_next given i) (after_step k m (queue_at given.queues i) (core_at given.cores i) o)
      else None) inside
      ∙ ap (λ p. option_map (with_next given i) (after_step k m p (core_at given.cores i) o)) there
      ∙ ap (λ y. option_map (with_next given i) (after_step k m queue.items y o)) here

  pub queue_step_some : (next : SerialCore) → after_step k m queue.items (core_of x) o
      ≡ behind_queue now left.items (Some next) →
      queue_step k given c o ≡ Some (queued_in now (slice_set queues i left) (slice_set xs i next))
  queue_step_some next done =
      let put : List Pending → List Core → Queued = λ qs cs. record { memory = now; queues = qs; cores = cs } in
      queue_step_at
      ∙ ap (option_map (with_next given i)) done
      ∙ ap (λ qs. Some (put qs (slice_set (map core_of xs) i (core_of next))))
      (sym (map-set (λ (v : Vec Store Z). v.items) queues i left))
      ∙ ap (λ cs. Some (put (queues_of (slice_set queues i left)) cs)) (sym (map-set core_of xs i next))

  pub queue_step_none : after_step k m queue.items (core_of x) o ≡ None → queue_step k given c o ≡ None
  queue_step_none none = queue_step_at ∙ ap (option_map (with_next given i)) none

-- and where there is no such core
pub queue_step_past : {Z : Type 0} (k : Setting) (m : List ℕ) (queues : List (Vec Store Z)) (xs : List SerialCore)
    (c : ℕ) (o : Outcome) → length xs ≤ c → queue_step k (queued_in m queues xs) c o ≡ None
queue_step_past k m queues xs c o l =
    let size = length-map xs core_of in
    let outside : nat_lt c (length (map core_of xs)) ≡ false = le-ltb c (length (map core_of xs)) (omega arith) in
    ap (λ b. if b
    then option_map (with_next (queued_in m queues xs) c)
    (after_step k m (queue_at (queues_of queues) c) (core_at (map core_of xs) c) o)
    else None) outside

-- none yet
pub none_new : {Z : Type 0} (stores : ℕ) (queues : List (Vec Store Z)) → queues ≡ [] → AreNew stores 0 queues
none_new {Z} stores queues empty =
    subst (AreNew stores 0) (sym empty) (record {
      number = refl;
      none = λ core. refl;
      each = λ size. tt;
    })

-- as many queues as cores
pub first_own : (p : Program) (xs : List SerialCore) (cores number : ℕ)
    → xs ≡ map (first_core p) (range_with_len 0 (length p.entries)) → cores ≡ length p.entries → number ≡ cores →
    number ≡ length xs
first_own p xs cores number ex program is =
    is ∙ program ∙ sym (length-map-range_with_len (first_core p) 0 (length p.entries)) ∙ ap length (sym ex)

pub own_lists : {Z : Type 0} (queues : List (Vec Store Z)) (xs : List SerialCore) → length queues ≡ length xs →
    length (queues_of queues) ≡ length (map core_of xs)
own_lists queues xs own =
    length-map queues (λ (v : Vec Store _). v.items) ∙ own ∙ sym (length-map xs core_of)

-- lists that were lent, and come back
pub ends_back : {Z : Type 0} (k : Setting) (a : State) (history : List (ℕ × Outcome)) (m m2 : List ℕ)
    (queues q2 : List (Vec Store Z)) (xs c2 : List SerialCore) → m2 ≡ m → q2 ≡ queues → c2 ≡ xs →
    EndsIn k a history (queued_in m2 q2 c2) → EndsIn k a history (queued_in m queues xs)
ends_back k a history m m2 queues q2 xs c2 em eq ex h =
    subst (λ n. EndsIn k a history (queued_in n queues xs)) em
    (subst (λ qs. EndsIn k a history (queued_in m2 qs xs)) eq
    (subst (λ cs. EndsIn k a history (queued_in m2 q2 cs)) ex h))
