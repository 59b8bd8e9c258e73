-- Steps of a core with stores pending, case by case.
use Rattle.std.proofs.Common.{◌≡◌, ℕ, ◌<◌, ◌≤◌, Bool, true, false, not, ◌||◌, List, [], ◌∷◌, ◌++◌, length, Option}
use Rattle.std.proofs.Common.{Some, None, refl, sym, ap, ◌∙◌, subst, arith, get_or, nat_eq, nat_lt, if◌then◌else◌}
use Rattle.std.specs.Prelude.{All, IfSome, ◌==◌, remove, suc}
use Rattle.std.specs.Option.{option_and_then, option_map}
use Rattle.std.proofs.lemmas.Bool.{eqb-true, lt-ltb, le-ltb, ltb-false, ltb-true, ne_eqb, true≢false}
use Rattle.std.proofs.lemmas.List.Elements.{All-drop, All-head}
use Rattle.tm_rule.specs.Rule.{outside_of}
use Rattle.tm_rule.proofs.Facts.{StoreIn, store_within}
use Rattle.tm_model.specs.Access.{memory_after, stores_of}
use Rattle.tm_model.specs.Isolated.{isolated_body}
use Rattle.tm_model.specs.Setting.{Setting, outside_at, value_at}
use Rattle.tm_model.specs.State.{Closed, Core, Halted, Midway, Opened, Pending, seen_memory}
use Rattle.tm_model.specs.Steps.{Change, Next, after_begin, after_commit, after_drain, after_load, after_plain}
use Rattle.tm_model.specs.Steps.{after_step, after_step_of, after_stop, must_wait, needs_none, needs_room}
use Rattle.tm_model.specs.Steps.{registers_after_abort, settled, store_buffered, store_of, store_outside}
use Rattle.tm_model.specs.Types.{Begins, Goes, OutsideResult, Regs, Stop, Stops, Store}
use Rattle.tm_model.specs.declared.outcome.Outcome.{Outcome}
use Rattle.tm_model.specs.declared.outcome.Outcome.TheVariants.{Plain, Loaded, Stopped, Idle, Begun, Inside, Committed}
use Rattle.tm_model.specs.declared.outcome.Outcome.TheVariants.{Aborted, AbortedBy, Drained}
use Rattle.tm_hist.specs.Queues.{IsStorable, after_queued, storing, storing_nothing, with_none_pending, with_queue}

-- ---- the one rule of every step but a drain

abbrev pub is_drained : Outcome → Bool
is_drained Drained = true
is_drained Plain = false
is_drained Loaded = false
is_drained (Stopped stop) = false
is_drained Idle = false
is_drained Begun = false
is_drained Inside = false
is_drained Committed = false
is_drained (Aborted status) = false
is_drained (AbortedBy by status) = false

module _ (k : Setting) (m : List ℕ) (p : Pending) (x : Core) where
  abbrev pub seen : List ℕ
  seen = seen_memory m p

  abbrev pub by_rule : Outcome → Option Next
  by_rule o =
      if must_wait k seen p x o
      then None
      else option_map (settled m p (store_buffered k seen x o)) (after_step_of k seen x o)

  pub unfolds : (o : Outcome) → is_drained o ≡ false → after_step k m p x o ≡ by_rule o
  unfolds Drained drains = cc
  unfolds Plain drains = refl
  unfolds Loaded drains = refl
  unfolds (Stopped stop) drains = refl
  unfolds Idle drains = refl
  unfolds Begun drains = refl
  unfolds Inside drains = refl
  unfolds Committed drains = refl
  unfolds (Aborted status) drains = refl
  unfolds (AbortedBy by status) drains = refl

  refused_if : (t : Bool) (f : List ℕ × Core → Next) (change : Change) → change ≡ None →
      (if t then None else option_map f change) ≡ None
  refused_if true f change none = refl
  refused_if false f change none = ap (option_map f) none

  -- what the rules do not allow on what the core sees
  pub refused : (o : Outcome) → is_drained o ≡ false → after_step_of k seen x o ≡ None → after_step k m p x o ≡ None
  refused o drains none =
      unfolds o drains
      ∙ refused_if (must_wait k seen p x o) (settled m p (store_buffered k seen x o)) (after_step_of k seen x o) none

-- ---- with none pending

settles_none : (m : List ℕ) (t : Bool) (change : Change) →
    option_map (settled m [] (if t then None else None)) change ≡ option_map (with_queue []) change
settles_none m true None = refl
settles_none m true (Some change) = refl
settles_none m false None = refl
settles_none m false (Some change) = refl

-- a step that stores nothing, or stores at once, is the step on memory
pub on_memory : (k : Setting) (m : List ℕ) (x : Core) (o : Outcome) → is_drained o ≡ false →
    store_outside k m x o ≡ None → after_step k m [] x o ≡ option_map (with_queue []) (after_step_of k m x o)
on_memory k m x o drains none =
    unfolds k m [] x o drains
    ∙ ap (λ s. option_map (settled m [] (if nat_eq k.store_buffer 0 then None else s)) (after_step_of k m x o)) none
    ∙ settles_none m (nat_eq k.store_buffer 0) (after_step_of k m x o)

-- ---- a step that stores nothing and waits for nothing

kept_behind : (m : List ℕ) (p : Pending) (t : Bool) (y : Core) →
    option_map (settled m p (if t then None else None)) (Some (seen_memory m p, y)) ≡ Some (m, (p, y))
kept_behind m [] true y = refl
kept_behind m [] false y = refl
kept_behind m (oldest ∷ younger) true y = refl
kept_behind m (oldest ∷ younger) false y = refl

waits_not : (k : Setting) (m : List ℕ) (p : Pending) (x : Core) (o : Outcome) → needs_none k x o ≡ false →
    store_outside k (seen_memory m p) x o ≡ None → must_wait k (seen_memory m p) p x o ≡ false
waits_not k m [] x o none stores = refl
waits_not k m (oldest ∷ younger) x o none stores =
    ap (λ t. t || needs_room k (oldest ∷ younger) (store_outside k (seen_memory m (oldest ∷ younger)) x o)) none
    ∙ ap (needs_room k (oldest ∷ younger)) stores

pub keeps : (k : Setting) (m : List ℕ) (p : Pending) (x : Core) (o : Outcome) (y : Core) → is_drained o ≡ false →
    needs_none k x o ≡ false → store_outside k (seen_memory m p) x o ≡ None →
    after_step_of k (seen_memory m p) x o ≡ Some (seen_memory m p, y) → after_step k m p x o ≡ Some (m, (p, y))
keeps k m p x o y drains none stores moves =
    let seen : List ℕ = seen_memory m p in
    unfolds k m p x o drains
    ∙ ap (λ t. if t then None
    else option_map (settled m p (store_buffered k seen x o)) (after_step_of k seen x o))
    (waits_not k m p x o none stores)
    ∙ ap (λ s. option_map (settled m p (if nat_eq k.store_buffer 0 then None else s)) (after_step_of k seen x o)) stores
    ∙ ap (option_map (settled m p (if nat_eq k.store_buffer 0 then None else None))) moves
    ∙ kept_behind m p (nat_eq k.store_buffer 0) y

-- ---- where one waits until none is pending

some_pending : (oldest : Store) (younger : Pending) (one : Option Next) →
    None ≡ (if length (oldest ∷ younger) == 0 then one else None)
some_pending oldest younger one =
    ap (λ t. if t then one else None) (sym (ne_eqb (length (oldest ∷ younger)) 0 (λ e. absurd (omega arith))))

stops_is : (k : Setting) (m : List ℕ) (p : Pending) (regs : Regs) (stop : Stop) →
    after_step k m p (Closed regs) (Stopped stop)
    ≡ with_none_pending p (after_stop m regs stop (outside_at k regs m))
stops_is k m [] regs stop = on_memory k m (Closed regs) (Stopped stop) refl refl
stops_is k m (oldest ∷ younger) regs stop = some_pending oldest younger _

commits_is : (k : Setting) (m : List ℕ) (p : Pending) (regs : Regs) (steps : ℕ) →
    after_step k m p (Opened regs steps) Committed
    ≡ with_none_pending p (option_and_then (after_commit m) (isolated_body k regs m (suc steps)))
commits_is k m [] regs steps = on_memory k m (Opened regs steps) Committed refl refl
commits_is k m (oldest ∷ younger) regs steps = some_pending oldest younger _

-- ---- what stores outside of transactions, in the second of two steps

module _ (k : Setting) (m : List ℕ) (regs : Regs) (value : ℕ) where
  abbrev second : Pending → Option Next
  second p = after_step k m p (Midway regs value) Plain

  pub stores_none : (p : Pending) (next : Regs) → k.outside regs value ≡ Goes next None →
      second p ≡ Some (m, (p, Closed next))
  stores_none p next is =
      keeps k m p (Midway regs value) Plain (Closed next) refl refl (ap store_of is)
      (ap (after_plain (seen_memory m p)) is)

  -- with room
  pub stores_one : (p : Pending) (next : Regs) (store : Store) → k.outside regs value ≡ Goes next (Some store) →
      length p < k.store_buffer → second p ≡ Some (m, (p ++ store ∷ [], Closed next))
  stores_one [] next store is room =
      ap (λ (r : OutsideResult). option_map (settled m [] (if nat_eq k.store_buffer 0 then None else store_of r))
      (after_plain m r)) is
      ∙ ap (λ t. option_map (settled m [] (if t then None else Some store)) (after_plain m (Goes next (Some store))))
      (ne_eqb k.store_buffer 0 (λ e. omega arith))
  stores_one (oldest ∷ younger) next store is room =
      let p : Pending = oldest ∷ younger in
      let seen : List ℕ = seen_memory m p in
      ap (λ (r : OutsideResult). if needs_room k p (store_of r) then None
      else option_map (settled m p (if nat_eq k.store_buffer 0 then None else store_of r)) (after_plain seen r)) is
      ∙ ap (λ t. if not t then None
      else option_map (settled m p (if nat_eq k.store_buffer 0 then None else Some store))
      (after_plain seen (Goes next (Some store)))) (lt-ltb (length p) k.store_buffer room)
      ∙ ap (λ t. option_map (settled m p (if t then None else Some store)) (after_plain seen (Goes next (Some store))))
      (ne_eqb k.store_buffer 0 (λ e. omega arith))

  -- without room
  pub stores_later : (p : Pending) (next : Regs) (store : Store) → k.outside regs value ≡ Goes next (Some store) →
      0 < k.store_buffer → k.store_buffer ≤ length p → second p ≡ None
  stores_later [] next store is some full = absurd (omega arith)
  stores_later (oldest ∷ younger) next store is some full =
      let p : Pending = oldest ∷ younger in
      let seen : List ℕ = seen_memory m p in
      ap (λ (r : OutsideResult). if needs_room k p (store_of r) then None
      else option_map (settled m p (if nat_eq k.store_buffer 0 then None else store_of r)) (after_plain seen r)) is
      ∙ ap (λ t. if not t then None
      else option_map (settled m p (if nat_eq k.store_buffer 0 then None else Some store))
      (after_plain seen (Goes next (Some store)))) (le-ltb (length p) k.store_buffer full)

  pub begins_none : (p : Pending) (next : Regs) → k.outside regs value ≡ Begins next → second p ≡ None
  begins_none p next is = refused k m p (Midway regs value) Plain refl (ap (after_plain (seen_memory m p)) is)

  pub stops_none : (p : Pending) (stop : Stop) → k.outside regs value ≡ Stops stop → second p ≡ None
  stops_none p stop is = refused k m p (Midway regs value) Plain refl (ap (after_plain (seen_memory m p)) is)

-- ---- and in one step

module _ (k : Setting) (m : List ℕ) (regs : Regs) where
  -- of an instruction that does not wait: as the second of two
  pub as_second : (p : Pending) → k.waits regs ≡ false → k.takes_two_steps regs ≡ false →
      after_step k m p (Closed regs) Plain
      ≡ after_step k m p (Midway regs (value_at k regs (seen_memory m p))) Plain
  as_second [] waits two =
      let r : OutsideResult = outside_at k regs m in
      ap (λ w. option_map (settled m [] (if nat_eq k.store_buffer 0 then None else if w then None else store_of r))
      (if k.takes_two_steps regs then None else after_plain m r)) waits
      ∙ ap (λ t. option_map (settled m [] (if nat_eq k.store_buffer 0 then None else store_of r))
      (if t then None else after_plain m r)) two
  as_second (oldest ∷ younger) waits two =
      let p : Pending = oldest ∷ younger in
      let seen : List ℕ = seen_memory m p in
      let r : OutsideResult = outside_at k regs seen in
      ap (λ w. if w || needs_room k p (if w then None else store_of r) then None
      else option_map (settled m p (if nat_eq k.store_buffer 0 then None else if w then None else store_of r))
      (if k.takes_two_steps regs then None else after_plain seen r)) waits
      ∙ ap (λ t. if needs_room k p (store_of r) then None
      else option_map (settled m p (if nat_eq k.store_buffer 0 then None else store_of r))
      (if t then None else after_plain seen r)) two

  -- of one that takes two there is no such step
  pub takes_two : (p : Pending) → k.takes_two_steps regs ≡ true → after_step k m p (Closed regs) Plain ≡ None
  takes_two p two =
      refused k m p (Closed regs) Plain refl
      (ap (λ t. if t then None else after_plain (seen_memory m p) (outside_at k regs (seen_memory m p))) two)

  -- one that waits stores at once
  waits_is : (p : Pending) → k.waits regs ≡ true → k.takes_two_steps regs ≡ false →
      after_step k m p (Closed regs) Plain ≡ with_none_pending p (after_plain m (outside_at k regs m))
  waits_is [] waits two =
      on_memory k m (Closed regs) Plain refl (ap (λ w. if w then None else store_of (outside_at k regs m)) waits)
      ∙ ap (λ t. option_map (with_queue []) (if t then None else after_plain m (outside_at k regs m))) two
  waits_is (oldest ∷ younger) waits two =
      let p : Pending = oldest ∷ younger in
      let seen : List ℕ = seen_memory m p in
      ap (λ t. if t || needs_room k p (store_outside k seen (Closed regs) Plain)
      then None
      else option_map (settled m p (store_buffered k seen (Closed regs) Plain))
      (after_step_of k seen (Closed regs) Plain)) waits
      ∙ some_pending oldest younger _

-- ---- the first of two steps, and an XBEGIN

module _ (k : Setting) (m : List ℕ) (p : Pending) (regs : Regs) where
  abbrev sees : List ℕ
  sees = seen_memory m p

  abbrev value : ℕ
  value = value_at k regs sees

  loads_is : (two : Bool) (r : OutsideResult) → k.takes_two_steps regs ≡ two → outside_at k regs sees ≡ r →
      after_step k m p (Closed regs) Loaded
      ≡ (if two then storing_nothing m p (after_load sees regs value r) else None)
  loads_is true (Goes next store) two is =
      keeps k m p (Closed regs) Loaded (Midway regs value) refl refl refl
      (ap (λ t. if t then after_load sees regs value (outside_at k regs sees) else None) two
      ∙ ap (after_load sees regs value) is)
  loads_is true (Begins next) two is = refused k m p (Closed regs) Loaded refl
      (ap (λ t. if t then after_load sees regs value (outside_at k regs sees) else None) two
      ∙ ap (after_load sees regs value) is)
  loads_is true (Stops stop) two is = refused k m p (Closed regs) Loaded refl
      (ap (λ t. if t then after_load sees regs value (outside_at k regs sees) else None) two
      ∙ ap (after_load sees regs value) is)
  loads_is false r two is = refused k m p (Closed regs) Loaded refl
      (ap (λ t. if t then after_load sees regs value (outside_at k regs sees) else None) two)

  begins_is : (r : OutsideResult) → outside_at k regs sees ≡ r →
      after_step k m p (Closed regs) Begun ≡ storing_nothing m p (after_begin sees regs r)
  begins_is (Begins next) is =
      keeps k m p (Closed regs) Begun (Opened regs 1) refl refl refl (ap (after_begin sees regs) is)
  begins_is (Goes next store) is = refused k m p (Closed regs) Begun refl (ap (after_begin sees regs) is)
  begins_is (Stops stop) is = refused k m p (Closed regs) Begun refl (ap (after_begin sees regs) is)

-- ---- every step

module _ (k : Setting) (some : 0 < k.store_buffer) (m : List ℕ) (p : Pending) where
  roomy : (regs : Regs) (value : ℕ) (next : Regs) (store : Store) (t : Bool)
      → k.outside regs value ≡ Goes next (Some store) → nat_lt (length p) k.store_buffer ≡ t →
      after_step k m p (Midway regs value) Plain
      ≡ (if t then Some (m, (p ++ store ∷ [], Closed next)) else None)
  roomy regs value next store true is room =
      stores_one k m regs value p next store is (ltb-true (length p) k.store_buffer room)
  roomy regs value next store false is room =
      stores_later k m regs value p next store is some (ltb-false (length p) k.store_buffer room)

  second_is : (regs : Regs) (value : ℕ) (r : OutsideResult) → k.outside regs value ≡ r →
      after_step k m p (Midway regs value) Plain ≡ storing m k.store_buffer p r
  second_is regs value (Goes next None) is = stores_none k m regs value p next is
  second_is regs value (Goes next (Some store)) is =
      roomy regs value next store (nat_lt (length p) k.store_buffer) is refl
  second_is regs value (Begins next) is = begins_none k m regs value p next is
  second_is regs value (Stops stop) is = stops_none k m regs value p stop is

  plain_is : (regs : Regs) (two waits : Bool) → k.takes_two_steps regs ≡ two → k.waits regs ≡ waits →
      after_step k m p (Closed regs) Plain
      ≡ (if two
      then None
      else
      if waits
      then with_none_pending p (after_plain m (outside_at k regs m))
      else storing m k.store_buffer p (outside_at k regs (seen_memory m p)))
  plain_is regs true waits two fence = takes_two k m regs p two
  plain_is regs false true two fence = waits_is k m regs p fence two
  plain_is regs false false two fence =
      as_second k m regs p fence two
      ∙ second_is regs (value_at k regs (seen_memory m p)) (outside_at k regs (seen_memory m p)) refl

  pub queued_is : (x : Core) (o : Outcome) → after_step k m p x o ≡ after_queued k m p x o
  queued_is x Drained = refl
  queued_is (Closed regs) Plain = plain_is regs (k.takes_two_steps regs) (k.waits regs) refl refl
  queued_is (Closed regs) Loaded =
      loads_is k m p regs (k.takes_two_steps regs) (outside_at k regs (seen_memory m p)) refl refl
  queued_is (Closed regs) (Stopped stop) = stops_is k m p regs stop
  queued_is (Closed regs) Begun = begins_is k m p regs (outside_at k regs (seen_memory m p)) refl
  queued_is (Midway regs value) Plain = second_is regs value (k.outside regs value) refl
  queued_is (Halted regs stop) Idle = keeps k m p (Halted regs stop) Idle (Halted regs stop) refl refl refl refl
  queued_is (Opened regs steps) Inside =
      keeps k m p (Opened regs steps) Inside (Opened regs (suc steps)) refl refl refl refl
  queued_is (Opened regs steps) Committed = commits_is k m p regs steps
  queued_is (Opened regs steps) (Aborted status) =
      keeps k m p (Opened regs steps) (Aborted status) (Closed (registers_after_abort k regs status)) refl refl refl
      refl
  queued_is (Opened regs steps) (AbortedBy by status) =
      keeps k m p (Opened regs steps) (AbortedBy by status) (Closed (registers_after_abort k regs status)) refl refl
      refl refl
  queued_is x o = refused k m p x o refl refl

-- ---- a drain

pub drains_none : (m : List ℕ) (p : Pending) (x : Core) → (length p == 0) ≡ true → after_drain m p x ≡ None
drains_none m [] x none = refl
drains_none m (oldest ∷ younger) x none =
    let e : length (oldest ∷ younger) ≡ 0 = eqb-true (length (oldest ∷ younger)) 0 none in absurd (omega arith)

pub drains_one : (m now : List ℕ) (p left : Pending) (x : Core) (oldest : Store) → (length p == 0) ≡ false →
    oldest ≡ get_or p 0 oldest → left ≡ remove p 0 → now ≡ memory_after m (stores_of (Some oldest)) →
    after_drain m p x ≡ Some (now, (left, x))
drains_one m now [] left x oldest some is rest written = absurd (true≢false some)
drains_one m now (first ∷ younger) left x oldest some is rest written =
    ap (λ (s : Store). Some (memory_after m (stores_of (Some s)), (younger, x))) (sym is)
    ∙ ap (λ (l : List ℕ). Some (l, (younger, x))) (sym written)
    ∙ ap (λ (q : Pending). Some (now, (q, x))) (sym rest)

-- ---- the stores of a result lie in memory

storable : (size : ℕ) (o : Option Store) → StoreIn size o → IfSome o (IsStorable size)
storable size None h = tt
storable size (Some store) h = record { place = h.0; value = h.1 }

pub result_lies : (code : List ℕ) (base size : ℕ) (s : Regs) (v : ℕ) (r : OutsideResult) →
    r ≡ outside_of code base size s v → IfSome (store_of r) (IsStorable size)
result_lies code base size s v (Goes next store) is =
    storable size store (store_within code base size s v next store (sym is))
result_lies code base size s v (Begins next) is = tt
result_lies code base size s v (Stops stop) is = tt

-- ---- and those that are pending

pub oldest_lies : (size : ℕ) (p : Pending) (oldest : Store) → All (IsStorable size) p → (length p == 0) ≡ false →
    oldest ≡ get_or p 0 oldest → IsStorable size oldest
oldest_lies size [] oldest lie some is = absurd (true≢false some)
oldest_lies size (first ∷ younger) oldest lie some is =
    subst (IsStorable size) (sym is) (All-head (IsStorable size) first younger lie)

pub rest_lies : (size : ℕ) (p left : Pending) → All (IsStorable size) p → left ≡ remove p 0 →
    All (IsStorable size) left
rest_lies size p left lie is = subst (All (IsStorable size)) (sym is) (All-drop (IsStorable size) 1 p lie)
