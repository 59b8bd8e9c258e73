-- A step of a machine's parts with a row of pending stores: what the machine would show without store buffers, and that
-- its parts are a machine's again.
use Rattle.std.proofs.Common.{◌≡◌, ℕ, ◌*◌, ◌<◌, ◌≤◌, ◌^◌, ◌++◌, Bool, false, true, eqb, List, [], ◌∷◌}
use Rattle.std.proofs.Common.{length}
use Rattle.std.proofs.Common.{Option, Some, None, drop, take, refl, sym, ap, ◌∙◌, subst}
use Rattle.std.specs.Prelude.{Result, nat_eq, if◌then◌else◌}
use Rattle.std.proofs.lemmas.Bool.{cond_both}
use Rattle.ia_insn.specs.declared.fault.DecodeFault.{DecodeFault}
use Rattle.ia_insn.specs.declared.op.Insn.{Insn}
use Rattle.ia_flat.specs.declared.flat.FlatAt.{FlatAt}
use Rattle.tm_sets.specs.Content.{Content, Fixed}
use Rattle.tm_model.specs.Setting.{Setting}
use Rattle.tm_model.specs.Shown.{View}
use Rattle.tm_model.specs.Conflicts.{addresses_loaded_by}
use Rattle.tm_model.specs.State.{Core, Pending, seen_memory}
use Rattle.tm_model.specs.Steps.{must_wait, settled, store_buffered, store_outside}
use Rattle.tm_model.specs.declared.outcome.Event.TheVariants as event
use Rattle.tm_core.specs.declared.cpu.Cpu.{Cpu}
use Rattle.tm_core.specs.Buffered.{MakesPending, setting_at}
use Rattle.tm_core.specs.Machine.{IsMachine, shown_by}
use Rattle.tm_core.specs.PendingStep.{PendingResult, core_like, drains, goes_or_waits, settles, stepped_pending}
use Rattle.tm_core.specs.PendingStep.{touched_now, views_then}
use Rattle.tm_core.specs.Representation.{AreClosed, IsHeld, IsSound, Sane, cpu_views, kept_at, parts_setting}
use Rattle.tm_core.specs.Representation.{IsStepUnder, setting_with}
use Rattle.tm_core.specs.StepRefinement.{StepResult, stepped_under, view_after_hit, views_after}
use Rattle.tm_core.specs.StoreBuffers.{Leaves, StepsPending}
use Rattle.tm_core.specs.Theorem.{ShownMachine, view_at}
use Rattle.tm_core.specs.Types.{AtStop, Condemned, CoreState, Event, Interference, Mid, Open, Outcome, Read, Running}
use Rattle.tm_core.specs.Types.{Store, Write}
use Rattle.tm_core.proofs.Aheads.{goes_on}
use Rattle.tm_core.proofs.MachineLemmas.{length-views_list, same_with, view_at_is, written_back}
use Rattle.tm_core.proofs.OtherCores.{length-seen}
use Rattle.tm_core.proofs.Sanity.{hit_sane, step_sane_under}
use Rattle.tm_core.proofs.Sound.{Sound}
use Rattle.tm_core.proofs.Table.{sound}
use Rattle.tm_core.proofs.WholeMachine.{core_within}

-- ---- what holds of each core holds after the step

abbrev IsSane : Setting → View → Type 0
IsSane k v = Sane k v v.mode

drains_view : (m : List ℕ) (p : Pending) (v : View) → v ≡ (drains m p v).view
drains_view m [] v = refl
drains_view m (oldest ∷ younger) v = refl

goes_sane : (event : Option Event) (k : Setting) → Sound k → (m : List ℕ) (p : Pending) (v : View) → IsSane k v
    → IsSane k (goes_or_waits k m p v (stepped_under event k (seen_memory m p) v v.mode)).view
goes_sane event k sound m p v sane =
    let seen : List ℕ = seen_memory m p in
    cond_both (must_wait k seen p (core_like v v.mode) (stepped_under event k seen v v.mode).outcome) (drains m p v)
    (settles k m p v (stepped_under event k seen v v.mode)) (λ (q : PendingResult). IsSane k q.view)
    (λ _. subst (IsSane k) (drains_view m p v) sane)
    (λ _. step_sane_under event k sound seen v v.mode refl sane)

pending_sane : (event : Option Event) (k : Setting) → Sound k → (m : List ℕ) (p : Pending) (v : View) → IsSane k v
    → IsSane k (stepped_pending event k m p v).view
pending_sane None k sound m p v sane = goes_sane None k sound m p v sane
pending_sane (Some event.Drain) k sound m [] v sane = goes_sane (Some event.Drain) k sound m [] v sane
pending_sane (Some event.Drain) k sound m (oldest ∷ younger) v sane = sane
pending_sane (Some (event.Abort by)) k sound m p v sane = goes_sane (Some (event.Abort by)) k sound m p v sane

-- whatever the size of the store buffers
sane_with : (code : List ℕ) (base size : ℕ) (a : Content) (most : ℕ) (v : View) (mode : CoreState)
    → Sane (parts_setting code base size a) v mode → Sane (setting_with code base size a most) v mode
sane_with code base size a most v (Open depth) h = h
sane_with code base size a most v Running h = h
sane_with code base size a most v Mid h = h
sane_with code base size a most v (Condemned depth) h = h
sane_with code base size a most v (AtStop stop) h = h

sane_without : (code : List ℕ) (base size : ℕ) (a : Content) (most : ℕ) (v : View) (mode : CoreState)
    → Sane (setting_with code base size a most) v mode → Sane (parts_setting code base size a) v mode
sane_without code base size a most v (Open depth) h = h
sane_without code base size a most v Running h = h
sane_without code base size a most v Mid h = h
sane_without code base size a most v (Condemned depth) h = h
sane_without code base size a most v (AtStop stop) h = h

-- ---- an abort from outside of the program

abbrev no_store : Option Store
no_store = None

either_none : (t : Bool) → (if t then no_store else no_store) ≡ no_store
either_none true = refl
either_none false = refl

-- a step that waits for nothing, stores nothing and leaves memory, leaves what is pending too
abbrev left_with : List ℕ → Pending → StepResult → PendingResult
left_with m p r = record { outcome = r.outcome; memory = m; pending = p; view = r.view; touched = r.touched }

free_goes : (k : Setting) (m : List ℕ) (p : Pending) (v : View) (r : StepResult) →
    must_wait k (seen_memory m p) p (core_like v v.mode) r.outcome ≡ false →
    store_outside k (seen_memory m p) (core_like v v.mode) r.outcome ≡ None → r.memory ≡ seen_memory m p →
    goes_or_waits k m p v r ≡ left_with m p r
free_goes k m p v r goes none memory =
    let core : Core = core_like v v.mode in
    let seen : List ℕ = seen_memory m p in
    let settles_as : Option Store → PendingResult = λ w. record {
      outcome = r.outcome;
      memory = (settled m p w (r.memory, core)).0;
      pending = (settled m p w (r.memory, core)).1.0;
      view = r.view;
      touched = touched_now w (addresses_loaded_by k seen core r.outcome) r.touched;
    } in
    let buffered : store_buffered k seen core r.outcome ≡ None =
    ap (λ w. if nat_eq k.store_buffer 0 then None else w) none ∙ either_none (nat_eq k.store_buffer 0) in
    ap (λ t. if t then drains m p v else settles k m p v r) goes
    ∙ ap settles_as buffered
    ∙ left p memory
  where
    left : (q : Pending) → r.memory ≡ seen_memory m q →
        ◌≡◌ {A = PendingResult}
        (record {
          outcome = r.outcome;
          memory = (settled m q None (r.memory, core_like v v.mode)).0;
          pending = (settled m q None (r.memory, core_like v v.mode)).1.0;
          view = r.view;
          touched = r.touched;
        }) (left_with m q r)
    left [] is = λ i. record {
      outcome = r.outcome;
      memory = is i;
      pending = [];
      view = r.view;
      touched = r.touched;
    }
    left (oldest ∷ younger) is = refl

abbrev IsFree : Setting → List ℕ → Pending → Core → StepResult → Type 0
IsFree k seen p core r =
    (must_wait k seen p core r.outcome ≡ false) × (store_outside k seen core r.outcome ≡ None) × (r.memory ≡ seen)

abort_free : (by : Interference) (k : Setting) (m : List ℕ) (p : Pending) (v : View) (depth : ℕ) → v.mode ≡ Open depth
    → IsFree k (seen_memory m p) p (core_like v v.mode)
    (stepped_under (Some (event.Abort by)) k (seen_memory m p) v v.mode)
abort_free by k m p v depth opened =
    let seen : List ℕ = seen_memory m p in
    let quit : StepResult = stepped_under (Some (event.Abort by)) k seen v (Open depth) in
    subst (λ mode. IsFree k seen p (core_like v mode) (stepped_under (Some (event.Abort by)) k seen v mode)) (sym
    opened)
    (goes_on k seen p (core_like v (Open depth)) quit.outcome refl refl, refl, refl)

-- ---- from the parts

module _ (event : Option Event) (code : List ℕ) (base most : ℕ) (m m2 : List ℕ) (a b : Content) (cpus cpus2 : List Cpu)
    (p p2 : Pending) (c : ℕ) (o : Outcome) (made : StepsPending event code base most m m2 a b cpus cpus2 p p2 c o)
    (same_cores : length cpus2 ≡ length cpus) (same_size : length m2 ≡ length m) (below : c < length cpus) where
  abbrev old : ShownMachine
  old = shown_by a code base m cpus

  abbrev new : ShownMachine
  new = shown_by b code base m2 cpus2

  abbrev r : PendingResult
  r = stepped_pending event (setting_with code base (length m) a most) m p (cpu_views a cpus c)

  own : view_at old c ≡ cpu_views a cpus c
  own = view_at_is a code base m cpus c below

  abbrev shown : PendingResult
  shown = stepped_pending event (setting_at old most) m p (view_at old c)

  same_result : r ≡ shown
  same_result = ap (stepped_pending event (setting_at old most) m p) (sym own)

  pub makes_pending : MakesPending event most old new p p2 c o
  makes_pending = record {
    same = same_with event code base m m2 a b cpus cpus2 0 [] [] c o made.fixed same_cores same_size;
    step = record {
      outcome_is = made.step.outcome_is ∙ ap (λ (q : PendingResult). q.outcome) same_result;
      new_memory = made.step.new_memory ∙ ap (λ (q : PendingResult). q.memory) same_result;
      left = made.step.left ∙ ap (λ (q : PendingResult). q.pending) same_result;
      each = λ j h.
          let within : j < length cpus = subst (λ n. j < n) (length-views_list a 0 cpus) h in
          view_at_is b code base m2 cpus2 j (subst (λ n. j < n) (sym same_cores) within)
          ∙ made.step.each j within
          ∙ ap (λ (v : View). if nat_eq j c then r.view else view_after_hit r.touched v)
          (sym (view_at_is a code base m cpus j within))
          ∙ ap (λ (q : PendingResult). views_then (view_at old) c q j) same_result;
    };
  }

  pub still_parts : (rows : List (Result (Insn × ℕ) DecodeFault)) (lines : List FlatAt) (busy busy2 : Bool)
      → (busy2 ≡ false → AreClosed cpus2) → IsMachine a code base rows lines m cpus busy
      → IsMachine b code base rows lines m2 cpus2 busy2
  still_parts rows lines busy busy2 quiet was =
      let k : Setting = setting_with code base (length m) a most in
      let k0 : Setting = parts_setting code base (length m) a in
      let sane : (j : ℕ) → j < length cpus → IsSane k (cpu_views a cpus j) =
      λ j h. sane_with code base (length m) a most (cpu_views a cpus j) (cpu_views a cpus j).mode (was.sound.sane j h)
      in
      let sane2 : (j : ℕ) → j < length cpus2 → IsSane k0 (cpu_views b cpus2 j) =
      λ j h. let within : j < length cpus = subst (λ n. j < n) same_cores h in
      sane_without code base (length m) a most (cpu_views b cpus2 j) (cpu_views b cpus2 j).mode
      (subst (IsSane k) (sym (made.step.each j within))
      (cond_both (eqb j c) r.view (view_after_hit r.touched (cpu_views a cpus j)) (IsSane k)
      (λ _. pending_sane event k (sound code base (length m) (a.fixed.room Read) (a.fixed.room Write) most) m p
      (cpu_views a cpus c) (sane c below))
      (λ _. hit_sane k r.touched (cpu_views a cpus j) (sane j within)))) in
      let is_sound : IsSound k0 b cpus2 = record {
        sane = sane2;
        held = λ j h. made.held j (subst (λ n. j < n) same_cores h);
      } in
      record {
        some = subst (λ n. 1 ≤ n) (sym same_cores) was.some;
        few = subst (λ n. n ≤ 64) (sym same_cores) was.few;
        small = subst (λ n. n < 2 ^ 32) (sym same_size) was.small;
        sound = subst (λ (x : Setting). IsSound x b cpus2)
            (sym (same_with event code base m m2 a b cpus cpus2 0 [] [] c o made.fixed same_cores same_size).rules)
            is_sound;
        quiet = quiet;
        known = subst (λ n. n ≤ b.fixed.cores) (sym same_cores)
            (subst (λ (x : Fixed). length cpus ≤ x.cores) (sym made.fixed) was.known);
        within = subst (λ n. n ≤ b.fixed.line_count * 64) (sym same_size)
            (subst (λ (x : Fixed). length m ≤ x.line_count * 64) (sym made.fixed) was.within);
        decoded = was.decoded;
        lined = was.lined;
        told = was.told;
        line_count = was.line_count;
      }

-- an abort from outside of the program, which leaves what is pending
pub aborts_pending : (by : Interference) (code : List ℕ) (base most : ℕ) (m : List ℕ) (a b : Content)
    (cpus cpus2 : List Cpu) (p : Pending) (c depth : ℕ) (o : Outcome) → (cpu_views a cpus c).mode ≡ Open depth →
    ((l : List ℕ) → IsStepUnder (Some (event.Abort by)) (parts_setting code base (length l) a) l (cpu_views a cpus)
    (length cpus) c o l (cpu_views b cpus2)) →
    ((j : ℕ) → j < length cpus → IsHeld (a.fixed.room Write) (kept_at b cpus2 j)) → b.fixed ≡ a.fixed →
    StepsPending (Some (event.Abort by)) code base most m m a b cpus cpus2 p p c o
aborts_pending by code base most m a b cpus cpus2 p c depth o opened is held fixed =
    let k : Setting = setting_with code base (length m) a most in
    let k0 : Setting = parts_setting code base (length m) a in
    let v : View = cpu_views a cpus c in
    let seen : List ℕ = seen_memory m p in
    let r : StepResult = stepped_under (Some (event.Abort by)) k seen v v.mode in
    let step : IsStepUnder (Some (event.Abort by)) k0 seen (cpu_views a cpus) (length cpus) c o seen
    (cpu_views b cpus2) =
    subst (λ z. IsStepUnder (Some (event.Abort by)) (parts_setting code base z a) seen (cpu_views a cpus)
    (length cpus) c o seen (cpu_views b cpus2)) (length-seen m p) (is seen) in
    let free = abort_free by k m p v depth opened in
    let same : stepped_under (Some (event.Abort by)) k0 seen v v.mode ≡ r =
    subst (λ mode. stepped_under (Some (event.Abort by)) k0 seen v mode
    ≡ stepped_under (Some (event.Abort by)) k seen v mode) (sym opened) refl in
    record {
      step = subst (λ (q : PendingResult). Leaves q m p (cpu_views a cpus) (cpu_views b cpus2) (length cpus) c o)
          (sym (free_goes k m p v r free.0 free.1 free.2)) (record {
            outcome_is = step.outcome_is ∙ ap (λ (q : StepResult). q.outcome) same;
            new_memory = refl;
            left = refl;
            each = λ j h. step.each j h ∙ ap (λ (q : StepResult). views_after (cpu_views a cpus) c q j) same;
          });
      held = held;
      fixed = fixed;
    }

-- the parts were lent to the call, and are written back
pub pending_back : {event : Option Event} {code1 code : List ℕ} {base most : ℕ} {m1 m m2 : List ℕ} {a b : Content}
    {cpus1 cpus cpus2 : List Cpu} {p p2 : Pending} {c size count : ℕ} {o : Outcome}
    {rows : List (Result (Insn × ℕ) DecodeFault)} {lines : List FlatAt} {busy : Bool} {shown : ShownMachine} →
    StepsPending event code1 base most m1 m2 a b cpus1 cpus2 p p2 c o → code1 ≡ code → m1 ≡ m → cpus1 ≡ cpus
    → length m1 ≡ size → length cpus1 ≡ count → length m2 ≡ length m1 → length cpus2 ≡ length cpus1 →
    IsMachine a code base rows lines m cpus busy → shown_by a code base m cpus ≡ shown → c < length shown.views →
    let m3 : List ℕ = take size (m2 ++ drop (length m2) m) in
    let cpus3 : List Cpu = take count (cpus2 ++ drop (length cpus2) cpus) in
    MakesPending event most shown (shown_by b code base m3 cpus3) p p2 c o
    × ((busy2 : Bool) → (busy2 ≡ false → AreClosed cpus3) → IsMachine b code base rows lines m3 cpus3 busy2)
    × (length m3 ≡ length m)
pending_back {event} {code = code} {base = base} {most = most} {m = m} {m2 = m2} {a = a} {b = b} {cpus = cpus}
    {cpus2 = cpus2} {p = p} {p2 = p2} {c = c} {size = size} {count = count} {o = o} {rows = rows} {lines = lines}
    {busy = busy} made same_code same_m same_cpus len_m len_cpus size_m size_cpus held is below =
    let at : StepsPending event code base most m m2 a b cpus cpus2 p p2 c o =
    rw (← same_code, ← same_m, ← same_cpus) made in
    let within : c < length cpus = core_within a cpus is below in
    let same_size : length m2 ≡ length m = size_m ∙ ap length same_m in
    let same_cores : length cpus2 ≡ length cpus = size_cpus ∙ ap length same_cpus in
    let back_m : take size (m2 ++ drop (length m2) m) ≡ m2 =
    written_back m m2 size same_size (sym len_m ∙ ap length same_m) in
    let back_cpus : take count (cpus2 ++ drop (length cpus2) cpus) ≡ cpus2 =
    written_back cpus cpus2 count same_cores (sym len_cpus ∙ ap length same_cpus) in
    rw (← is, back_m, back_cpus) (
      makes_pending event code base most m m2 a b cpus cpus2 p p2 c o at same_cores same_size within,
      λ busy2 quiet. still_parts event code base most m m2 a b cpus cpus2 p p2 c o at same_cores same_size within rows
          lines busy busy2 quiet held,
      same_size,
    )
