-- What is told ahead of what a core's next step does with the stores of its core: as it is foreseen, by what the core
-- shows, and of each state that a machine stands for.
use Rattle.std.proofs.Common.{◌≡◌, ℕ, ◌<◌, List, [], length, get_or, None, refl, sym, ap, ◌∙◌, subst, ⊎_elim}
use Rattle.std.specs.Prelude.{◌⊎◌, is_some, if◌then◌else◌}
use Rattle.std.proofs.lemmas.Bool.{eq-eqb}
use Rattle.tm_sets.specs.Content.{Content}
use Rattle.tm_model.specs.Conflicts.{Doomed}
use Rattle.tm_model.specs.Owed.{owed_outcome}
use Rattle.tm_model.specs.Setting.{Setting}
use Rattle.tm_model.specs.Shown.{View}
use Rattle.tm_model.specs.State.{Core, Opened, Pending, State, seen_by, seen_memory}
use Rattle.tm_model.specs.Steps.{must_wait, needs_none, store_buffered, store_outside}
use Rattle.tm_core.specs.declared.ahead.Ahead.TheVariants as ahead
use Rattle.tm_core.specs.declared.ahead.Pends.{Pends}
use Rattle.tm_core.specs.declared.buffering.Buffering.{Buffering}
use Rattle.tm_core.specs.declared.buffering.Buffering.TheVariants as buffering
use Rattle.tm_core.specs.declared.buffering.Wait.{Wait}
use Rattle.tm_core.specs.declared.cpu.Cpu.{Cpu}
use Rattle.tm_core.specs.Buffered.{setting_at}
use Rattle.tm_core.specs.Buffering.{IsBuffering, TellsAhead}
use Rattle.tm_core.specs.Machine.{shown_by}
use Rattle.tm_core.specs.PendingStep.{core_like}
use Rattle.tm_core.specs.Representation.{cpu_views, setting_with}
use Rattle.tm_core.specs.StepRefinement.{StepResult, stepped}
use Rattle.tm_core.specs.StoreBuffers.{IsForeseen, ShowsAhead}
use Rattle.tm_core.specs.Theorem.{ShownMachine, StandsFor, machine_setting, pending_at, view_at}
use Rattle.tm_core.specs.Types.{Outcome, Regs}
use Rattle.tm_core.proofs.MachineLemmas.{view_at_is}
use Rattle.tm_core.proofs.OtherCores.{length-seen}
use Rattle.tm_core.proofs.SteppingCore.{Own, own_under}
use Rattle.tm_core.proofs.StoreBuffers.{none_buffered, one_buffered}
use Rattle.tm_core.proofs.StoreBufferStep.{IsLike, is_like, same_store, same_wait}
use Rattle.tm_core.proofs.Table.{sound}

-- ---- as it is foreseen

module _ (k : Setting) (m : List ℕ) (p : Pending) (v : View) where
  abbrev sees : List ℕ
  sees = seen_memory m p

  abbrev core : Core
  core = core_like v v.mode

  abbrev r : StepResult
  r = stepped k sees v v.mode

  pub waits_ahead : (for_this : Wait) → IsForeseen k sees p core r (ahead.Waits for_this)
      → ShowsAhead k m p v (buffering.Waits for_this)
  waits_ahead for_this awaited = awaited

  pub stores_ahead : (pends : Pends) → 0 < k.store_buffer → IsForeseen k sees p core r (ahead.Stores pends)
      → ShowsAhead k m p v buffering.Pends
  stores_ahead pends some will = (will.goes, ap is_some (one_buffered k m p v pends.store some will.store))

  pub goes_ahead : IsForeseen k sees p core r ahead.Goes → ShowsAhead k m p v buffering.Goes
  goes_ahead foreseen = (foreseen.0, none_buffered k m p v foreseen.1)

-- of equal parts, as the machine shows them
pub ahead_shown : (a : Content) (code code1 : List ℕ) (base : ℕ) (m m1 : List ℕ) (cpus cpus1 : List Cpu) (most : ℕ)
    (p : Pending) (c : ℕ) (told : Buffering) → code1 ≡ code → m1 ≡ m → cpus1 ≡ cpus → c < length cpus
    → ShowsAhead (setting_with code1 base (length m1) a most) m1 p (cpu_views a cpus1 c) told
    → ShowsAhead (setting_at (shown_by a code base m cpus) most) m p (view_at (shown_by a code base m cpus) c) told
ahead_shown a code code1 base m m1 cpus cpus1 most p c told same_code same_m same_cpus below is =
    subst (λ (v : View). ShowsAhead (setting_with code base (length m) a most) m p v told)
    (sym (view_at_is a code base m cpus c below))
    (subst (λ l. ShowsAhead (setting_with l base (length m) a most) m p (cpu_views a cpus c) told) same_code
    (subst (λ l. ShowsAhead (setting_with code1 base (length l) a most) l p (cpu_views a cpus c) told) same_m
    (subst (λ xs. ShowsAhead (setting_with code1 base (length m1) a most) m1 p (cpu_views a xs c) told) same_cpus is)))

-- ---- of a core like the one that is shown

same_needs : (k : Setting) (x y : Core) (o : Outcome) → IsLike x y → needs_none k y o ≡ needs_none k x o
same_needs k x y o like =
    ⊎_elim (λ (e : y ≡ x). ap (λ z. needs_none k z o) e)
    (λ (e : (s : Regs) × (n : ℕ) × (x ≡ Opened s n) × (y ≡ Opened s 0)).
    ap (λ z. needs_none k z o) e.3 ∙ open_needs e.0 e.1 ∙ sym (ap (λ z. needs_none k z o) e.2))
    like
  where
    open_needs : (s : Regs) (n : ℕ) → needs_none k (Opened s 0) o ≡ needs_none k (Opened s n) o
    open_needs s n = refl

told_like : (k : Setting) (m : List ℕ) (p : Pending) (x y : Core) (o : Outcome) → IsLike x y → (told : Buffering)
    → IsBuffering k m p y o told → IsBuffering k m p x o told
told_like k m p x y o like (buffering.Waits for_this) awaited = record {
  waits = sym (same_wait k m p x y o like) ∙ awaited.waits;
  needs = sym (same_needs k x y o like) ∙ awaited.needs;
}
told_like k m p x y o like buffering.Pends is =
    (sym (same_wait k m p x y o like) ∙ is.0, sym (ap is_some (same_store k m x y o like)) ∙ is.1)
told_like k m p x y o like buffering.Goes is =
    (sym (same_wait k m p x y o like) ∙ is.0, sym (same_store k m x y o like) ∙ is.1)

-- ---- of a machine

module _ (s : ShownMachine) (c : ℕ) (below : c < length s.views) where
  abbrev rules : Setting
  rules = machine_setting s

  -- what is told by what it shows
  pub shown_tells : (told : Buffering) → ShowsAhead rules s.memory (pending_at s c) (view_at s c) told
      → TellsAhead s c told
  shown_tells told shown st d stands =
      let seen : List ℕ = seen_by st c in
      let v : View = view_at s c in
      let there : ShowsAhead rules st.memory (st.pending c) v told =
      subst (λ m. ShowsAhead rules m (st.pending c) v told) stands.same_memory
      (subst (λ q. ShowsAhead rules s.memory q v told) (stands.same_pending c below) shown) in
      let size : length seen ≡ rules.size =
      length-seen st.memory (st.pending c) ∙ ap length (sym stands.same_memory) in
      let own : Own None rules seen (st.cores c) (d c) (stepped rules seen v v.mode) =
      own_under None rules (sound s.code s.base (length s.memory) s.read_lines s.write_lines s.store_buffer) seen size
      (st.cores c) (d c) v (stands.each c below) in
      told_like rules seen (st.pending c) (st.cores c) (core_like v v.mode)
      (owed_outcome rules seen (st.cores c) (d c))
      (is_like rules seen (st.cores c) (d c) v (stands.each c below)) told
      (subst (λ o. IsBuffering rules seen (st.pending c) (core_like v v.mode) o told) own.owes there)

  -- where none may be pending
  pub direct_tells : s.store_buffer ≡ 0 → s.pending ≡ [] → TellsAhead s c buffering.Goes
  direct_tells off none st d stands =
      let seen : List ℕ = seen_by st c in
      let o : Outcome = owed_outcome rules seen (st.cores c) (d c) in
      let empty : st.pending c ≡ [] = sym (stands.same_pending c below) ∙ ap (λ ps. get_or ps c []) none in (
        ap (λ q. must_wait rules seen q (st.cores c) o) empty,
        ap (λ t. if t then None else store_outside rules seen (st.cores c) o) (eq-eqb s.store_buffer 0 off),
      )
