-- What a step makes of the cores that do not make it: of one that it hits, and of one that it does not.
use Rattle.std.proofs.Common.{◌≡◌, ℕ, ◌<◌, Bool, true, false, cond, eqb, List, length, get_or, Option, Some, None, refl}
use Rattle.std.proofs.Common.{sym, ap, ◌∙◌, subst, arith}
use Rattle.std.proofs.lemmas.Bool.{ne_eqb}
use Rattle.tm_model.specs.Conflicts.{Doomed, addresses_loaded_by, addresses_written_by, doom_after_other}
use Rattle.tm_model.specs.Conflicts.{doom_after_own, doomed_after}
use Rattle.tm_model.specs.Explained.{IsHitTold, owed_now}
use Rattle.tm_model.specs.Owed.{owed_under}
use Rattle.tm_model.specs.Runs.{is_aborted_by}
use Rattle.tm_model.specs.Setting.{Setting}
use Rattle.tm_model.specs.Shown.{view_of}
use Rattle.tm_model.specs.State.{Core, Pending, State, seen_by, seen_memory}
use Rattle.tm_model.specs.Steps.{step}
use Rattle.tm_core.specs.Theorem.{ShownMachine, machine_setting, pending_at, view_at}
use Rattle.tm_core.specs.Types.{Aborted, AbortedBy, Begun, Committed, Drained, Event, Idle, Inside, Loaded, Outcome}
use Rattle.tm_core.specs.Types.{Plain, Stopped}
use Rattle.tm_core.proofs.ExplainLaws.{condemn}
use Rattle.tm_core.proofs.OtherCores.{length-seen}
use Rattle.tm_model.proofs.Events.{abort_hits_nobody}
use Rattle.tm_why.specs.Watched.{is_drain}
use Rattle.tm_page.proofs.Others.{Fares, Tells, fares}
use Rattle.tm_page.proofs.Stepped.{IsDrained, IsFollowed, drained, followed, owes_none}
use Rattle.tm_page.specs.Applied.{Page, hit_on}
use Rattle.tm_page.specs.Difference.{IsTold}
use Rattle.tm_page.specs.Shows.{IsAddress, Shows}
use Rattle.tm_page.specs.Types.{PageDelta}
use Rattle.tm_model.specs.declared.outcome.Event.TheVariants as event

drain_is : (o : Outcome) → is_drain o ≡ true → o ≡ Drained
drain_is Drained e = refl
drain_is Plain e = cc
drain_is Loaded e = cc
drain_is (Stopped stop) e = cc
drain_is Idle e = cc
drain_is Begun e = cc
drain_is Inside e = cc
drain_is Committed e = cc
drain_is (Aborted status) e = cc
drain_is (AbortedBy by status) e = cc

module _ (before after : ShownMachine) (c : ℕ) (o : Outcome) (delta : PageDelta)
    (h : IsTold before after c o delta) where
  abbrev pub k : Setting
  k = machine_setting before

  abbrev pub s : State
  s = h.state

  abbrev pub d : Doomed
  d = h.doomed

  abbrev pub next : State
  next = h.takes.next

  pub follows : IsFollowed k s c o next
  follows = followed k s c o next h.takes.is_step

  pub same_size : length after.memory ≡ length before.memory
  same_size = ap length h.takes.stands.same_memory ∙ follows.size ∙ ap length (sym h.stands.same_memory)

  pub there : (n : ℕ) → n < length before.views → n < length after.views
  there n below = subst (λ l. n < l) (sym h.same.cores) below

  pub each : (n : ℕ) → n < length before.views
      → view_of k (seen_by next n) (next.cores n) (doomed_after k s d c o n) ≡ Some (view_at after n)
  each n below =
      subst
      (λ (r : Setting). view_of r (seen_by next n) (next.cores n) (doomed_after k s d c o n) ≡ Some (view_at after n))
      h.same.rules (h.takes.stands.each n (there n below))

  abbrev loads : List ℕ
  loads = addresses_loaded_by k (seen_by s c) (s.cores c) o

  abbrev written : List ℕ
  written = addresses_written_by k s.memory (s.pending c) (s.cores c) o

  abbrev seen_then_by : ℕ → List ℕ
  seen_then_by n = seen_memory next.memory (s.pending n)

  other_shown : (n : ℕ) → n < length before.views → eqb n c ≡ false →
      view_of k (seen_then_by n) (s.cores n) (doom_after_other k (seen_by s n) loads written (s.cores n) (d n))
      ≡ Some (view_at after n)
  other_shown n below apart =
      subst (λ t. view_of k (seen_then_by n) (s.cores n) (cond t (doom_after_own o (d c))
      (doom_after_other k (seen_by s n) loads written (s.cores n) (d n))) ≡ Some (view_at after n)) apart
      (subst (λ (y : Core). view_of k (seen_then_by n) y (doomed_after k s d c o n) ≡ Some (view_at after n))
      (follows.cores n apart)
      (subst (λ (p : Pending). view_of k (seen_memory next.memory p) (next.cores n) (doomed_after k s d c o n)
      ≡ Some (view_at after n)) (follows.pending n apart) (each n below)))

  of_event : (n : ℕ) → eqb n c ≡ false → (event : Option Event) → owed_now event k s d c ≡ o →
      IsHitTold event k s d c n (hit_on delta n) → Tells (hit_on delta n) (d n) (doomed_after k s d c o n)
  of_event n apart event is hit =
      subst (λ (x : Outcome). Tells (hit_on delta n) (d n) (doomed_after k s d c x n)) is
      (condemn event k s d c n (hit_on delta n) apart hit)

  -- what is told of a hit, of the step that was made
  tells_after : (n : ℕ) → n < length before.views → (n ≡ c → ⊥) → eqb n c ≡ false → (came drains : Bool) →
      is_aborted_by o ≡ came → is_drain o ≡ drains → Tells (hit_on delta n) (d n) (doomed_after k s d c o n)
  tells_after n below differs apart false false free goes =
      of_event n apart None
      (sym (owes_none h.event k s.memory (s.pending c) (s.cores c) (d c) o free goes h.takes.is_owed))
      (h.difference.hits n below differs free goes s d h.stands)
  tells_after n below differs apart false true free drains =
      let is : o ≡ Drained = drain_is o drains in
      let made : IsDrained s c next =
      drained k s c next (subst (λ (x : Outcome). step k s c x ≡ Some next) is h.takes.is_step) in
      let some : 0 < length (pending_at before c) =
      subst (λ (p : Pending). 0 < length p) (sym (h.stands.same_pending c h.within ∙ made.was)) (omega arith) in
      of_event n apart (Some event.Drain)
      (ap (λ (p : Pending). owed_under (Some event.Drain) k s.memory p (s.cores c) (d c)) made.was ∙ sym is)
      (h.difference.drain_hits n below differs drains some s d h.stands)
  tells_after n below differs apart true drains came _ =
      subst (λ told. Tells told (d n) (doomed_after k s d c o n)) (sym (h.difference.none n came)) (nobody o came)
    where
      nobody : (x : Outcome) → is_aborted_by x ≡ true → doomed_after k s d c x n ≡ d n
      nobody (AbortedBy by status) e = abort_hits_nobody k s d c by status n apart
      nobody (Aborted status) e = cc
      nobody Plain e = cc
      nobody Loaded e = cc
      nobody (Stopped stop) e = cc
      nobody Idle e = cc
      nobody Begun e = cc
      nobody Inside e = cc
      nobody Committed e = cc
      nobody Drained e = cc

  pub fares_so : (n : ℕ) → n < length before.views → (n ≡ c → ⊥)
      → Fares (hit_on delta n) (view_at before n) (view_at after n)
  fares_so n below differs =
      let apart : eqb n c ≡ false = ne_eqb n c differs in
      fares k (seen_by s n) (seen_then_by n) loads written
      (length-seen s.memory (s.pending n) ∙ sym follows.size ∙ sym (length-seen next.memory (s.pending n)))
      (follows.agrees (s.pending n)) (hit_on delta n) (s.cores n) (d n) (view_at before n) (view_at after n)
      (h.stands.each n below) (other_shown n below apart)
      (subst (λ t. Tells (hit_on delta n) (d n) (cond t (doom_after_own o (d c))
      (doom_after_other k (seen_by s n) loads written (s.cores n) (d n)))) apart
      (tells_after n below differs apart (is_aborted_by o) (is_drain o) refl refl))

  -- what is pending of them stays
  pub others_left : (n : ℕ) → n < length before.views → eqb n c ≡ false → pending_at after n ≡ pending_at before n
  others_left n below apart =
      h.takes.stands.same_pending n (there n below) ∙ follows.pending n apart ∙ sym (h.stands.same_pending n below)

  pub byte_shown : (page : Page) → Shows before page → (a : ℕ) → IsAddress (length after.memory) a →
      get_or s.memory a 0 ≡ page.memory a
  byte_shown page shows a below =
      ap (λ x. get_or x a 0) (sym h.stands.same_memory)
      ∙ shows.memory a (subst (λ l. IsAddress l a) same_size below)
