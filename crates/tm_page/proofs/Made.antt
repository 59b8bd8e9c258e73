-- A delta that was put together is the difference of what is shown.
use Rattle.std.proofs.Common.{◌≡◌, ℕ, Bool, true, false, cond, ◌&&◌, not, List, length, get_or, Option, Some, None}
use Rattle.std.proofs.Common.{refl, sym, ap, ◌∙◌, subst}
use Rattle.std.specs.Prelude.{slice_get}
use Rattle.std.specs.FinSet as set
use Rattle.tm_core.specs.Theorem.{ShownMachine, pending_at, view_at}
use Rattle.tm_core.specs.Types.{Aborted, AbortedBy, Begun, Committed, Drained, Idle, Inside, Loaded, Outcome, Plain}
use Rattle.tm_core.specs.Types.{Stopped, Store}
use Rattle.tm_model.specs.Runs.{is_aborted_by}
use Rattle.tm_why.specs.Said.{IsSaidOf, IsSaidOfDrain}
use Rattle.tm_why.specs.Watched.{is_drain}
use Rattle.tm_page.specs.declared.before.Before.{Before}
use Rattle.tm_page.specs.Applied.{hit_on, is_listed, patched, stored_at}
use Rattle.tm_page.specs.Before.{IsBefore}
use Rattle.tm_page.specs.Difference.{IsDifference, addresses_told, byte_told}
use Rattle.tm_page.specs.Shows.{IsAddress}
use Rattle.tm_page.specs.Types.{Hit, PageDelta}

-- a drain is no abort from outside
no_abort : (o : Outcome) → is_drain o ≡ true → is_aborted_by o ≡ false
no_abort Drained e = refl
no_abort Plain e = cc
no_abort Loaded e = cc
no_abort (Stopped stop) e = cc
no_abort Idle e = cc
no_abort Begun e = cc
no_abort Inside e = cc
no_abort Committed e = cc
no_abort (Aborted status) e = cc
no_abort (AbortedBy by status) e = cc

pub made_so : (start now : ShownMachine) (before : Before) (o : Outcome) (kept : List ℕ) (delta : PageDelta) →
    IsBefore start before.asked.core before →
    delta.core ≡ before.asked.core →
    delta.outcome ≡ o →
    delta.state ≡ (view_at now before.asked.core).mode →
    patched delta.registers before.regs ≡ (view_at now before.asked.core).regs →
    ((line : ℕ)
    → is_listed delta.reads.items line
    ≡ (set.contains (view_at now before.asked.core).reads line && not (is_listed before.reads.items line))) →
    ((line : ℕ)
    → is_listed delta.writes.items line
    ≡ (set.contains (view_at now before.asked.core).writes line && not (is_listed before.writes.items line))) →
    ((at : ℕ) → IsAddress (length now.memory) at → stored_at delta.stored.items at
    ≡ cond (is_listed (addresses_told o before.reach kept delta.pending before.oldest) at)
    (Some (byte_told o now before.asked.core at)) None) →
    delta.pending ≡ slice_get (pending_at now before.asked.core) before.pending →
    ((other : ℕ) → hit_on delta other ≡ cond (is_aborted_by o) None
    (cond (is_drain o) (get_or before.asked.drain_hits other None) (get_or before.asked.hits other None))) →
    IsDifference start now before.asked.core o before.reach kept delta
made_so start now before o kept delta b core outcome state registers reads writes stored pending hits =
    let none_made : Option Hit = None in
    let told : ℕ → Bool → Option Hit =
    λ other drains. cond drains (get_or before.asked.drain_hits other None) (get_or before.asked.hits other None) in
    record {
      core = core;
      outcome = outcome;
      state = state;
      registers = ap (patched delta.registers) (sym b.regs) ∙ registers;
      reads = λ line. reads line
          ∙ ap (λ t. set.contains (view_at now before.asked.core).reads line && not t) (b.reads line);
      writes = λ line. writes line
          ∙ ap (λ t. set.contains (view_at now before.asked.core).writes line && not t) (b.writes line);
      stored = λ at within. stored at within
          ∙ ap (λ (oldest : Option Store).
          cond (is_listed (addresses_told o before.reach kept delta.pending oldest) at)
          (Some (byte_told o now before.asked.core at)) None) b.oldest;
      pending = pending ∙ ap (slice_get (pending_at now before.asked.core)) b.pending;
      hits = λ other below differs free goes.
          subst (IsSaidOf start before.asked.core other)
          (sym (hits other ∙ ap (λ t. cond t none_made (told other (is_drain o))) free ∙ ap (told other) goes))
          (b.asked.hits other below differs);
      drain_hits = λ other below differs drains.
          subst (IsSaidOfDrain start before.asked.core other)
          (sym (hits other
          ∙ ap (λ t. cond t none_made (told other (is_drain o))) (no_abort o drains) ∙ ap (told other) drains))
          (b.asked.drain_hits other below differs);
      none = λ other came. hits other ∙ ap (λ t. cond t none_made (told other (is_drain o))) came;
    }
