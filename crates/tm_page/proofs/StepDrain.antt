-- What a drain makes of them: its core shows what it showed, and the oldest store is in memory.
use Rattle.std.proofs.Common.{◌≡◌, ℕ, false, cond, List, drop, length, get_or, Option, Some, refl, sym, ap, ◌∙◌, subst}
use Rattle.std.specs.Prelude.{slice_get}
use Rattle.std.proofs.lemmas.Bool.{eq-eqb}
use Rattle.std.proofs.lemmas.Option.{same_Some}
use Rattle.tm_model.specs.Access.{stored_addresses, stores_of}
use Rattle.tm_model.specs.Conflicts.{Doomed, addresses_loaded_by, addresses_written_by, doom_after_other, doomed_after}
use Rattle.tm_model.specs.Setting.{Setting}
use Rattle.tm_model.specs.Shown.{View, view_of}
use Rattle.tm_model.specs.State.{Core, Pending, State, seen_by}
use Rattle.tm_core.specs.Theorem.{ShownMachine, machine_setting, pending_at, view_at}
use Rattle.tm_core.specs.Types.{Drained, Store}
use Rattle.tm_page.proofs.Memory.{stays_there}
use Rattle.tm_page.proofs.Stepped.{IsDrained, drained, drained_core, drained_memory, drained_pending, drained_seen}
use Rattle.tm_page.specs.Applied.{Page, is_listed, memory_with, stored_at}
use Rattle.tm_page.specs.Difference.{IsTold}
use Rattle.tm_page.specs.Shows.{IsAddress, Shows, ShowsCore}
use Rattle.tm_page.specs.Types.{PageDelta}
use Rattle.tm_page.proofs.StepOthers.{byte_shown, each, same_size, there}
use Rattle.tm_page.proofs.StepOwn.{Follows, unwrapped}

-- a drain
module _ (before after : ShownMachine) (c : ℕ) (delta : PageDelta) (h : IsTold before after c Drained delta) where
  abbrev k : Setting
  k = machine_setting before

  abbrev s : State
  s = h.state

  abbrev d : Doomed
  d = h.doomed

  made : IsDrained s c h.takes.next
  made = drained k s c h.takes.next h.takes.is_step

  abbrev w : View
  w = view_at after c

  -- its core shows what it showed
  still : w ≡ view_at before c
  still =
      let shown : view_of k (seen_by s c) (s.cores c) (d c) ≡ Some w =
      subst (λ t. view_of k (seen_by s c) (s.cores c) (cond t (d c)
      (doom_after_other k (seen_by s c) (addresses_loaded_by k (seen_by s c) (s.cores c) Drained)
      (addresses_written_by k s.memory (s.pending c) (s.cores c) Drained) (s.cores c) (d c))) ≡ Some w)
      (eq-eqb c c refl)
      (subst (λ (y : Core). view_of k (seen_by s c) y (doomed_after k s d c Drained c) ≡ Some w)
      (drained_core k s c h.takes.next made)
      (subst (λ (seen : List ℕ). view_of k seen (h.takes.next.cores c) (doomed_after k s d c Drained c) ≡ Some w)
      (drained_seen k s c h.takes.next made) (each before after c Drained delta h c h.within))) in
      same_Some w (view_at before c) (sym shown ∙ h.stands.each c h.within)

  oldest_is : slice_get (pending_at before c) 0 ≡ Some made.oldest
  oldest_is = ap (λ (p : Pending). slice_get p 0) (h.stands.same_pending c h.within ∙ made.was)

  memory_drained : (page : Page) → Shows before page → (a : ℕ) → IsAddress (length after.memory) a
      → get_or after.memory a 0 ≡ memory_with Drained delta.stored.items page.memory a
  memory_drained page shows a below =
      unwrapped (is_listed (stored_addresses (stores_of (slice_get (pending_at before c) 0))) a)
      (stored_at delta.stored.items a) (get_or after.memory a 0) (page.memory a) (h.difference.stored a below)
      (λ none.
      ap (λ x. get_or x a 0) h.takes.stands.same_memory
      ∙ ap (λ x. get_or x a 0) (drained_memory k s c h.takes.next made)
      ∙ stays_there s.memory (stores_of (Some made.oldest)) a
      (subst (λ (x : Option Store). is_listed (stored_addresses (stores_of x)) a ≡ false) oldest_is none)
      ∙ byte_shown before after c Drained delta h page shows a below)

  pub follows_drain : Follows before after c Drained delta
  follows_drain = record {
    own = λ core shows.
        subst (λ size. ShowsCore size w core) (sym (same_size before after c Drained delta h))
        (subst (λ (x : View). ShowsCore (length before.memory) x core) (sym still) shows);
    memory = memory_drained;
    pending =
        h.takes.stands.same_pending c (there before after c Drained delta h c h.within)
        ∙ drained_pending k s c h.takes.next made
        ∙ sym (ap (drop 1) (h.stands.same_pending c h.within ∙ made.was));
  }
