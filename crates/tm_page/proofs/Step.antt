-- A delta that is the difference of what is shown before and behind a step is right.
use Rattle.std.proofs.Common.{◌≡◌, ℕ, ◌<◌, cond, eqb, length, get_or, Option, Some, None, refl, sym, ap, ◌∙◌}
use Rattle.std.proofs.Common.{subst, ⊎_elim}
use Rattle.std.specs.Prelude.{MatchOption}
use Rattle.std.proofs.lemmas.Bool.{cases_eq, eq-eqb, ne_eqb}
use Rattle.tm_core.specs.Theorem.{ShownMachine, pending_at, view_at}
use Rattle.tm_core.specs.Types.{Aborted, AbortedBy, Begun, Committed, Condemned, Drained, Idle, Inside, Loaded, Open}
use Rattle.tm_core.specs.Types.{Outcome, Plain, Stopped}
use Rattle.tm_page.proofs.Others.{Fares, other}
use Rattle.tm_page.specs.Applied.{Page, hit_on, memory_with, other_after, own_after, pending_after}
use Rattle.tm_page.specs.Difference.{DifferencesAreDeltas, IsTold, NamesCondemned}
use Rattle.tm_page.specs.Shows.{Shows, ShowsCore}
use Rattle.tm_page.specs.Types.{Hit, PageDelta}
use Rattle.tm_page.proofs.StepOthers.{fares_so, others_left, same_size}
use Rattle.tm_page.proofs.StepOwn.{Follows, follows_it}
use Rattle.tm_page.proofs.StepDrain.{follows_drain}

follows_any : (before after : ShownMachine) (c : ℕ) (o : Outcome) (delta : PageDelta) → IsTold before after c o delta →
    Follows before after c o delta
follows_any before after c Drained delta h = follows_drain before after c delta h
follows_any before after c Plain delta h = follows_it before after c Plain delta h refl
follows_any before after c Loaded delta h = follows_it before after c Loaded delta h refl
follows_any before after c (Stopped stop) delta h = follows_it before after c (Stopped stop) delta h refl
follows_any before after c Idle delta h = follows_it before after c Idle delta h refl
follows_any before after c Begun delta h = follows_it before after c Begun delta h refl
follows_any before after c Inside delta h = follows_it before after c Inside delta h refl
follows_any before after c Committed delta h = follows_it before after c Committed delta h refl
follows_any before after c (Aborted status) delta h = follows_it before after c (Aborted status) delta h refl
follows_any before after c (AbortedBy by status) delta h = follows_it before after c (AbortedBy by status) delta h refl

-- ---- all of it

module _ (before after : ShownMachine) (c : ℕ) (o : Outcome) (delta : PageDelta)
    (h : IsTold before after c o delta) where
  core_shown : (page : Page) → Shows before page → (n : ℕ) → n < length before.views →
      ShowsCore (length after.memory) (view_at after n)
      (cond (eqb n c) (own_after o delta (page.cores n)) (other_after (hit_on delta n) (page.cores n)))
  core_shown page shows n below =
      ⊎_elim
      (λ (same : n ≡ c).
      subst (λ x. ShowsCore (length after.memory) (view_at after x)
      (cond (eqb x c) (own_after o delta (page.cores x)) (other_after (hit_on delta x) (page.cores x)))) (sym same)
      (subst (λ t. ShowsCore (length after.memory) (view_at after c)
      (cond t (own_after o delta (page.cores c)) (other_after (hit_on delta c) (page.cores c)))) (sym (eq-eqb c c refl))
      ((follows_any before after c o delta h).own (page.cores c) (shows.cores c h.within))))
      (λ (differs : n ≡ c → ⊥).
      subst (λ t. ShowsCore (length after.memory) (view_at after n)
      (cond t (own_after o delta (page.cores n)) (other_after (hit_on delta n) (page.cores n))))
      (sym (ne_eqb n c differs))
      (other (length after.memory) (hit_on delta n) (page.cores n) (view_at before n) (view_at after n)
      (fares_so before after c o delta h n below differs)
      (subst (λ size. ShowsCore size (view_at before n) (page.cores n)) (sym (same_size before after c o delta h))
      (shows.cores n below))))
      (cases_eq n c)

  left_shown : (page : Page) → Shows before page → (n : ℕ) → n < length before.views →
      pending_at after n ≡ cond (eqb n c) (pending_after o delta.pending (page.pending n)) (page.pending n)
  left_shown page shows n below =
      ⊎_elim
      (λ (same : n ≡ c).
      subst (λ x. pending_at after x
      ≡ cond (eqb x c) (pending_after o delta.pending (page.pending x)) (page.pending x)) (sym same)
      ((follows_any before after c o delta h).pending
      ∙ ap (pending_after o delta.pending) (shows.pending c h.within)
      ∙ sym (ap (λ t. cond t (pending_after o delta.pending (page.pending c)) (page.pending c)) (eq-eqb c c refl))))
      (λ (differs : n ≡ c → ⊥).
      others_left before after c o delta h n below (ne_eqb n c differs)
      ∙ shows.pending n below
      ∙ sym (ap (λ t. cond t (pending_after o delta.pending (page.pending n)) (page.pending n)) (ne_eqb n c differs)))
      (cases_eq n c)

pub differences : DifferencesAreDeltas
differences before after c o delta h page shows =
    record {
      memory = λ a below.
          subst (λ x. get_or after.memory a 0 ≡ memory_with x delta.stored.items page.memory a)
          (sym h.difference.outcome)
          ((follows_any before after c o delta h).memory page shows a below);
      cores = λ n below.
          subst (λ x. ShowsCore (length after.memory) (view_at after n)
          (cond (eqb n x) (own_after delta.outcome delta (page.cores n)) (other_after (hit_on delta n) (page.cores n))))
          (sym h.difference.core)
          (subst (λ x. ShowsCore (length after.memory) (view_at after n)
          (cond (eqb n c) (own_after x delta (page.cores n)) (other_after (hit_on delta n) (page.cores n))))
          (sym h.difference.outcome)
          (core_shown before after c o delta h page shows n (subst (λ l. n < l) h.same.cores below)));
      pending = λ n below.
          subst (λ x. pending_at after n
          ≡ cond (eqb n x) (pending_after delta.outcome delta.pending (page.pending n)) (page.pending n))
          (sym h.difference.core)
          (subst (λ x. pending_at after n
          ≡ cond (eqb n c) (pending_after x delta.pending (page.pending n)) (page.pending n))
          (sym h.difference.outcome)
          (left_shown before after c o delta h page shows n (subst (λ l. n < l) h.same.cores below)));
    }

pub names : NamesCondemned
names before after c n o delta h below differs = on (hit_on delta n) (fares_so before after c o delta h n below differs)
  where
    on : (told : Option Hit) → Fares told (view_at before n) (view_at after n) →
        MatchOption told ((view_at after n).mode ≡ (view_at before n).mode)
        (λ hit. (depth : ℕ) × ((view_at before n).mode ≡ Open depth) × ((view_at after n).mode ≡ Condemned depth))
    on None f = ap (λ x. x.mode) f
    on (Some hit) f = (f.depth, f.was, f.mode)
