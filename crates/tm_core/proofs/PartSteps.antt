-- What a step of one core, and then what it hits, make of a machine's parts.
use Rattle.std.proofs.Common.{◌≡◌, ◌<◌, ℕ, List, [], length, set, cond, eqb, true, false, refl, sym, ◌∙◌, subst}
use Rattle.std.proofs.Common.{length-set}
use Rattle.tm_sets.specs.Content.{Content}
use Rattle.tm_core.specs.declared.cpu.Cpu.{Cpu}
use Rattle.tm_core.specs.Representation.{Elsewhere, IsHeld, cpu_at, cpu_view, cpu_views, kept_after_hit, kept_at}
use Rattle.tm_core.specs.Representation.{kept_of, parts_setting}
use Rattle.tm_core.specs.StepRefinement.{StepResult, stepped}
use Rattle.tm_core.specs.Stepping.{HitsOthers, IsSteppable, StepsOnParts}
use Rattle.tm_core.specs.Types.{CoreState, Outcome, Write}
use Rattle.tm_core.proofs.Cores.{held_after, hit_held_by, hit_is_step}

-- nothing was touched
pub hits_none : (a : Content) (cpus : List Cpu) (c : ℕ) → HitsOthers [] c a a cpus cpus
hits_none a cpus c = record {
  kept = λ j h. (elim (eqb j c)
      as (λ t. kept_at a cpus j ≡ cond t (kept_at a cpus j) (kept_after_hit [] (kept_at a cpus j))) [
        | true ↦ refl
        | false ↦ refl
      ]);
  fixed = refl;
}

-- the step of the core itself gives this result, and what that touched has hit the others
pub hits_make : (code : List ℕ) (base : ℕ) (m m2 : List ℕ) (a b b2 : Content) (cpus cpus3 : List Cpu) (c : ℕ) (x : Cpu)
    (o : Outcome) (mode : CoreState) (r : StepResult) → IsSteppable code base m a cpus → c < length cpus
    → Elsewhere a b c → (cpu_at cpus c).state ≡ mode
    → stepped (parts_setting code base (length m) a) m (cpu_views a cpus c) mode ≡ r → o ≡ r.outcome → m2 ≡ r.memory
    → r.view ≡ cpu_view b c x → IsHeld (a.fixed.room Write) (kept_of b c x)
    → HitsOthers r.touched c b b2 (set cpus c x) cpus3 → StepsOnParts code base m m2 a b2 cpus cpus3 c o
hits_make code base m m2 a b b2 cpus cpus3 c x o mode r parts below elsewhere state is out memory own held hits =
    let kept : (j : ℕ) → j < length cpus
    → kept_at b2 cpus3 j
    ≡ cond (eqb j c) (kept_at b (set cpus c x) j) (kept_after_hit r.touched (kept_at b (set cpus c x) j)) =
    λ j h. hits.kept j (subst (λ n. j < n) (sym (length-set cpus c x)) h) in
    record {
      step = hit_is_step (parts_setting code base (length m) a) m m2 a b b2 cpus cpus3 c x o mode r
          below elsewhere state is out memory own kept;
      held = λ j h.
          hit_held_by (a.fixed.room Write) (eqb j c) r.touched (kept_at b (set cpus c x) j) (kept_at b2 cpus3 j)
          (kept j h) (held_after (a.fixed.room Write) a b cpus c x below elsewhere parts.sound.held held j h);
      fixed = hits.fixed ∙ elsewhere.fixed;
    }
