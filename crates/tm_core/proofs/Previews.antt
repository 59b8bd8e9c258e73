-- A preview of a machine's step, by the machine's parts.
use Rattle.std.proofs.Common.{◌≡◌, ℕ, ◌<◌, ◌≤◌, ◌*◌, ◌^◌, false, List, length, Option, None, refl, sym, ◌∙◌, subst}
use Rattle.std.proofs.Common.{arith}
use Rattle.std.proofs.lemmas.Bool.{true≢false}
use Rattle.tm_sets.specs.Content.{Content}
use Rattle.tm_model.specs.declared.explain.Hit.{Hit}
use Rattle.tm_model.specs.Shown.{View}
use Rattle.tm_core.specs.declared.cpu.Cpu.{Cpu}
use Rattle.tm_core.specs.declared.foretell.Touches.{Touches}
use Rattle.tm_core.specs.declared.foretell.Touches.TheVariants.{Nothing, WriteSet}
use Rattle.tm_core.specs.ExplainedViews.{AreOnLines, AreWithin, IsTold, touched_told}
use Rattle.tm_core.specs.Machine.{shown_by}
use Rattle.tm_core.specs.Representation.{AreLines, cpu_at, cpu_views, is_open}
use Rattle.tm_core.specs.StepRefinement.{Touched}
use Rattle.tm_core.specs.Theorem.{view_at}
use Rattle.tm_core.specs.Types.{Lines, Write}
use Rattle.tm_core.proofs.ExplainTouches.{on_lines}
use Rattle.tm_core.proofs.MachineLemmas.{view_at_is}

module _ (a : Content) (code : List ℕ) (base : ℕ) (m : List ℕ) (cpus : List Cpu) where
  -- what a step touches lies on lines that the sets know
  pub known_lines : (touched : Touches) → AreWithin (length m) touched → length m ≤ a.fixed.line_count * 64
      → length m < 2 ^ 32 → AreOnLines a touched
  known_lines touched within fit small = on_lines a (length m) touched within fit small

  pub written : (c : ℕ) (touched : Touches) → c < length cpus
      → (touched ≡ WriteSet → AreLines (view_at (shown_by a code base m cpus) c).writes (length m))
      → length m ≤ a.fixed.line_count * 64 → touched ≡ WriteSet
      → AreLines (a.lines c Write) (a.fixed.line_count * 64)
  written c touched below lines fit all q has =
      let in_memory : q * 64 < length m =
      subst (λ (v : View). AreLines v.writes (length m)) (view_at_is a code base m cpus c below) (lines all) q has in
      omega arith

  -- of another core, as the machine shows the two
  pub hit_shown : (c other : ℕ) (touched : Touches) (told : Option Hit) → c < length cpus → other < length cpus
      → IsTold (touched_told (a.lines c Write) touched) (cpu_views a cpus other) told
      → IsTold (touched_told (view_at (shown_by a code base m cpus) c).writes touched)
      (view_at (shown_by a code base m cpus) other) told
  hit_shown c other touched told below beside is =
      subst (λ (v : View). IsTold (touched_told v.writes touched) (view_at (shown_by a code base m cpus) other) told)
      (sym (view_at_is a code base m cpus c below))
      (subst (λ (v : View). IsTold (touched_told (a.lines c Write) touched) v told)
      (sym (view_at_is a code base m cpus other beside)) is)

  -- a core that is in no open transaction is hit by none
  pub closed_hit : (touched : Touched) (other : ℕ) → other < length cpus → is_open (cpu_at cpus other).state ≡ false
      → IsTold touched (view_at (shown_by a code base m cpus) other) None
  closed_hit touched other beside closed =
      subst (λ (v : View). IsTold touched v None) (sym (view_at_is a code base m cpus other beside))
      (record { closed = λ _. refl; opened = λ opened. absurd (true≢false (sym opened ∙ closed)) })

-- and nobody where nothing is touched
pub untouched : (writes : Lines) (touched : Touches) (v : View) → touched ≡ Nothing
    → IsTold (touched_told writes touched) v None
untouched writes touched v none =
    subst (λ t. IsTold (touched_told writes t) v None) (sym none)
    (record { closed = λ _. refl; opened = λ _ q. refl })
