use Rattle.std.proofs.Common.{◌≡◌, ◌<◌, ◌≤◌, ℕ, length}
use Rattle.tm_core.specs.Representation.{IsHeld, cpu_at, cpu_views, kept_at}
use Rattle.tm_core.specs.Types.{Write}
use Rattle.tm_core.proofs.copy_lines.copy_cores.Given as goal

-- the cores so far are as those of the other machine, and the rest as they were
abbrev pub invariant-loop-core : goal.invariant-loop-core
invariant-loop-core g l =
    let content = g.S.Sets.content in
    record {
      len : length l.cpus ≡ length l.fn.cpus;
      end : l.core-end ≡ length l.fn.cpus;
      views : (i : ℕ) → i < l.core → cpu_views (content l.sets) l.cpus i ≡ cpu_views (content l.twin_sets) l.twins i;
      held : (i : ℕ) → i < l.core → IsHeld ((content l.sets).fixed.room Write) (kept_at (content l.sets) l.cpus i);
      rest : (i : ℕ) → l.core ≤ i → i < length l.fn.cpus → cpu_at l.cpus i ≡ cpu_at l.fn.cpus i;
      fixed : (content l.sets).fixed ≡ (content l.fn.sets).fixed;
    }
