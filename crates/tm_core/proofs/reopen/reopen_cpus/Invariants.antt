use Rattle.std.proofs.Common.{◌≡◌, ◌<◌, ◌≤◌, ℕ, length}
use Rattle.std.specs.FinSet as finset
use Rattle.tm_core.specs.Machine.{IsStart}
use Rattle.tm_core.specs.Representation.{cpu_at}
use Rattle.tm_core.specs.Types.{Kind}
use Rattle.tm_core.proofs.reopen.reopen_cpus.Given as goal

abbrev pub invariant-loop-core : goal.invariant-loop-core
invariant-loop-core g l =
    let content = g.S.Sets.content in
    record {
      len : length l.cpus ≡ length l.fn.cpus;
      end : l.core-end ≡ length l.program.entries;
      done : (i : ℕ) → i < l.core → IsStart l.program (cpu_at l.fn.cpus i).buffer.room i (cpu_at l.cpus i);
      rest : (i : ℕ) → l.core ≤ i → i < length l.fn.cpus → cpu_at l.cpus i ≡ cpu_at l.fn.cpus i;
      empty : (i : ℕ) (kind : Kind) → i < l.core → (content l.sets).lines i kind ≡ finset.empty;
      fixed : (content l.sets).fixed ≡ (content l.fn.sets).fixed;
    }
