use Rattle.std.proofs.Common.{ap}
use Rattle.tm_sets.specs.Content.{Content}
use Rattle.tm_sets.specs.declared.interface.Kind.TheVariants.{Read, Write}
use Rattle.machine_tests.proofs.machine.both.over_plain_sets.Goals as goal

pub with_sets-requires-clause-empty : goal.with_sets-requires-clause-empty
with_sets-requires-clause-empty g c core kind = ap (λ (x : Content). x.lines core kind) c.in-Ok.ensures.content

pub with_sets-requires-clause-read_lines : goal.with_sets-requires-clause-read_lines
with_sets-requires-clause-read_lines g c = ap (λ (x : Content). x.fixed.room Read) c.in-Ok.ensures.content

pub with_sets-requires-clause-write_lines : goal.with_sets-requires-clause-write_lines
with_sets-requires-clause-write_lines g c = ap (λ (x : Content). x.fixed.room Write) c.in-Ok.ensures.content
