use Rattle.std.proofs.Common.{subst}
use Rattle.rand_core.specs.Stream.{Stream}
use Rattle.tm_pick.specs.Begun.{IsManner}
use Rattle.tm_pick.specs.declared.method.Method.TheVariants as method
use Rattle.tm_pick.proofs.picker.Picker.random.Goals as goal

pub returns-clause-cores : goal.returns-clause-cores
returns-clause-cores c = λ cores length.
    subst (λ (words : Stream). IsManner method.Uniform 0 cores length words c.uniform.result.manner) c.of_run.ensures
    (c.uniform.ensures.manner 0 cores length)
