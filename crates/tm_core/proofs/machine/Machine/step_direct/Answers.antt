use Rattle.tm_core.specs.Stepping.{MakesStep}
use Rattle.tm_core.proofs.Buffered.{core_of, lifted, off_of, still_buffered}
use Rattle.tm_core.proofs.machine.Machine.step_direct.Goals as goal

pub step-outcome-requires : goal.step-outcome-requires
step-outcome-requires g c = core_of c.self.invariant c.self.view_is c.args.core c.requires.exists

pub invariant_of-self : goal.invariant_of-self
invariant_of-self g c =
    still_buffered c.self.invariant c.step-outcome.new.self c.step-outcome.ensures.same c.nothing_pending.ensures.most
    c.nothing_pending.ensures.none

pub returns : goal.returns
returns g c =
    lifted c.self.invariant (λ s t. MakesStep s t c.args.core c.step-outcome.result) c.step-outcome.ensures
    c.self.view_is c.nothing_pending.ensures.most c.nothing_pending.ensures.none
    (off_of c.self.invariant c.self.view_is c.requires.direct)
