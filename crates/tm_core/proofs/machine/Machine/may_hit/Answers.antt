use Rattle.std.proofs.Common.{ℕ, None, subst}
use Rattle.tm_core.specs.ExplainedViews.{IsTold, touched_told}
use Rattle.tm_core.specs.Theorem.{ShownMachine, view_at}
use Rattle.tm_core.proofs.Buffered.{core_of}
use Rattle.tm_core.proofs.ExplainMachine.{machine_hit}
use Rattle.tm_core.proofs.machine.Machine.may_hit.Goals as goal

pub returns : goal.returns
returns g c never victim exists apart st d stands =
    let core : ℕ = c.args.preview.now.core in
    let writes = (view_at c.args.self.now core).writes in
    machine_hit c.args.self.now st d stands core c.requires.exists victim exists None
    (subst (λ touched. IsTold touched (view_at c.args.self.now victim) None) c.requires.touches
    (subst (λ (s : ShownMachine). IsTold (touched_told writes c.args.preview.now.touched) (view_at s victim) None)
    c.self.view_is
    (c.may_hit.ensures never writes victim (core_of c.self.invariant c.self.view_is victim exists))))
