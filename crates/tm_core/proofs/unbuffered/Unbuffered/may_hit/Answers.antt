use Rattle.std.proofs.Common.{◌<◌, ℕ, List, None, length, subst}
use Rattle.tm_sets.specs.Content.{Content}
use Rattle.tm_core.specs.declared.cpu.Cpu.{Cpu}
use Rattle.tm_core.specs.ExplainedViews.{IsTold, touched_told}
use Rattle.tm_core.specs.Theorem.{ShownMachine, view_at}
use Rattle.tm_core.proofs.Previews.{closed_hit, untouched}
use Rattle.tm_core.proofs.WholeMachine.{core_within}
use Rattle.tm_core.proofs.unbuffered.Unbuffered.may_hit.Goals as goal

-- where no core is open
pub returns-then-not-self : goal.returns-then-not-self
returns-then-not-self g c _ writes victim exists =
    let a : Content = g.S.Sets.content c.self.inside.sets in
    let m : List ℕ = c.self.inside.memory.items in
    let cpus : List Cpu = c.self.inside.cpus.items in
    let beside : victim < length cpus = core_within a cpus c.self.view_is exists in
    subst (λ (s : ShownMachine). IsTold (touched_told writes c.args.touched) (view_at s victim) None) c.self.view_is
    (closed_hit a c.self.inside.code.items c.self.inside.base m cpus (touched_told writes c.args.touched) victim beside
    (c.self.invariant.quiet c.if-not-self.true victim beside))

-- where nothing is touched
pub returns-in-Nothing : goal.returns-in-Nothing
returns-in-Nothing g c _ writes victim exists =
    untouched writes c.args.touched (view_at c.args.self.now victim) c.in-Nothing.is
