use Rattle.std.proofs.Common.{◌<◌, length, sym, subst}
use Rattle.tm_core.specs.declared.foretell.Touches.TheVariants.{Accesses}
use Rattle.std.specs.Prelude.{None, Some}
use Rattle.tm_core.specs.ExplainedViews.{IsTold, touched_told}
use Rattle.tm_core.specs.Theorem.{ShownMachine, view_at}
use Rattle.tm_core.proofs.ExplainMachine.{machine_drain_hit}
use Rattle.tm_core.proofs.machine.Machine.hit_by_drain.Goals as goal

pub returns-clause-told : goal.returns-clause-told
returns-clause-told g c apart some st d stands =
    machine_drain_hit c.args.self.now st d stands c.args.core
    (subst (λ n. c.args.core < n) c.cores.ensures.count c.if-core-cores.false) c.args.victim
    (subst (λ n. c.args.victim < n) c.cores-else-core-cores.ensures.count c.if-victim-cores.false) c.hit_by.result
    c.store_at.result c.pending_of-pending.result.now (sym c.pending_of-pending.ensures.shown)
    (subst (λ q. 0 < length q) (sym c.pending_of-pending.ensures.shown) some) c.store_at.ensures
    (subst (λ (s : ShownMachine). IsTold (touched_told (view_at s c.args.core).writes
    (Accesses None (Some c.store_at.result))) (view_at s c.args.victim) c.hit_by.result) c.self.view_is
    (c.hit_by.ensures.told apart))
