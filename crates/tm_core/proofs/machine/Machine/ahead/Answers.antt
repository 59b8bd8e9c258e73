use Rattle.std.proofs.Common.{◌<◌, subst}
use Rattle.tm_core.specs.Buffered.{setting_at}
use Rattle.tm_core.specs.StoreBuffers.{ShowsAhead}
use Rattle.tm_core.specs.Theorem.{ShownMachine, machine_setting, pending_at, view_at}
use Rattle.tm_core.proofs.AheadTold.{direct_tells, shown_tells}
use Rattle.tm_core.proofs.machine.Machine.ahead.Goals as goal

pub returns-then-is_direct-clause-told : goal.returns-then-is_direct-clause-told
returns-then-is_direct-clause-told g c =
    direct_tells c.args.self.now c.args.core (c.is_direct.ensures.exists c.if-is_direct.true)
    c.nothing_pending.ensures.most c.nothing_pending.ensures.none

pub returns-clause-told : goal.returns-clause-told
returns-clause-told g c =
    shown_tells c.args.self.now c.args.core
    (subst (λ n. c.args.core < n) c.cores.ensures.count c.if-core-cores.false) c.ahead.result
    (subst (λ (s : ShownMachine). ShowsAhead (machine_setting s) s.memory (pending_at c.args.self.now c.args.core)
    (view_at s c.args.core) c.ahead.result) c.self.view_is
    (subst (λ p. ShowsAhead (setting_at c.self.inside.unbuffered c.self.inside.most) c.self.inside.unbuffered.memory p
    (view_at c.self.inside.unbuffered c.args.core) c.ahead.result) c.pending_of.ensures.shown c.ahead.ensures))
