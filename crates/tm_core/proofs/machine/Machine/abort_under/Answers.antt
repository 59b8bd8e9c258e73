use Rattle.std.proofs.Common.{◌≡◌, Some, [], subst, sym}
use Rattle.tm_model.specs.declared.outcome.Event.TheVariants as event
use Rattle.tm_core.specs.Theorem.{ShownMachine, view_at}
use Rattle.tm_core.specs.Types.{Open}
use Rattle.tm_core.proofs.Buffered.{core_of, rows_same, rows_take, still_buffered}
use Rattle.tm_core.proofs.machine.Machine.abort_under.Goals as goal

pub abort_under-outcome-requires-clause-core : goal.abort_under-outcome-requires-clause-core
abort_under-outcome-requires-clause-core g c = core_of c.self.invariant c.self.view_is c.args.core c.requires.core

pub abort_under-outcome-requires-clause-open : goal.abort_under-outcome-requires-clause-open
abort_under-outcome-requires-clause-open g c =
    subst (λ (s : ShownMachine). (view_at s c.args.core).mode ≡ Open c.args.depth) (sym c.self.view_is) c.requires.open

pub invariant_of-self : goal.invariant_of-self
invariant_of-self g c =
    still_buffered c.self.invariant c.abort_under-outcome.new.self (c.abort_under-outcome.ensures 0 []).same
    c.nothing_pending.ensures.most c.nothing_pending.ensures.none

pub returns-clause-same : goal.returns-clause-same
returns-clause-same g c =
    rows_same c.self.invariant c.self.view_is c.abort_under-outcome.new.self (c.abort_under-outcome.ensures 0 []).same

pub returns-clause-ok : goal.returns-clause-ok
returns-clause-ok g c =
    rows_take c.self.invariant c.self.view_is (Some (event.Abort c.args.by)) c.abort_under-outcome.new.self c.args.core
    c.abort_under-outcome.result c.requires.core (c.abort_under-outcome.ensures c.self.inside.most _)
