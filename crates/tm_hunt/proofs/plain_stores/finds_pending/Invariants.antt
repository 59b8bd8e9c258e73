use Rattle.tm_hunt.specs.Delays.{IsReached, with_stores}
use Rattle.tm_hunt.proofs.plain_stores.finds_pending.Given as goal

abbrev pub invariant-steps : goal.invariant-steps
invariant-steps l = IsReached (with_stores 1 l.trial) l.machine
