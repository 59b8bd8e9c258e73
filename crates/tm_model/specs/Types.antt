-- The types that the definitions speak of, which stand in this crate and in those below. An instruction's result is
-- OutsideResult or InsideResult, a step's is Outcome.
pub use Rattle.ia_word.specs.declared.width.Width.{Width}
pub use Rattle.ia_word.specs.declared.width.Width.TheVariants.{B, D}
pub use Rattle.ia_regs.specs.declared.Regs.{Regs}
pub use Rattle.ia_addr.specs.declared.Access.{Access}
pub use Rattle.ia_exec.specs.declared.done.Store.{Store}
pub use Rattle.tm_status.specs.declared.cause.Cause.{Cause}
pub use Rattle.tm_status.specs.declared.cause.Cause.TheVariants.{Conflict, Capacity}
pub use Rattle.tm_rule.specs.declared.kinds.Stop.{Stop}
pub use Rattle.tm_rule.specs.declared.kinds.OutsideResult.{OutsideResult}
pub use Rattle.tm_rule.specs.declared.kinds.OutsideResult.TheVariants.{Goes, Begins, Stops}
pub use Rattle.tm_rule.specs.declared.kinds.InsideResult.{InsideResult}
pub use Rattle.tm_rule.specs.declared.kinds.InsideResult.TheVariants.{GoesOn, Nests, Ends, Fails}
pub use Rattle.tm_model.specs.declared.outcome.Outcome.{Outcome}
pub use Rattle.tm_model.specs.declared.outcome.Outcome.TheVariants.{Plain, Loaded, Stopped, Idle, Begun, Inside}
pub use Rattle.tm_model.specs.declared.outcome.Outcome.TheVariants.{Committed, Aborted, AbortedBy, Drained}
pub use Rattle.tm_model.specs.declared.outcome.Event.{Event}
pub use Rattle.tm_model.specs.declared.outcome.Interference.{Interference}
pub use Rattle.tm_model.specs.declared.outcome.Pick.{Pick}
pub use Rattle.tm_model.specs.declared.outcome.CoreState.{CoreState}
pub use Rattle.tm_model.specs.declared.outcome.CoreState.TheVariants.{Running, Mid, Open, Condemned, Stopped as AtStop}
