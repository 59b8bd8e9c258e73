-- The types that the definitions of this crate speak of: those of the model, and of the sets.
pub use Rattle.tm_model.specs.Types.{Width, B, D, Regs, Access, Store, Cause, Conflict, Capacity, Stop}
pub use Rattle.tm_model.specs.Types.{OutsideResult, Goes, Begins, Stops, InsideResult, GoesOn, Nests, Ends, Fails}
pub use Rattle.tm_model.specs.declared.outcome.Outcome.{Outcome}
pub use Rattle.tm_model.specs.declared.outcome.Outcome.TheVariants.{Plain, Loaded, Stopped, Idle, Begun, Inside}
pub use Rattle.tm_model.specs.declared.outcome.Outcome.TheVariants.{Committed, Aborted, AbortedBy, Drained}
pub use Rattle.tm_model.specs.declared.outcome.Event.{Event}
pub use Rattle.tm_model.specs.declared.outcome.Interference.{Interference}
pub use Rattle.tm_model.specs.declared.outcome.CoreState.{CoreState}
pub use Rattle.tm_model.specs.declared.outcome.CoreState.TheVariants.{Running, Mid, Open, Condemned, Stopped as AtStop}
pub use Rattle.tm_sets.specs.declared.interface.Kind.{Kind}
pub use Rattle.tm_sets.specs.declared.interface.Kind.TheVariants.{Read, Write}
pub use Rattle.tm_sets.specs.LineSet.{Lines}
