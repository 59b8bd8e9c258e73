-- The types that the other files speak of.
pub use Rattle.tm_page.specs.declared.delta.Changes.{Changes}
pub use Rattle.tm_page.specs.declared.delta.PageDelta.{PageDelta}
pub use Rattle.tm_page.specs.declared.delta.StoredByte.{StoredByte}
pub use Rattle.tm_model.specs.Types.{Regs, Store}
pub use Rattle.tm_model.specs.declared.explain.Hit.{Hit}
pub use Rattle.tm_model.specs.declared.outcome.CoreState.{CoreState}
pub use Rattle.tm_model.specs.declared.outcome.CoreState.TheVariants.{Running, Mid, Open, Condemned, Stopped as AtStop}
pub use Rattle.tm_model.specs.declared.outcome.Interference.{Interference}
pub use Rattle.tm_model.specs.declared.outcome.Outcome.{Outcome}
pub use Rattle.tm_model.specs.declared.outcome.Outcome.TheVariants.{Plain, Loaded, Stopped, Idle, Begun, Inside}
pub use Rattle.tm_model.specs.declared.outcome.Outcome.TheVariants.{Committed, Aborted, AbortedBy, Drained}
