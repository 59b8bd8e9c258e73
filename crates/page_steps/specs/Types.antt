-- The types that the other files speak of.
pub use Rattle.ia_word.specs.declared.width.Width.{Width}
pub use Rattle.ia_word.specs.declared.width.Width.TheVariants.{B, D}
pub use Rattle.tm_page.specs.declared.delta.Changes.{Changes}
pub use Rattle.tm_page.specs.declared.delta.PageDelta.{PageDelta}
pub use Rattle.tm_page.specs.declared.delta.StoredByte.{StoredByte}
pub use Rattle.tm_page.specs.Types.{Hit, Regs, Store}
pub use Rattle.tm_page.specs.Types.{CoreState, Interference, Outcome, Aborted, AbortedBy, Begun, Committed, Idle}
pub use Rattle.tm_page.specs.Types.{Drained, Inside}
pub use Rattle.tm_page.specs.Types.{Loaded, Plain, Stopped}
pub use Rattle.tm_page.specs.Types.{AtStop, Condemned, Mid, Open, Running}
pub use Rattle.tm_rule.specs.declared.kinds.Stop.{Stop}
pub use Rattle.tm_model.specs.Types.{Access}
pub use Rattle.tm_sets.specs.declared.interface.Kind.{Kind}
pub use Rattle.tm_sets.specs.declared.interface.Kind.TheVariants.{Read, Write}
