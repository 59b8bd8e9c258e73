-- The types that the other files speak of.
pub use Rattle.tm_why.specs.declared.asked.Asked.{Asked}
pub use Rattle.tm_why.specs.declared.reason.Reason.{Reason}
pub use Rattle.tm_why.specs.declared.row.StandingHit.{StandingHit}
pub use Rattle.tm_why.specs.declared.row.Watched.{Watched}
pub use Rattle.tm_why.specs.declared.watch.Watch.{Watch}
pub use Rattle.tm_model.specs.declared.explain.Hit.{Hit}
pub use Rattle.tm_stores.specs.declared.change.MadeStore.{MadeStore}
