-- The cause that an abort is counted as (docs/FORMATS.md, "Statistics").
use Rattle.tm_model.specs.declared.outcome.Interference.{Interference}
use Rattle.tm_model.specs.declared.outcome.Interference.TheVariants as from_outside
use Rattle.tm_model.specs.declared.outcome.Outcome.{Outcome}
use Rattle.tm_model.specs.declared.outcome.Outcome.TheVariants.{AbortedBy}
use Rattle.tm_stats.specs.declared.cause.AbortCause.{AbortCause}
use Rattle.tm_stats.specs.declared.cause.AbortCause.TheVariants as cause

abbrev pub cause_from_outside : Interference → AbortCause
cause_from_outside from_outside.Interrupt = cause.Interrupt
cause_from_outside from_outside.Eviction = cause.Eviction
cause_from_outside from_outside.Snoop = cause.Snoop

-- an abort from outside is counted as what it came from, and each other as what was told of it
abbrev pub cause_counted : Outcome → AbortCause → AbortCause
cause_counted (AbortedBy interference status) told = cause_from_outside interference
cause_counted outcome told = told
