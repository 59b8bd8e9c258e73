-- The cause that an abort of the program's own is counted as (docs/FORMATS.md, "Statistics").
use Rattle.tm_model.specs.declared.explain.AbortReason.{AbortReason}
use Rattle.tm_model.specs.declared.explain.AbortReason.TheVariants as reason
use Rattle.tm_rule.specs.declared.kinds.Stop.{Stop}
use Rattle.tm_rule.specs.declared.kinds.Stop.TheVariants as stop
use Rattle.tm_sets.specs.declared.interface.Kind.TheVariants as kind
use Rattle.tm_stats.specs.declared.cause.AbortCause.{AbortCause}
use Rattle.tm_stats.specs.declared.cause.AbortCause.TheVariants as cause

abbrev pub cause_for_stop : Stop → AbortCause
cause_for_stop stop.Divide = cause.Divide
cause_for_stop stop.Breakpoint = cause.Breakpoint
cause_for_stop stop.Undefined = cause.Undefined
cause_for_stop stop.Protection = cause.Protection
cause_for_stop stop.Halt = cause.Halt
cause_for_stop stop.Range = cause.Range
cause_for_stop stop.CodeStore = cause.CodeStore
cause_for_stop stop.Fetch = cause.Fetch
cause_for_stop stop.NotInSubset = cause.NotInSubset

abbrev pub cause_for : AbortReason → AbortCause
cause_for reason.Conflict = cause.Conflict
cause_for (reason.Capacity kind.Read line) = cause.ReadCapacity
cause_for (reason.Capacity kind.Write line) = cause.WriteCapacity
cause_for reason.Nest = cause.Nest
cause_for (reason.Explicit argument) = cause.Explicit argument
cause_for reason.Breakpoint = cause.Breakpoint
cause_for (reason.Stop why) = cause_for_stop why
cause_for reason.NotAllowed = cause.NotAllowed
