-- What a transaction came to (docs/FORMATS.md, "Pictures").
use Rattle.std.specs.Prelude.{ℕ, Option, Some, None, if◌then◌else◌}
use Rattle.tm_model.specs.declared.outcome.Outcome.{Outcome}
use Rattle.tm_model.specs.declared.outcome.Outcome.TheVariants as outcome
use Rattle.tm_status.specs.Status.{causes_of}
use Rattle.tm_timeline.specs.declared.fate.Fate.{Fate}
use Rattle.tm_timeline.specs.declared.fate.Fate.TheVariants.{Committed, Conflict, Other, Outside}

-- by the status that its abort left in EAX: a conflict, where that has its bit
abbrev pub fate_of : ℕ → Fate
fate_of status = if (causes_of status).conflict then Conflict status else Other status

-- by the step that ends it. An abort from outside goes by the outcome: the status of one has the bit of a conflict.
abbrev pub fate_at : Outcome → Option Fate
fate_at outcome.Committed = Some Committed
fate_at (outcome.Aborted status) = Some (fate_of status)
fate_at (outcome.AbortedBy interference status) = Some (Outside interference status)
fate_at outcome.Plain = None
fate_at outcome.Loaded = None
fate_at (outcome.Stopped stop) = None
fate_at outcome.Idle = None
fate_at outcome.Begun = None
fate_at outcome.Inside = None
fate_at outcome.Drained = None
