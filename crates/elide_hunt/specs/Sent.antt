-- What the objects of a search stand for, as they are sent.
use Rattle.std.specs.Prelude.{Option, Some, None, codes}
use Rattle.elide_program.specs.Settings.{has_store_buffer}
use Rattle.serde_json.specs.Data.{Data, Members, member, no_members, null, string}
use Rattle.elide_hunt.specs.Object.{failure_value, hunt_value, lates_then, search_status}
use Rattle.elide_hunt.specs.declared.sending.FailureObject.{FailureObject}
use Rattle.elide_hunt.specs.declared.sending.HuntObject.{HuntObject}

abbrev pub sent_failure : FailureObject → Data
sent_failure o = failure_value o.options.now o.beside.now o.replay.now o.found.now

-- the members of a failure behind its loop
abbrev pub members_behind : FailureObject → Members
members_behind o =
    lates_then (has_store_buffer o.options.now.machine) o.beside.now.lates.items
    (member (codes "replay") (string o.replay.now) no_members)

abbrev pub failure_of : Option FailureObject → Data
failure_of None = null
failure_of (Some o) = sent_failure o

abbrev pub object_value : HuntObject → Data
object_value o = hunt_value o.ended o.cut (failure_of o.failure) (search_status o.failure)
