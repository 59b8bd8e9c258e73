-- What the object of a search stands for, as it is sent, and its first members.
use Rattle.elide_args.specs.Asked.{texts_of}
use Rattle.serde.specs.Event.{Log}
use Rattle.serde_json.specs.Data.{Data, Members}
use Rattle.serde_json.specs.Events.{SendsMembers}
use Rattle.elide_outcomes.specs.Object.{search_object}
use Rattle.elide_outcomes.specs.declared.search_object.SearchObject.{SearchObject}

abbrev pub object_value : SearchObject → Data
object_value o = search_object o.options.now (texts_of o.show.now) o.status o.has_stores o.search.now

-- the members before others were sent: with the others behind them, all were
abbrev pub SendsFront : (Members → Members) → Log → Log → Type 0
SendsFront before old new =
    (others : Members) (end : Log) → SendsMembers others new end → SendsMembers (before others) old end
