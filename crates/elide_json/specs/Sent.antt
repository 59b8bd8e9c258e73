-- Members of an object that are sent one after another.
use Rattle.serde.specs.Event.{Log}
use Rattle.serde_json.specs.Data.{Members}
use Rattle.serde_json.specs.Events.{SendsMembers}

-- members are sent that stand before the others of their object
abbrev pub SendsFront : (Members → Members) → Log → Log → Type 0
SendsFront before old new =
    (others : Members) (end : Log) → SendsMembers others new end → SendsMembers (before others) old end
