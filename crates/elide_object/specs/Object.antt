-- Values of JSON that objects have in common (docs/JSON.md), and the line of an object.
use Rattle.std.specs.Prelude.{ℕ, List, [], ◌∷◌, ◌++◌, Option, Some, None}
use Rattle.text_out.specs.TextLine.{line_end}
use Rattle.serde.specs.Event.{Log, Logs, field_key}
use Rattle.serde.specs.declared.name.Case.TheVariants.{AsIs}
use Rattle.serde_json.specs.Data.{Data, Items, array, item, no_items, null, number, string, unsigned}
use Rattle.serde_json.specs.Events.{SendsValue}
use Rattle.serde_json.specs.Written.{compact_text}
use Rattle.tm_model.specs.declared.outcome.Pick.{Pick}
use Rattle.tm_schedule.specs.Picks.{pick_word}

-- what is written of a value on its own is what is sent of a value of JSON
abbrev pub Sends : (Log → Log → Type 0) → Data → Type 0
Sends writes value = (log : Log) → writes (Some []) log → SendsValue value (Some []) log

-- a member of an object is sent: its name, and its value
abbrev pub SendsMember : List ℕ → Data → Log → Log → Type 0
SendsMember name value old new = (named : Log) × Logs old named (field_key name AsIs) × SendsValue value named new

-- the text of a value, without spaces, on a line of its own
unfoldable pub object_text : Data → List ℕ
object_text value = compact_text value ++ line_end

-- a whole number without sign
abbrev pub number_value : ℕ → Data
number_value n = number (unsigned n)

-- the values of several things, in their order
abbrev pub items_of : {A : Type 0} → (A → Data) → List A → Items
items_of value_of [] = no_items
items_of value_of (x ∷ xs) = item (value_of x) (items_of value_of xs)

abbrev pub list_value : {A : Type 0} → (A → Data) → List A → Data
list_value value_of xs = array (items_of value_of xs)

-- a text, where there is one
abbrev pub text_or_null : Option (List ℕ) → Data
text_or_null None = null
text_or_null (Some text) = string text

abbrev pub text_list : List (List ℕ) → Data
text_list texts = list_value string texts

-- the word of each step, as `--steps` takes it
abbrev pub word_value : Pick → Data
word_value pick = string (pick_word pick)

abbrev pub schedule_value : List Pick → Data
schedule_value picks = list_value word_value picks
