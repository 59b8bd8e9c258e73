-- The words that objects have for what a core is doing and for what a step was (docs/JSON.md).
use Rattle.std.specs.Prelude.{ℕ, List, codes, Option, Some, None}
use Rattle.elide_object.specs.Object.{number_value}
use Rattle.serde_json.specs.Data.{Data, null}
use Rattle.tm_hist.specs.Lines.{interference_word, stop_word}
use Rattle.tm_model.specs.declared.outcome.CoreState.{CoreState}
use Rattle.tm_model.specs.declared.outcome.CoreState.TheVariants as state
use Rattle.tm_model.specs.declared.outcome.Outcome.{Outcome}
use Rattle.tm_model.specs.declared.outcome.Outcome.TheVariants as outcome

-- a number, where there is one
abbrev pub number_or_null : Option ℕ → Data
number_or_null None = null
number_or_null (Some number) = number_value number

abbrev pub state_name : CoreState → List ℕ
state_name state.Running = codes "run"
state_name state.Mid = codes "mid"
state_name (state.Open depth) = codes "tx"
state_name (state.Condemned depth) = codes "condemned"
state_name (state.Stopped why) = codes "stop"

-- why a core has stopped
abbrev pub state_stop : CoreState → Option (List ℕ)
state_stop state.Running = None
state_stop state.Mid = None
state_stop (state.Open depth) = None
state_stop (state.Condemned depth) = None
state_stop (state.Stopped why) = Some (stop_word why)

abbrev pub outcome_name : Outcome → List ℕ
outcome_name outcome.Plain = codes "plain"
outcome_name outcome.Loaded = codes "loaded"
outcome_name (outcome.Stopped why) = codes "stopped"
outcome_name outcome.Idle = codes "idle"
outcome_name outcome.Begun = codes "begun"
outcome_name outcome.Inside = codes "inside"
outcome_name outcome.Committed = codes "committed"
outcome_name (outcome.Aborted status) = codes "aborted"
outcome_name (outcome.AbortedBy by status) = codes "aborted"
outcome_name outcome.Drained = codes "drained"

-- why the core stopped at this step
abbrev pub outcome_stop : Outcome → Option (List ℕ)
outcome_stop outcome.Plain = None
outcome_stop outcome.Loaded = None
outcome_stop (outcome.Stopped why) = Some (stop_word why)
outcome_stop outcome.Idle = None
outcome_stop outcome.Begun = None
outcome_stop outcome.Inside = None
outcome_stop outcome.Committed = None
outcome_stop (outcome.Aborted status) = None
outcome_stop (outcome.AbortedBy by status) = None
outcome_stop outcome.Drained = None

-- what aborted the transaction from outside of the program
abbrev pub outcome_event : Outcome → Option (List ℕ)
outcome_event outcome.Plain = None
outcome_event outcome.Loaded = None
outcome_event (outcome.Stopped why) = None
outcome_event outcome.Idle = None
outcome_event outcome.Begun = None
outcome_event outcome.Inside = None
outcome_event outcome.Committed = None
outcome_event (outcome.Aborted status) = None
outcome_event (outcome.AbortedBy by status) = Some (interference_word by)
outcome_event outcome.Drained = None
