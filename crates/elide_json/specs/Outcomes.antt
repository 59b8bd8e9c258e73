-- The object of `run` (docs/JSON.md): the outcomes of its steps, and the text of the object as it is written, a part
-- after another.
use Rattle.std.specs.Prelude.{ℕ, ◌+◌, Bool, nat_lt, List, [], ◌∷◌, ◌++◌, codes, drop, if◌then◌else◌}
use Rattle.std.specs.List.{enumerate_from}
use Rattle.elide_object.specs.Object.{list_value, number_value, object_text}
use Rattle.serde_json.specs.Data.{Data, Members, member, no_members, null, object, string}
use Rattle.serde_json.specs.Written.{comma_if, compact_text}
use Rattle.tm_hist.specs.Lines.{status_of}
use Rattle.tm_model.specs.declared.outcome.Outcome.{Outcome}
use Rattle.tm_model.specs.declared.outcome.Pick.{Pick}
use Rattle.elide_json.specs.Words.{number_or_null, outcome_event, outcome_name, outcome_stop}
use Rattle.elide_object.specs.Object.{text_or_null}

-- the outcome of the step of this number, which was this core's
unfoldable pub outcome_value : ℕ → ℕ → Outcome → Data
outcome_value number core outcome =
    object (member (codes "step") (number_value number)
    (member (codes "core") (number_value core)
    (member (codes "outcome") (string (outcome_name outcome))
    (member (codes "stop") (text_or_null (outcome_stop outcome))
    (member (codes "status") (number_or_null (status_of outcome))
    (member (codes "event") (text_or_null (outcome_event outcome)) no_members))))))

-- of a step, which is its number and a pick with its outcome
abbrev pub step_value : ℕ × (Pick × Outcome) → Data
step_value step = outcome_value step.0 step.1.0.core step.1.1

-- those of all steps, counted from 1, where they are asked for
abbrev pub outcomes_value : Bool → List (Pick × Outcome) → Data
outcomes_value traces steps = if traces then list_value step_value (enumerate_from 1 steps) else null

-- the text of one, behind a comma where others stand before it
abbrev pub row_text : ℕ → ℕ → Outcome → List ℕ
row_text number core outcome = comma_if (nat_lt 1 number) ++ compact_text (outcome_value number core outcome)

-- those of steps, before which so many others were made
abbrev pub rows_text : ℕ → List (Pick × Outcome) → List ℕ
rows_text before [] = []
rows_text before (step ∷ steps) = row_text (before + 1) step.0.core step.1 ++ rows_text (before + 1) steps

-- an object of a command
abbrev pub command_value : List ℕ → Members → Data
command_value command others =
    object (member (codes "format") (number_value 1) (member (codes "command") (string command) others))

-- a run: its outcomes, and what stands behind them
unfoldable pub run_value : Data → Members → Data
run_value outcomes others = command_value (codes "run") (member (codes "outcomes") outcomes others)

-- what stands before the outcomes of a run, and behind them
unfoldable pub run_front : Bool → List ℕ
run_front traces =
    codes "{\"format\":1,\"command\":\"run\",\"outcomes\":" ++ (if traces then codes "[" else codes "null")

abbrev pub run_back : Bool → Members → List ℕ
run_back traces others = (if traces then codes "]," else codes ",") ++ drop 1 (object_text (object others))

-- the outcomes, where they are asked for
abbrev pub run_rows : Bool → List (Pick × Outcome) → List ℕ
run_rows traces steps = if traces then rows_text 0 steps else []
