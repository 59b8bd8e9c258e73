-- The text of a run's object is that of its parts, one behind the other.
use Rattle.std.proofs.Common.{◌≡◌, ◌≤◌, ◌∙◌, Bool, true, false, List, [], ◌∷◌, ◌++◌, codes, ℕ, ◌+◌, add-zero, ap}
use Rattle.std.proofs.Common.{append_assoc, arith, length, nat_lt, refl, sym}
use Rattle.std.proofs.lemmas.Bool.Decides.{nat_tests}
use Rattle.std.proofs.lemmas.Fmt.{decimal_digit}
use Rattle.std.specs.Fmt.{decimal}
use Rattle.std.specs.List.{enumerate_from}
use Rattle.text_out.specs.TextLine.{line_end}
use Rattle.elide_object.specs.Object.{items_of, object_text}
use Rattle.serde_json.proofs.OnLiterals.{serde_json_on_literals}
use Rattle.serde_json.specs.Data.{Data, Members, member, object}
use Rattle.serde_json.specs.Written.{comma_if, compact_text, items_text, members_text}
use Rattle.tm_model.specs.declared.outcome.Outcome.{Outcome}
use Rattle.tm_model.specs.declared.outcome.Pick.{Pick}
use Rattle.elide_json.specs.Outcomes.{outcomes_value, row_text, rows_text, run_back, run_front, run_rows, run_value}
use Rattle.elide_json.specs.Outcomes.{step_value}

-- a step behind others is not the first
is_later : (before : ℕ) → nat_lt 1 (before + 1 + 1) ≡ true
is_later before = grind (arith, nat_tests)

-- the rows, and the bracket behind them
rows_are : (before : ℕ) (steps : List (Pick × Outcome)) →
    rows_text before steps ++ 93 ∷ []
    ≡ items_text (nat_lt 1 (before + 1)) (items_of step_value (enumerate_from (before + 1) steps))
rows_are before [] = refl
rows_are before (step ∷ steps) =
    let row = row_text (before + 1) step.0.core step.1 in
    let others = items_of step_value (enumerate_from (before + 1 + 1) steps) in
    append_assoc row (rows_text (before + 1) steps) (93 ∷ [])
    ∙ ap (λ l. row ++ l) (rows_are (before + 1) steps ∙ ap (λ later. items_text later others) (is_later before))
    ∙ append_assoc (comma_if (nat_lt 1 (before + 1))) (compact_text (step_value (before + 1, step)))
    (items_text true others)

-- the rows of steps behind others
pub rows_behind : (before : ℕ) (first rest : List (Pick × Outcome)) →
    rows_text before (first ++ rest) ≡ rows_text before first ++ rows_text (before + length first) rest
rows_behind before [] rest = ap (λ n. rows_text n rest) (sym (add-zero before))
rows_behind before (step ∷ steps) rest =
    let row = row_text (before + 1) step.0.core step.1 in
    let same : before + 1 + length steps ≡ before + length (step ∷ steps) = omega arith in
    ap (λ l. row ++ l) (rows_behind (before + 1) steps rest)
    ∙ sym (append_assoc row (rows_text (before + 1) steps) (rows_text (before + 1 + length steps) rest))
    ∙ ap (λ n. (row ++ rows_text (before + 1) steps) ++ rows_text n rest) same

behind_list : (steps : List (Pick × Outcome)) (name : List ℕ) (value : Data) (others : Members) →
    rows_text 0 steps ++ run_back true (member name value others)
    ≡ (items_text false (items_of step_value (enumerate_from 1 steps)) ++ members_text true (member name value others))
    ++ line_end
unfolding object_text
behind_list steps name value others =
    let more = members_text true (member name value others) in
    let rows = rows_text 0 steps in
    sym (append_assoc rows (93 ∷ []) (more ++ line_end))
    ∙ ap (λ l. l ++ (more ++ line_end)) (rows_are 0 steps)
    ∙ sym (append_assoc (items_text false (items_of step_value (enumerate_from 1 steps))) more line_end)

one : codes "1" ≡ decimal 1
one = sym (decimal_digit 1 (omega arith))

pub run_text : (traces : Bool) (steps : List (Pick × Outcome)) (name : List ℕ) (value : Data) (others : Members) →
    run_front traces ++ (run_rows traces steps ++ run_back traces (member name value others))
    ≡ object_text (run_value (outcomes_value traces steps) (member name value others))
unfolding run_front run_value object_text serde_json_on_literals
run_text true steps name value others =
    ap (λ l. codes "{\"format\":1,\"command\":\"run\",\"outcomes\":[" ++ l) (behind_list steps name value others)
    ∙ ap (λ digits. (codes "{\"format\":" ++ (digits ++ (codes ",\"command\":\"run\",\"outcomes\":["
    ++ (items_text false (items_of step_value (enumerate_from 1 steps))
    ++ members_text true (member name value others))))) ++ line_end) one
run_text false steps name value others =
    ap (λ digits. (codes "{\"format\":" ++ (digits ++ (codes ",\"command\":\"run\",\"outcomes\":null"
    ++ members_text true (member name value others)))) ++ line_end) one

-- the text of an object is not empty
pub some_text : (members : Members) → 1 ≤ length (object_text (object members))
unfolding object_text
some_text members = omega arith
