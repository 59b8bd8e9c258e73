-- Steps that are made and whose outcomes are written: the machine goes on by each, and the outcomes stand one behind
-- the other.
use Rattle.std.proofs.Common.{◌≡◌, ℕ, ◌+◌, Bool, true, false, List, [], ◌∷◌, ◌++◌, ap, append-nil, length, subst, sym}
use Rattle.elide_json.proofs.RunTexts.{rows_behind}
use Rattle.elide_json.specs.Outcomes.{row_text, rows_text, run_front, run_rows}
use Rattle.elide_setup.specs.Runs.{AreMachineSteps}
use Rattle.tm_core.specs.Theorem.{ShownMachine as Machine}
use Rattle.elide_setup.specs.Walks.{Leads, PartsLead, steps_in}
use Rattle.text_out.proofs.Writing.{wrote_then}
use Rattle.text_out.specs.Writing.{Device, Wrote}
use Rattle.tm_model.specs.declared.outcome.Outcome.{Outcome}
use Rattle.tm_model.specs.declared.outcome.Pick.{Pick}
use Rattle.elide_why.proofs.Steps.{same_device}

pub record Rowed (before after : Machine) (first last : Device) (others : ℕ)
    (steps : List (Pick × Outcome)) : Type 0 where
  pub leads : Leads AreMachineSteps before steps after
  pub wrote : Wrote first last (rows_text others steps)

parts_rowed : {Maker : Type 0} {takes : Maker → List (Pick × Outcome) → Maker → Type 0}
    (parts : List (List (Pick × Outcome))) (a b : Maker) →
    PartsLead takes a parts b → (machine : Maker → Machine) (page : Maker → Device) (made : Maker → ℕ)
    (each :
    (a : Maker) (steps : List (Pick × Outcome)) (b : Maker) → takes a steps b
    → AreMachineSteps (machine a) steps (machine b)
    × Wrote (page a) (page b) (rows_text (made a) steps) × (made b ≡ made a + length steps)) →
    PartsLead AreMachineSteps (machine a) parts (machine b)
    × Wrote (page a) (page b) (rows_text (made a) (steps_in parts))
parts_rowed {Maker} {takes} [] a b h machine page made each = (ap machine h, same_device (page a) (page b) (ap page h))
parts_rowed {Maker} {takes} (part ∷ parts) a b h machine page made each =
    let one = each a part h.0 h.1 in
    let more = parts_rowed parts h.0 b h.2 machine page made each in
    let rest : Wrote (page h.0) (page b) (rows_text (made a + length part) (steps_in parts)) =
    subst (λ (n : ℕ). Wrote (page h.0) (page b) (rows_text n (steps_in parts))) one.2 more.1 in (
      (machine h.0, one.0, more.0),
      subst (λ (text : List ℕ). Wrote (page a) (page b) text) (sym (rows_behind (made a) part (steps_in parts)))
          (wrote_then one.1 rest),
    )

pub rowed : {Maker : Type 0} {takes : Maker → List (Pick × Outcome) → Maker → Type 0}
    (steps : List (Pick × Outcome)) (a b : Maker) →
    Leads takes a steps b → (machine : Maker → Machine) (page : Maker → Device) (made : Maker → ℕ)
    (each :
    (a : Maker) (steps : List (Pick × Outcome)) (b : Maker) → takes a steps b
    → AreMachineSteps (machine a) steps (machine b)
    × Wrote (page a) (page b) (rows_text (made a) steps) × (made b ≡ made a + length steps)) →
    Rowed (machine a) (machine b) (page a) (page b) (made a) steps
rowed {Maker} {takes} steps a b h machine page made each =
    let all = parts_rowed h.0 a b h.2 machine page made each in record {
      leads = (h.0, h.1, all.0);
      wrote = subst (λ (l : List (Pick × Outcome)). Wrote (page a) (page b) (rows_text (made a) l)) h.1 all.1;
    }

-- the outcome of one step
pub row_one : (a b : Device) (before number : ℕ) (pick : Pick) (outcome : Outcome) → number ≡ before + 1 →
    Wrote a b (row_text number pick.core outcome) → Wrote a b (rows_text before ((pick, outcome) ∷ []))
row_one a b before number pick outcome e h =
    let row = row_text (before + 1) pick.core outcome in
    subst (λ (text : List ℕ). Wrote a b text) (sym (append-nil row))
    (subst (λ (n : ℕ). Wrote a b (row_text n pick.core outcome)) e h)

-- where they are not asked for, and where they are
pub wrote_no_rows : (a b : Device) (traces : Bool) (steps : List (Pick × Outcome)) → traces ≡ false
    → Wrote a b (run_front traces) →
    Wrote a b (run_front traces ++ run_rows traces steps)
wrote_no_rows a b true steps e h = cc
wrote_no_rows a b false steps e h = subst (λ (text : List ℕ). Wrote a b text) (sym (append-nil (run_front false))) h

pub wrote_rows : (a b c : Device) (traces : Bool) (steps : List (Pick × Outcome)) → traces ≡ true
    → Wrote a b (run_front traces) →
    Wrote b c (rows_text 0 steps) → Wrote a c (run_front traces ++ run_rows traces steps)
wrote_rows a b c true steps e h k = wrote_then h k
wrote_rows a b c false steps e h k = cc
