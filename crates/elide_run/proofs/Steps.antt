-- Steps that are made and told: the machine goes on by each, and their lines stand one behind the other.
use Rattle.std.proofs.Common.{◌≡◌, ℕ, Bool, true, false, List, [], ◌∷◌, ◌++◌, sym, ap, subst, append-nil}
use Rattle.std.proofs.lemmas.List.Concat.{flat_map-append}
use Rattle.text_out.proofs.Writing.{wrote_none, wrote_then}
use Rattle.text_out.specs.Writing.{Device, Wrote}
use Rattle.elide_setup.specs.Runs.{AreMachineSteps}
use Rattle.tm_core.specs.Theorem.{ShownMachine as Machine}
use Rattle.tm_hist.specs.Lines.{outcome_line}
use Rattle.tm_model.specs.declared.outcome.Outcome.{Outcome}
use Rattle.tm_model.specs.declared.outcome.Pick.{Pick}
use Rattle.elide_setup.specs.Walks.{Leads, PartsLead, steps_in}
use Rattle.elide_why.proofs.Steps.{same_device}
use Rattle.elide_run.specs.Printed.{outcome_lines, trace_text}

-- where the outcome of each is written
pub record Traced (before after : Machine) (first last : Device) (steps : List (Pick × Outcome)) : Type 0 where
  pub leads : Leads AreMachineSteps before steps after
  pub wrote : Wrote first last (outcome_lines steps)

parts_traced : {Maker : Type 0} {takes : Maker → List (Pick × Outcome) → Maker → Type 0}
    (parts : List (List (Pick × Outcome))) (a b : Maker) → PartsLead takes a parts b →
    (machine : Maker → Machine) (page : Maker → Device)
    (each : (a : Maker) (steps : List (Pick × Outcome)) (b : Maker) → takes a steps b
    → AreMachineSteps (machine a) steps (machine b) × Wrote (page a) (page b) (outcome_lines steps)) →
    PartsLead AreMachineSteps (machine a) parts (machine b) × Wrote (page a) (page b) (outcome_lines (steps_in parts))
parts_traced {Maker} {takes} [] a b h machine page each = (ap machine h, same_device (page a) (page b) (ap page h))
parts_traced {Maker} {takes} (part ∷ parts) a b h machine page each =
    let one = each a part h.0 h.1 in
    let more = parts_traced parts h.0 b h.2 machine page each in (
      (machine h.0, one.0, more.0),
      subst (λ (text : List ℕ). Wrote (page a) (page b) text)
          (sym (flat_map-append (λ (made : Pick × Outcome). outcome_line made.0.core made.1) part (steps_in parts)))
          (wrote_then one.1 more.1),
    )

pub traced : {Maker : Type 0} {takes : Maker → List (Pick × Outcome) → Maker → Type 0} (steps : List (Pick × Outcome))
    (a b : Maker) → Leads takes a steps b →
    (machine : Maker → Machine) (page : Maker → Device)
    (each : (a : Maker) (steps : List (Pick × Outcome)) (b : Maker) → takes a steps b
    → AreMachineSteps (machine a) steps (machine b) × Wrote (page a) (page b) (outcome_lines steps)) →
    Traced (machine a) (machine b) (page a) (page b) steps
traced {Maker} {takes} steps a b h machine page each =
    let all = parts_traced h.0 a b h.2 machine page each in record {
      leads = (h.0, h.1, all.0);
      wrote = subst (λ (l : List (Pick × Outcome)). Wrote (page a) (page b) (outcome_lines l)) h.1 all.1;
    }

-- the line of one step
pub wrote_one : (a b : Device) (pick : Pick) (outcome : Outcome) → Wrote a b (outcome_line pick.core outcome)
    → Wrote a b (outcome_lines ((pick, outcome) ∷ []))
wrote_one a b pick outcome h =
    subst (λ (text : List ℕ). Wrote a b text) (sym (append-nil (outcome_line pick.core outcome))) h

-- the lines of outcomes, where they are not asked for, and where they are
pub wrote_untraced : (a : Device) (traces : Bool) (steps : List (Pick × Outcome)) → traces ≡ false
    → Wrote a a (trace_text traces steps)
wrote_untraced a true steps e = cc
wrote_untraced a false steps e = wrote_none a

pub wrote_traced : (a b : Device) (traces : Bool) (steps : List (Pick × Outcome)) → traces ≡ true
    → Wrote a b (outcome_lines steps) → Wrote a b (trace_text traces steps)
wrote_traced a b true steps e h = h
wrote_traced a b false steps e h = cc
