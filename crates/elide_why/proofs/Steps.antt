-- Steps that are made and told: the machine goes on by each, and their lines stand one behind the other.
use Rattle.std.proofs.Common.{◌≡◌, ℕ, List, [], ◌∷◌, ◌++◌, ap, subst, sym}
use Rattle.text_out.proofs.Writing.{wrote_none, wrote_then}
use Rattle.text_out.specs.Writing.{Device, Wrote}
use Rattle.elide_setup.specs.Runs.{AreMachineSteps}
use Rattle.elide_setup.specs.Walks.{Leads, PartsLead}
use Rattle.tm_core.specs.Theorem.{ShownMachine as Machine}
use Rattle.tm_model.specs.declared.outcome.Outcome.{Outcome}
use Rattle.tm_model.specs.declared.outcome.Pick.{Pick}

pub same_device : (a b : Device) → b ≡ a → Wrote a b []
same_device a b e = subst (λ (d : Device). Wrote a d []) (sym e) (wrote_none a)

-- where some text of each is
pub record Told (before after : Machine) (first last : Device) (steps : List (Pick × Outcome)) : Type 0 where
  pub leads : Leads AreMachineSteps before steps after
  pub text : List ℕ
  pub wrote : Wrote first last text

parts_told : {Maker : Type 0} {takes : Maker → List (Pick × Outcome) → Maker → Type 0}
    (parts : List (List (Pick × Outcome))) (a b : Maker) → PartsLead takes a parts b →
    (machine : Maker → Machine) (page : Maker → Device)
    (each : (a : Maker) (steps : List (Pick × Outcome)) (b : Maker) → takes a steps b
    → AreMachineSteps (machine a) steps (machine b) × (text : List ℕ) × Wrote (page a) (page b) text) →
    PartsLead AreMachineSteps (machine a) parts (machine b) × (text : List ℕ) × Wrote (page a) (page b) text
parts_told {Maker} {takes} [] a b h machine page each = (ap machine h, [], same_device (page a) (page b) (ap page h))
parts_told {Maker} {takes} (part ∷ parts) a b h machine page each =
    let one = each a part h.0 h.1 in
    let more = parts_told parts h.0 b h.2 machine page each in
    ((machine h.0, one.0, more.0), one.1 ++ more.1, wrote_then one.2 more.2)

pub told : {Maker : Type 0} {takes : Maker → List (Pick × Outcome) → Maker → Type 0} (steps : List (Pick × Outcome))
    (a b : Maker) → Leads takes a steps b →
    (machine : Maker → Machine) (page : Maker → Device)
    (each : (a : Maker) (steps : List (Pick × Outcome)) (b : Maker) → takes a steps b
    → AreMachineSteps (machine a) steps (machine b) × (text : List ℕ) × Wrote (page a) (page b) text) →
    Told (machine a) (machine b) (page a) (page b) steps
told {Maker} {takes} steps a b h machine page each =
    let all = parts_told h.0 a b h.2 machine page each in
    record { leads = (h.0, h.1, all.0); text = all.1; wrote = all.2 }
