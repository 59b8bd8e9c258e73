-- Steps that are made one after another, or several at once.
use Rattle.std.specs.Prelude.{◌≡◌, List, [], ◌∷◌}
use Rattle.std.specs.List.{flat_map}
use Rattle.tm_model.specs.declared.outcome.Outcome.{Outcome}
use Rattle.tm_model.specs.declared.outcome.Pick.{Pick}

-- parts of some steps each, each step a pick and its outcome, lead from one state of what makes them to another
abbrev pub PartsLead : {Maker : Type 0} → (Maker → List (Pick × Outcome) → Maker → Type 0) → Maker
    → List (List (Pick × Outcome)) → Maker → Type 0
PartsLead takes before [] after = after ≡ before
PartsLead takes before (part ∷ parts) after =
    (next : _) × takes before part next × PartsLead takes next parts after

-- the steps of such parts
abbrev pub steps_in : List (List (Pick × Outcome)) → List (Pick × Outcome)
steps_in parts = flat_map (λ part. part) parts

-- these steps lead from one to the other, made part by part
abbrev pub Leads : {Maker : Type 0} → (Maker → List (Pick × Outcome) → Maker → Type 0) → Maker → List (Pick × Outcome)
    → Maker → Type 0
Leads takes before steps after =
    (parts : List (List (Pick × Outcome))) × (steps_in parts ≡ steps) × PartsLead takes before parts after
