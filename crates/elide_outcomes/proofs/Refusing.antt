-- Why a search is refused.
use Rattle.std.proofs.Common.{◌≡◌, ◌⊎◌, inl, inr, ℕ, Bool, List, Option, Some, Result, Ok, Err, codes}
use Rattle.std.specs.Prelude.{IfErr, MatchResult}
use Rattle.elide_program.specs.declared.file.ProgramFile.{ProgramFile}
use Rattle.elide_setup.specs.Faults.{want}
use Rattle.elide_setup.specs.Misuse.{IsMisuse}
use Rattle.elide_setup.specs.declared.fault.Refusal.{Refusal}
use Rattle.elide_outcomes.specs.Items.{HasNoItem}
use Rattle.elide_outcomes.specs.Refused.{AreNoItems, no_item, no_memory}

pub either_weaker : {X Y : Type 0} (r : Result X Y) (P P' : X → Type 0) (Q Q' : Y → Type 0) → ((x : X) → P x → P' x) →
    ((y : Y) → Q y → Q' y) → MatchResult r P Q → MatchResult r P' Q'
either_weaker (Ok x) P P' Q Q' f g h = f x h
either_weaker (Err y) P P' Q Q' f g h = g y h

pub err_weaker : {X Y : Type 0} (r : Result X Y) (Q Q' : Y → Type 0) → ((y : Y) → Q y → Q' y) → IfErr r Q → IfErr r Q'
err_weaker (Ok x) Q Q' g h = tt
err_weaker (Err y) Q Q' g h = g y h

-- a text of `--show`
pub items_refused : (file : ProgramFile) (is_wanted : Bool) (option : Option (List ℕ)) (text : List ℕ) (why : Refusal)
    → option ≡ Some text →
    (HasNoItem file text × IsMisuse (codes "--show") why) ⊎ (why ≡ want) → AreNoItems file is_wanted option why
items_refused file is_wanted option text why given (inl h) = no_item text given h.0 h.1
items_refused file is_wanted option text why given (inr wanting) = no_memory wanting
