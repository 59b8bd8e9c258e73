-- Parts of which one side says no item.
use Rattle.std.proofs.Common.{◌≡◌, ℕ, ◌<◌, Bool, Bor, List, Option, None, Some, ◌⊎◌, get_or, inl, inr, length}
use Rattle.std.proofs.lemmas.List.Elements.{Contains-get_or}
use Rattle.std.specs.Prelude.{MatchOption}
use Rattle.std.specs.Str.{trim}
use Rattle.elide_program.specs.declared.file.ProgramFile.{ProgramFile}
use Rattle.elide_setup.specs.Faults.{want}
use Rattle.elide_setup.specs.declared.fault.Refusal.{Refusal}
use Rattle.tm_check.specs.declared.clause.RunClause.{RunClause}
use Rattle.tm_condition.specs.declared.comparison.Comparison.{Comparison}
use Rattle.elide_checks.specs.Conditions.{IsClause, IsCompared}
use Rattle.elide_checks.specs.Misread.{IsNoClause, IsNoItem, no_left, no_right}
use Rattle.elide_checks.specs.Refused.{HasMisreadText, IsMisreadText}
use Rattle.elide_checks.proofs.Zips.{no_text}

no_side : (file : ProgramFile) (text before behind : List ℕ) (comparison : Comparison)
    → IsCompared text before comparison behind →
    IsNoItem file (trim before) ⊎ IsNoItem file (trim behind) → IsNoClause file text
no_side file text before behind comparison sides (inl none) = no_left before behind comparison sides none
no_side file text before behind comparison sides (inr none) = no_right before behind comparison sides none

-- what the comparison of two sides is of the part that has them
pub of_sides : (file : ProgramFile) (constants : List ℕ → Bool) (text before behind : List ℕ) (comparison : Comparison)
    (found : Option RunClause) →
    IsCompared text before comparison behind →
    MatchOption found (IsNoItem file (trim before) ⊎ IsNoItem file (trim behind))
    (λ clause. (other : List ℕ) → IsCompared other before comparison behind → IsClause file constants other clause) →
    MatchOption found (IsNoClause file text) (IsClause file constants text)
of_sides file constants text before behind comparison None sides none =
    no_side file text before behind comparison sides none
of_sides file constants text before behind comparison (Some clause) sides is = is text sides

-- a text is none for another's sake
pub as_well : {A B : Type 0} (name : List ℕ) (why : Refusal) → (A → B) → IsMisreadText A name why
    → IsMisreadText B name why
as_well name why f (inl h) = inl (f h.0, h.1)
as_well name why f (inr want) = inr want

-- one of some texts is none
pub among_texts : (Rule : List ℕ → Type 0) (texts : List (Bor (List ℕ))) (i : ℕ) (name : List ℕ) (why : Refusal)
    → i < length texts →
    IsMisreadText (Rule (get_or texts i no_text).now) name why → HasMisreadText Rule texts name why ⊎ (why ≡ want)
among_texts Rule texts i name why below (inl h) = inl (record {
  text = get_or texts i no_text;
  among = Contains-get_or texts i no_text below;
  none = h.0;
  named = h.1;
})
among_texts Rule texts i name why below (inr w) = inr w
