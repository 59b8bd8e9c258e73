-- How a refusal is told on the device for errors (docs/FORMATS.md, "Options of the command line", "Colours").
use Rattle.std.specs.Prelude.{Bool, ℕ, List, ◌++◌, [], ◌∷◌, codes}
use Rattle.elide_color.specs.Painting.{painted}
use Rattle.elide_color.specs.declared.style.Style.TheVariants as style
use Rattle.elide_setup.specs.Told.{fault_back, fault_front}
use Rattle.elide_setup.specs.declared.fault.Refusal.{Refusal}
use Rattle.elide_setup.specs.declared.fault.Refusal.TheVariants.{Fault, Usage}

-- a fault's number, some name and the line of a text, if any; or the misused option; painted or not
abbrev pub refusal_text : Bool → Refusal → List ℕ → List ℕ
refusal_text is_painted (Fault fault) name =
    painted is_painted style.Fault (fault_front fault) ++ name ++ fault_back fault
refusal_text is_painted (Usage option) name =
    painted is_painted style.Fault (codes "usage: ") ++ (option.now ++ 10 ∷ [])
