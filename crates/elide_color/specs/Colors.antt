-- When text is painted (docs/FORMATS.md, "Colours").
use Rattle.std.specs.Prelude.{◌≡◌, ◌⊎◌, ℕ, Bool, false, true, not, ◌&&◌, List, Option, Some, None, codes}
use Rattle.elide_color.specs.declared.colors.When.{When}
use Rattle.elide_color.specs.declared.colors.When.TheVariants.{Always, Auto, Never}

-- what the value of `--color` says: nothing is as `auto`, and another word says nothing
abbrev pub Says : Option (List ℕ) → Option When → Type 0
Says value (Some Auto) = (value ≡ None) ⊎ (value ≡ Some (codes "auto"))
Says value (Some Always) = value ≡ Some (codes "always")
Says value (Some Never) = value ≡ Some (codes "never")
Says value None = (value ≡ None → ⊥) × (value ≡ Some (codes "auto") → ⊥) × (value ≡ Some (codes "always") → ⊥)
    × (value ≡ Some (codes "never") → ⊥)

-- whether text on a device is painted, by whether that is a terminal's and whether NO_COLOR is set
abbrev pub is_painted : When → Bool → Bool → Bool
is_painted Always _ _ = true
is_painted Never _ _ = false
is_painted Auto terminal plain = terminal && not plain
