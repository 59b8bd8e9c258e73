-- An option that is misused.
use Rattle.std.specs.Prelude.{◌≡◌, ℕ, List}
use Rattle.elide_setup.specs.declared.fault.Refusal.{Refusal}
use Rattle.elide_setup.specs.declared.fault.Refusal.TheVariants as refusal

-- it is the option of this name
abbrev pub IsMisuse : List ℕ → Refusal → Type 0
IsMisuse name (refusal.Fault why) = ⊥
IsMisuse name (refusal.Usage said) = said.now ≡ name
