-- Why an object is not written (docs/FAULTS.md).
use Rattle.std.specs.Prelude.{◌≡◌, ℕ, ◌⊎◌, Bool, false, List, length}
use Rattle.elide_program.specs.declared.parts.MemoryParts.{MemoryParts}
use Rattle.elide_setup.specs.Faults.{want}
use Rattle.elide_setup.specs.Refused.{IsUnwritten}
use Rattle.elide_setup.specs.Shown.{are_held}
use Rattle.elide_setup.specs.declared.fault.Fault.TheVariants as fault
use Rattle.elide_setup.specs.declared.fault.Refusal.{Refusal}
use Rattle.elide_setup.specs.declared.fault.Refusal.TheVariants as refusal

-- parts of a memory are not told: it does not have them all, or there is no memory for what is told
abbrev pub IsNoRow : Bool → Refusal → Type 0
IsNoRow are_held why = ((why ≡ refusal.Fault fault.OutOfRange) × (are_held ≡ false)) ⊎ (why ≡ want)

-- a text is not written, or there is no memory for it
abbrev pub IsUnsaid : Refusal → Type 0
IsUnsaid why = IsUnwritten why ⊎ (why ≡ want)

-- the object of a machine is not written: its memory does not have what is to be printed of it, or the same
abbrev pub IsUnsent : List ℕ → MemoryParts → Refusal → Type 0
IsUnsent memory parts why = IsNoRow (are_held (length memory) parts) why ⊎ IsUnsaid why
