-- What a file gives that is read, and holds that is written.
use Rattle.std.specs.Prelude.{◌≡◌, ◌≤◌, ◌<◌, ⊤, ℕ, List, length, Option, Some, None, IfSome}
use Rattle.elide_program.specs.declared.fault.ProgramFault.{ProgramFault}
use Rattle.elide_program.specs.declared.fault.ProgramRefusal.{ProgramRefusal}
use Rattle.elide_program.specs.declared.fault.ProgramRefusal.TheVariants.{Fault}
use Rattle.elide_program.specs.declared.paths.ReadFault.{ReadFault}
use Rattle.elide_program.specs.declared.paths.ReadFault.TheVariants.{Failed, TooLong, NoMemory}

-- of a file whose content is known, these bytes are the content, which is no longer than asked for
abbrev pub Gives : Option (List ℕ) → ℕ → List ℕ → Type 0
Gives None most bytes = ⊤
Gives (Some content) most bytes = (bytes ≡ content) × (length content ≤ most)

-- it is too long only where its content is longer
abbrev pub Refuses : Option (List ℕ) → ℕ → ReadFault → Type 0
Refuses None most fault = ⊤
Refuses (Some content) most (Failed obstacle) = ⊤
Refuses (Some content) most TooLong = most < length content
Refuses (Some content) most NoMemory = ⊤

-- 640 MiB
abbrev pub most_bytes : ℕ
most_bytes = 671088640

-- the refusal tells why a file of at most 640 MiB was not read
abbrev pub Tells : (ReadFault → ProgramFault) → Option (List ℕ) → ProgramRefusal → Type 0
Tells told content refusal =
    (fault : ReadFault) × (refusal ≡ Fault (told fault)) × Refuses content most_bytes fault

-- a text was told, and it is what a file holds, where its content is known
abbrev pub IsWritten : (List ℕ → Type 0) → Option (List ℕ) → Type 0
IsWritten tells held = (text : List ℕ) × tells text × IfSome held (λ bytes. bytes ≡ text)

-- a text is not written: nothing of it was told, it broke off, or it was told whole and lost
pub data IsNotWritten {Text : Type 0} (tells : Text → Text → List ℕ → Type 0) (breaks : Text → Text → Type 0)
    (before after : Text) : Type 0 where
  untold : after ≡ before → IsNotWritten tells breaks before after
  broken : breaks before after → IsNotWritten tells breaks before after
  lost : (text : List ℕ) → tells before after text → IsNotWritten tells breaks before after
