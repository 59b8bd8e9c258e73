-- Lines of memory: 64 bytes each.
use Rattle.std.specs.Prelude.{ℕ, ◌+◌, ◌-◌, ◌/◌, List, [], ◌∷◌, ◌==◌, if◌then◌else◌}
use Rattle.ia_word.specs.declared.width.Width.{Width}
use Rattle.ia_word.specs.Width.{bytes_of}

-- the line of an address
abbrev pub line : ℕ → ℕ
line address = address / 64

-- the line of the last byte of an access
abbrev pub last_line : ℕ → Width → ℕ
last_line address width = line (address + (bytes_of width - 1))

-- the lines of an access: one, or two where it crosses a line's end
abbrev pub lines : ℕ → Width → List ℕ
lines address width =
    line address ∷ (if last_line address width == line address then [] else last_line address width ∷ [])
