-- The widths of operands.
use Rattle.std.specs.Prelude.{ℕ}
use Rattle.ia_word.specs.declared.width.Width.{Width}
use Rattle.ia_word.specs.declared.width.Width.TheVariants.{B, D}

-- how many bits an operand of this width has
abbrev pub bits_of : Width → ℕ
bits_of B = 8
bits_of D = 32

-- how many bytes it takes in memory
abbrev pub bytes_of : Width → ℕ
bytes_of B = 1
bytes_of D = 4
