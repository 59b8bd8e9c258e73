-- The one spelling of an operand that is written.
use Rattle.std.specs.Prelude.{ℕ, ◌+◌, ◌-◌, ◌*◌, ◌%◌, ◌^◌, Bool, true, false, not, List, [], ◌∷◌, Option, Some, None}
use Rattle.std.specs.Prelude.{if◌then◌else◌, nat_lt, nat_le, ◌==◌, ◌&&◌, ◌||◌}
use Rattle.ia_word.specs.Bytes.{long_bytes}
use Rattle.ia_word.specs.Register.{ESP}
use Rattle.ia_insn.specs.declared.operand.Mem.{Mem}
use Rattle.ia_insn.specs.declared.operand.Operand.{Operand}
use Rattle.ia_insn.specs.declared.operand.Operand.TheVariants.{Reg, Imm, Mem as Memory}

-- ---- what can be written

abbrev pub fits_base : Option ℕ → Bool
fits_base None = true
fits_base (Some register) = nat_lt register 8

abbrev pub fits_index : Option ℕ → ℕ → Bool
fits_index None scale = scale == 1
fits_index (Some register) scale =
    nat_lt register 8 && not (register == ESP) && (scale == 1 || scale == 2 || scale == 4 || scale == 8)

abbrev pub fits_mem : Mem → Bool
fits_mem place = fits_base place.base && fits_index place.index place.scale && nat_lt place.disp (2 ^ 32)

-- a register or a place in memory
abbrev pub fits_operand : Operand → Bool
fits_operand (Reg register) = nat_lt register 8
fits_operand (Memory place) = fits_mem place
fits_operand (Imm number) = false

-- ---- bytes

-- a ModRM or SIB byte
abbrev pub three : ℕ → ℕ → ℕ → ℕ
three high middle low = 64 * high + 8 * middle + low

-- a sign-extended byte
abbrev pub is_signed_byte : ℕ → Bool
is_signed_byte number = nat_lt number 128 || nat_le (2 ^ 32 - 128) number

-- mod, with a base; where the displacement is wide it takes 32 bits whatever it is
abbrev pub mode_for : Bool → ℕ → ℕ → ℕ
mode_for wide base disp =
    if wide then 2 else if disp == 0 && not (base == 5) then 0 else if is_signed_byte disp then 1 else 2

abbrev pub disp_bytes : ℕ → ℕ → List ℕ
disp_bytes mode disp = if mode == 0 then [] else if mode == 1 then disp % 256 ∷ [] else long_bytes disp

abbrev pub scale_bits : ℕ → ℕ
scale_bits scale = if scale == 1 then 0 else if scale == 2 then 1 else if scale == 4 then 2 else 3

unfoldable pub place_bytes : Bool → ℕ → Option ℕ → Option ℕ → ℕ → ℕ → List ℕ
place_bytes wide reg None None scale disp = three 0 reg 5 ∷ long_bytes disp
place_bytes wide reg None (Some i) scale disp = three 0 reg 4 ∷ three (scale_bits scale) i 5 ∷ long_bytes disp
place_bytes wide reg (Some b) None scale disp =
    if b == 4 then three (mode_for wide b disp) reg 4 ∷ three 0 4 4 ∷ disp_bytes (mode_for wide b disp) disp
    else three (mode_for wide b disp) reg b ∷ disp_bytes (mode_for wide b disp) disp
place_bytes wide reg (Some b) (Some i) scale disp =
    three (mode_for wide b disp) reg 4 ∷ three (scale_bits scale) i b ∷ disp_bytes (mode_for wide b disp) disp

-- a ModRM byte with this reg field, and what stands behind it
unfoldable pub operand_bytes : Bool → ℕ → Operand → List ℕ
operand_bytes wide reg (Reg register) = three 3 reg register ∷ []
operand_bytes wide reg (Memory place) = place_bytes wide reg place.base place.index place.scale place.disp
operand_bytes wide reg (Imm n) = []
