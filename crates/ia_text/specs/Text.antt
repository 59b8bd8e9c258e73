-- The text of an instruction at an address: mnemonic and operands in the order of SDM volume 2, memory in brackets as
-- NASM writes it, and numbers as unsigned.
use Rattle.std.specs.Prelude.{ℕ, ◌==◌, Bool, ◌&&◌, ◌||◌, if◌then◌else◌, is_some, Option, Some, None, List, [], ◌++◌}
use Rattle.std.specs.Prelude.{codes}
use Rattle.ia_word.specs.declared.width.Width.TheVariants.{D}
use Rattle.ia_insn.specs.declared.op.Insn.{Insn}
use Rattle.ia_insn.specs.declared.op.Op.{Op}
use Rattle.ia_insn.specs.declared.operand.Mem.{Mem}
use Rattle.ia_text.specs.declared.arg.Arg.{Arg}
use Rattle.ia_text.specs.declared.arg.Arg.TheVariants as arg
use Rattle.text_out.specs.Number.{number}
use Rattle.ia_insn.specs.Mnemonics.{mnemonic_of, name_of}
use Rattle.ia_text.specs.Names.{register_name, size_name}
use Rattle.ia_text.specs.Arguments.{first_arg, second_arg, third_arg}

-- a + where something stands before
abbrev pub plus : Bool → List ℕ
plus before = if before then codes "+" else []

abbrev pub base_text : Option ℕ → List ℕ
base_text None = []
base_text (Some r) = register_name D r

-- 1, 2, 4 or 8
abbrev pub scale_text : ℕ → List ℕ
scale_text scale =
    if scale == 1 then codes "1" else if scale == 2 then codes "2" else if scale == 4 then codes "4" else codes "8"

abbrev pub index_text : Bool → Option ℕ → ℕ → List ℕ
index_text before None scale = []
index_text before (Some r) scale = plus before ++ register_name D r ++ codes "*" ++ scale_text scale

abbrev pub disp_text : Bool → ℕ → List ℕ
disp_text before disp = if before && (disp == 0) then [] else (plus before ++ number disp)

-- [base+index*scale+disp]
unfoldable pub mem_text : Mem → List ℕ
mem_text place = codes "[" ++ base_text place.base ++ index_text (is_some place.base) place.index place.scale
    ++ disp_text (is_some place.base || is_some place.index) place.disp ++ codes "]"

abbrev pub arg_text : Arg → List ℕ
arg_text (arg.Register width r) = register_name width r
arg_text (arg.Place width place) = size_name width ++ codes " " ++ mem_text place
arg_text (arg.Address place) = mem_text place
arg_text (arg.Number n) = number n
arg_text (arg.Short n) = codes "short " ++ number n
arg_text arg.Cl = codes "cl"

-- an operand behind what separates it
abbrev pub behind : List ℕ → Option Arg → List ℕ
behind gap None = []
behind gap (Some argument) = gap ++ arg_text argument

unfoldable pub op_text : Op → ℕ → List ℕ
op_text op at = name_of (mnemonic_of op) ++ behind (codes " ") (first_arg op at)
    ++ behind (codes ", ") (second_arg op at) ++ behind (codes ", ") (third_arg op at)

unfoldable pub insn_text : Insn → ℕ → List ℕ
insn_text insn at = (if insn.lock then codes "lock " else []) ++ op_text insn.op at
