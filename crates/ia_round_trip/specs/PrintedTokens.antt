-- The tokens of what is printed.
use Rattle.std.specs.Prelude.{◌≡◌, ℕ, Bool, ◌==◌, ◌&&◌, ◌||◌, if◌then◌else◌, is_some, Option, Some, None, List, [], ◌∷◌}
use Rattle.std.specs.Prelude.{◌++◌, codes}
use Rattle.ia_word.specs.declared.width.Width.TheVariants.{D}
use Rattle.ia_insn.specs.declared.op.Op.{Op}
use Rattle.ia_insn.specs.declared.op.Insn.{Insn}
use Rattle.ia_insn.specs.declared.operand.Mem.{Mem}
use Rattle.ia_lex.specs.Numbers.{small}
use Rattle.ia_lex.specs.Tokens.{Lexeme, Word, Number, Mark, tokens_of}
use Rattle.ia_text.specs.declared.arg.Arg.{Arg}
use Rattle.ia_text.specs.declared.arg.Arg.TheVariants as arg
use Rattle.ia_insn.specs.Mnemonics.{mnemonic_of, name_of}
use Rattle.ia_text.specs.Names.{register_name, size_name}
use Rattle.ia_text.specs.Arguments.{first_arg, second_arg, third_arg}
use Rattle.ia_text.specs.Text.{insn_text}

abbrev pub plus_tokens : Bool → List Lexeme
plus_tokens b = if b then Mark 43 ∷ [] else []

abbrev pub base_tokens : Option ℕ → List Lexeme
base_tokens None = []
base_tokens (Some r) = Word (register_name D r) ∷ []

abbrev pub scale_value : ℕ → ℕ
scale_value s = if s == 1 then 1 else if s == 2 then 2 else if s == 4 then 4 else 8

abbrev pub index_tokens : Bool → Option ℕ → ℕ → List Lexeme
index_tokens before None scale = []
index_tokens before (Some r) scale = plus_tokens before ++ (Word (register_name D r) ∷ []) ++
    (Mark 42 ∷ []) ++ Number (Some (scale_value scale)) ∷ []

abbrev pub disp_tokens : Bool → ℕ → List Lexeme
disp_tokens before disp = if before && (disp == 0) then [] else (plus_tokens before ++ Number (small disp) ∷ [])

abbrev pub mem_tokens : Mem → List Lexeme
mem_tokens m = (Mark 91 ∷ []) ++ base_tokens m.base ++ index_tokens (is_some m.base) m.index m.scale
    ++ disp_tokens (is_some m.base || is_some m.index) m.disp ++ Mark 93 ∷ []

abbrev pub arg_tokens : Arg → List Lexeme
arg_tokens (arg.Register w r) = Word (register_name w r) ∷ []
arg_tokens (arg.Place w m) = ((Word (size_name w) ∷ []) ++ []) ++ mem_tokens m
arg_tokens (arg.Address m) = mem_tokens m
arg_tokens (arg.Number n) = Number (small n) ∷ []
arg_tokens (arg.Short n) = (Word (codes "short") ∷ []) ++ Number (small n) ∷ []
arg_tokens arg.Cl = Word (codes "cl") ∷ []

abbrev pub behind_tokens : List Lexeme → Option Arg → List Lexeme
behind_tokens gap None = []
behind_tokens gap (Some a) = gap ++ arg_tokens a

abbrev pub args_tokens : Op → ℕ → List Lexeme
args_tokens o at = behind_tokens [] (first_arg o at) ++ behind_tokens (Mark 44 ∷ []) (second_arg o at) ++ behind_tokens
    (Mark 44 ∷ []) (third_arg o at)

abbrev pub op_tokens : Op → ℕ → List Lexeme
op_tokens o at = Word (name_of (mnemonic_of o)) ∷ args_tokens o at

abbrev pub insn_tokens : Insn → ℕ → List Lexeme
insn_tokens i at = (if i.lock then Word (codes "lock") ∷ [] else []) ++ op_tokens i.op at

-- the text of an instruction has these tokens
abbrev pub TextHasItsTokens : Type 0
TextHasItsTokens = (i : Insn) (at : ℕ) → tokens_of (insn_text i at) ≡ Some (insn_tokens i at)
