-- The words that may stand where an instruction's name does: the names of instructions, LOCK, and directives (NASM
-- manual, chapter 7, "Assembler Directives"), in any case; and those that NASM keeps for itself, which no label has.
use Rattle.std.specs.Prelude.{ℕ, Option, Some, None, option_map, List, [], ◌∷◌, codes, take, drop, length, nat_lt}
use Rattle.std.specs.Prelude.{if◌then◌else◌}
use Rattle.ia_word.specs.declared.condition.Condition.{Condition}
use Rattle.ia_insn.specs.declared.mnemonic.Mnemonic.{Mnemonic}
use Rattle.ia_insn.specs.declared.mnemonic.Mnemonic.TheVariants.{Jcc, Setcc, Cmovcc}
use Rattle.ia_insn.specs.Operations.{arithmetic, moves, jumps, bare_names, conditions, other_names, other_conditions}
use Rattle.ia_insn.specs.Mnemonics.{stem}
use Rattle.ia_insn.specs.Operations.{condition_name}
use Rattle.ia_lex.specs.Words.{is_word, find_word}
use Rattle.ia_source.specs.declared.directive.Directive.TheVariants as directive
use Rattle.ia_source.specs.declared.directive.Keyword.{Keyword}
use Rattle.ia_source.specs.declared.directive.Keyword.TheVariants.{Mnemonic as Name, Lock, Directive, Reserved}

abbrev pub or_else : {A : Type 0} → Option A → Option A → Option A
or_else None b = b
or_else (Some a) b = Some a

-- the first of these whose name a word is
abbrev pub find_named : {A : Type 0} → (A → List ℕ) → List A → List ℕ → Option A
find_named name [] w = None
find_named name (x ∷ xs) w = if is_word (name x) w then Some x else find_named name xs w

unfoldable pub condition_of : List ℕ → Option Condition
condition_of w = or_else (find_named condition_name conditions w) (find_word other_conditions w)

-- the condition behind this front of a word
abbrev pub condition_behind : List ℕ → List ℕ → Option Condition
condition_behind front w =
    if nat_lt (length w) (length front) then None
    else if is_word front (take (length front) w) then condition_of (drop (length front) w) else None

-- j, set and cmov with a condition
unfoldable pub conditional : List ℕ → Option Mnemonic
conditional w = or_else (option_map Jcc (condition_behind (codes "j") w))
    (or_else (option_map Setcc (condition_behind (codes "set") w))
    (option_map Cmovcc (condition_behind (codes "cmov") w)))

unfoldable pub unconditional : List ℕ → Option Mnemonic
unconditional w = or_else (find_named stem moves w) (or_else (find_named stem arithmetic w)
    (or_else (find_named stem jumps w) (find_named stem bare_names w)))

-- the instruction that a word names
unfoldable pub mnemonic_named : List ℕ → Option Mnemonic
mnemonic_named w = or_else (unconditional w) (or_else (conditional w) (find_word other_names w))

abbrev pub orders : List (List ℕ × Keyword)
orders =
    (codes "lock", Lock) ∷ (codes "section", Directive directive.Section) ∷ (codes "org", Directive directive.Org)
    ∷ (codes "bits", Directive directive.Bits) ∷ (codes "global", Directive directive.Global)
    ∷ (codes "db", Directive directive.Db) ∷ (codes "dd", Directive directive.Dd)
    ∷ (codes "resb", Directive directive.Resb) ∷ (codes "align", Directive directive.Align)
    ∷ (codes "equ", Directive directive.Equ) ∷ []

-- prefixes that no instruction has here, and TIMES (NASM manual, "Layout of a NASM Source Line")
abbrev pub prefixes : List (List ℕ × Keyword)
prefixes =
    (codes "rep", Reserved) ∷ (codes "repe", Reserved) ∷ (codes "repz", Reserved) ∷ (codes "repne", Reserved)
    ∷ (codes "repnz", Reserved) ∷ (codes "xacquire", Reserved) ∷ (codes "xrelease", Reserved) ∷ (codes "bnd", Reserved)
    ∷ (codes "nobnd", Reserved) ∷ (codes "a16", Reserved) ∷ (codes "a32", Reserved) ∷ (codes "o16", Reserved)
    ∷ (codes "o32", Reserved) ∷ (codes "wait", Reserved) ∷ (codes "times", Reserved) ∷ []

-- segment registers, which are prefixes, too, registers of 16 bits, and sizes
abbrev pub registers_and_sizes : List (List ℕ × Keyword)
registers_and_sizes =
    (codes "es", Reserved) ∷ (codes "cs", Reserved) ∷ (codes "ss", Reserved) ∷ (codes "ds", Reserved)
    ∷ (codes "fs", Reserved) ∷ (codes "gs", Reserved) ∷ (codes "ax", Reserved) ∷ (codes "cx", Reserved)
    ∷ (codes "dx", Reserved) ∷ (codes "bx", Reserved) ∷ (codes "sp", Reserved) ∷ (codes "bp", Reserved)
    ∷ (codes "si", Reserved) ∷ (codes "di", Reserved) ∷ (codes "byte", Reserved) ∷ (codes "word", Reserved)
    ∷ (codes "dword", Reserved) ∷ (codes "qword", Reserved) ∷ []

unfoldable pub reserved_of : List ℕ → Option Keyword
reserved_of w = or_else (find_word prefixes w) (find_word registers_and_sizes w)

unfoldable pub order_of : List ℕ → Option Keyword
order_of w = or_else (find_word orders w) (reserved_of w)

-- what a word is where an instruction's name may stand
unfoldable pub keyword_of : List ℕ → Option Keyword
keyword_of w = or_else (option_map Name (mnemonic_named w)) (order_of w)
