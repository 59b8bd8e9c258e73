-- No line ends within the text of an instruction.
use Rattle.std.proofs.Common.{◌≡◌, ℕ, Bool, true, false, cond, List, [], ◌∷◌, ◌++◌, Option, Some, None, refl, ◌∙◌, ap}
use Rattle.std.proofs.Common.{arith, codes, is_some}
use Rattle.std.specs.Prelude.{◌&&◌, ◌||◌, ◌==◌, nat_lt, nat_le}
use Rattle.std.proofs.lemmas.Bool.{lt-ltb, ltb-true, leb-true, eqb-true, ne_eqb}
use Rattle.ia_insn.specs.declared.op.Op.{Op}
use Rattle.ia_insn.specs.declared.op.Insn.{Insn}
use Rattle.ia_insn.specs.declared.operand.Mem.{Mem}
use Rattle.ia_word.specs.declared.width.Width.{Width}
use Rattle.ia_word.specs.declared.width.Width.TheVariants.{D}
use Rattle.ia_lex.specs.Chars.{is_name, is_digit}
use Rattle.ia_lex.specs.Tokens.{Lexeme, Word, tokens_of}
use Rattle.ia_lex.specs.Lines.{lines_of, onto, begins_with_lf}
use Rattle.ia_text.specs.declared.arg.Arg.{Arg}
use Rattle.ia_text.specs.declared.arg.Arg.TheVariants as arg
use Rattle.text_out.specs.Number.{number}
use Rattle.ia_insn.specs.Mnemonics.{mnemonic_of, name_of}
use Rattle.ia_text.specs.Names.{register_name, size_name}
use Rattle.ia_text.specs.Arguments.{first_arg, second_arg, third_arg}
use Rattle.ia_text.specs.Text.{plus, base_text, scale_text, index_text, disp_text, mem_text, arg_text, behind, op_text}
use Rattle.ia_text.specs.Text.{insn_text}
use Rattle.ia_round_trip.specs.PrintedTokens.{args_tokens}
use Rattle.ia_round_trip.specs.Lines.{TextIsOneLine}
use Rattle.ia_round_trip.proofs.TokenLemmas.{all_by}
use Rattle.ia_round_trip.proofs.Hex.{hex_names}
use Rattle.ia_round_trip.proofs.PrintedTokens.{so, name_all, register_test, size_test, mnemonic_test}
use Rattle.ia_round_trip.proofs.PrintedTokens.{text_has_its_tokens}
use Rattle.ia_round_trip.proofs.MemoryOperands.{two}

abbrev pub value_modulo : ℕ → Bool
value_modulo b = nat_lt 31 b

abbrev pub Shown : List ℕ → Type 0
Shown bs = all_by value_modulo bs ≡ true

-- ---- lines

not_ten : (b : ℕ) → nat_lt 31 b ≡ true → (b == 10) ≡ false
not_ten b h = ne_eqb b 10 (λ e. absurd (omega (arith, ltb-true 31 b h, e)))

not_13 : (b : ℕ) → nat_lt 31 b ≡ true → (b == 13) ≡ false
not_13 b h = ne_eqb b 13 (λ e. absurd (omega (arith, ltb-true 31 b h, e)))

one_byte : (b : ℕ) (bs : List ℕ) → nat_lt 31 b ≡ true → lines_of (b ∷ bs) ≡ onto b (lines_of bs)
one_byte b bs h =
    ap (λ x. cond x ([] ∷ lines_of bs) (cond ((b == 13) && begins_with_lf bs) (lines_of bs) (onto b (lines_of bs))))
    (not_ten b h)
    ∙ ap (λ x. cond (x && begins_with_lf bs) (lines_of bs) (onto b (lines_of bs))) (not_13 b h)

first_shown : (b : ℕ) (bs : List ℕ) → Shown (b ∷ bs) → (nat_lt 31 b ≡ true) × Shown bs
first_shown b bs h = so (nat_lt 31 b) (all_by value_modulo bs) h

line_end : (b : ℕ) (bs : List ℕ) → Shown (b ∷ bs) → lines_of (b ∷ bs) ≡ (b ∷ bs) ∷ []
line_end b [] h = one_byte b [] (first_shown b [] h).0
line_end b (c ∷ bs) h =
    one_byte b (c ∷ bs) (first_shown b (c ∷ bs) h).0 ∙ ap (onto b) (line_end c bs (first_shown b (c ∷ bs) h).1)

pub line_more : (bs rest : List ℕ) → Shown bs → lines_of (bs ++ 10 ∷ rest) ≡ bs ∷ lines_of rest
line_more [] rest h = refl
line_more (b ∷ bs) rest h =
    one_byte b (bs ++ 10 ∷ rest) (first_shown b bs h).0 ∙ ap (onto b) (line_more bs rest (first_shown b bs h).1)

-- ---- what is printed

pub shown_append : (a b : List ℕ) → Shown a → Shown b → Shown (a ++ b)
shown_append [] b g h = h
shown_append (c ∷ a) b g h = ap (λ x. cond x (all_by value_modulo (a ++ b)) false) (first_shown c a g).0
    ∙ shown_append a b (first_shown c a g).1 h

either : {G : Type 0} (a b : Bool) → (a || b) ≡ true → (a ≡ true → G) → (b ≡ true → G) → G
either true b e f g = f refl
either false b e f g = g e

byte_shown : (b : ℕ) → is_name b ≡ true → nat_lt 31 b ≡ true
byte_shown b h =
    let small : Bool = nat_le 97 b && nat_le b 122 in
    let big : Bool = nat_le 65 b && nat_le b 90 in
    either (is_digit b || small || big || (b == 95)) (b == 46) h
    (λ h. either (is_digit b || small || big) (b == 95) h
    (λ h. either (is_digit b || small) big h
    (λ h. either (is_digit b) small h
    (λ h. lt-ltb 31 b (omega (arith, leb-true 48 b (two (nat_le 48 b) (nat_le b 57) h).0)))
    (λ h. lt-ltb 31 b (omega (arith, leb-true 97 b (two (nat_le 97 b) (nat_le b 122) h).0))))
    (λ h. lt-ltb 31 b (omega (arith, leb-true 65 b (two (nat_le 65 b) (nat_le b 90) h).0))))
    (λ h. lt-ltb 31 b (omega (arith, eqb-true b 95 h))))
    (λ h. lt-ltb 31 b (omega (arith, eqb-true b 46 h)))

name_shown : (w : List ℕ) → all_by is_name w ≡ true → Shown w
name_shown [] h = refl
name_shown (b ∷ w) h =
    let (f, g) = so (is_name b) (all_by is_name w) h in
    ap (λ x. cond x (all_by value_modulo w) false) (byte_shown b f) ∙ name_shown w g

register_shown : (w : Width) (r : ℕ) → Shown (register_name w r)
register_shown w r = name_shown (register_name w r) (name_all (register_name w r) (register_test w r))

pub number_shown : (n : ℕ) → Shown (number n)
number_shown n = name_shown (number n) (hex_names n)

plus_shown : (b : Bool) → Shown (plus b)
plus_shown true = refl
plus_shown false = refl

base_shown : (b : Option ℕ) → Shown (base_text b)
base_shown None = refl
base_shown (Some r) = register_shown D r

scale_pick : (a b c : Bool) → Shown (cond a (codes "1") (cond b (codes "2") (cond c (codes "4") (codes "8"))))
scale_pick true b c = refl
scale_pick false true c = refl
scale_pick false false true = refl
scale_pick false false false = refl

index_shown : (before : Bool) (i : Option ℕ) (s : ℕ) → Shown (index_text before i s)
index_shown before None s = refl
index_shown before (Some r) s =
    shown_append (plus before ++ register_name D r ++ codes "*") (scale_text s)
    (shown_append (plus before ++ register_name D r) (codes "*")
    (shown_append (plus before) (register_name D r) (plus_shown before) (register_shown D r)) refl)
    (scale_pick (s == 1) (s == 2) (s == 4))

disp_pick : (z before : Bool) (d : ℕ) → Shown (cond z [] (plus before ++ number d))
disp_pick true before d = refl
disp_pick false before d = shown_append (plus before) (number d) (plus_shown before) (number_shown d)

mem_shown : (m : Mem) → Shown (mem_text m)
unfolding mem_text
mem_shown m =
    let before : Bool = is_some m.base || is_some m.index in
    let index : List ℕ = index_text (is_some m.base) m.index m.scale in
    shown_append (codes "[" ++ base_text m.base ++ index ++ disp_text before m.disp) (codes "]")
    (shown_append (codes "[" ++ base_text m.base ++ index) (disp_text before m.disp)
    (shown_append (codes "[" ++ base_text m.base) index
    (shown_append (codes "[") (base_text m.base) refl (base_shown m.base))
    (index_shown (is_some m.base) m.index m.scale))
    (disp_pick (before && (m.disp == 0)) before m.disp))
    refl

arg_shown : (a : Arg) → Shown (arg_text a)
arg_shown (arg.Register w r) = register_shown w r
arg_shown (arg.Place w m) =
    shown_append (size_name w ++ codes " ") (mem_text m)
    (shown_append (size_name w) (codes " ") (name_shown (size_name w) (name_all (size_name w) (size_test w))) refl)
    (mem_shown m)
arg_shown (arg.Address m) = mem_shown m
arg_shown (arg.Number n) = number_shown n
arg_shown (arg.Short n) = shown_append (codes "short ") (number n) refl (number_shown n)
arg_shown arg.Cl = refl

behind_shown : (gap : List ℕ) (a : Option Arg) → Shown gap → Shown (behind gap a)
behind_shown gap None h = refl
behind_shown gap (Some a) h = shown_append gap (arg_text a) h (arg_shown a)

op_shown : (o : Op) (at : ℕ) → Shown (op_text o at)
unfolding op_text
op_shown o at =
    let name : List ℕ = name_of (mnemonic_of o) in
    let a : List ℕ = behind (codes " ") (first_arg o at) in
    let b : List ℕ = behind (codes ", ") (second_arg o at) in
    let c : List ℕ = behind (codes ", ") (third_arg o at) in
    shown_append (name ++ a ++ b) c
    (shown_append (name ++ a) b
    (shown_append name a (name_shown name (name_all name (mnemonic_test (mnemonic_of o))))
    (behind_shown (codes " ") (first_arg o at) refl))
    (behind_shown (codes ", ") (second_arg o at) refl))
    (behind_shown (codes ", ") (third_arg o at) refl)

lock_shown : (l : Bool) (bs : List ℕ) → Shown bs → Shown (cond l (codes "lock ") [] ++ bs)
lock_shown true bs h = shown_append (codes "lock ") bs refl h
lock_shown false bs h = h

insn_shown : (i : Insn) (at : ℕ) → Shown (insn_text i at)
unfolding insn_text
insn_shown i at = lock_shown i.lock (op_text i.op at) (op_shown i.op at)

-- ---- the line

-- a text with a token is not empty
all_of : (bs : List ℕ) (lock : Bool) (l t : Lexeme) (ts : List Lexeme)
    → tokens_of bs ≡ Some (cond lock (l ∷ []) [] ++ t ∷ ts) → Shown bs → lines_of bs ≡ bs ∷ []
unfolding tokens_of
all_of [] true l t ts e h = absurd cc
all_of [] false l t ts e h = absurd cc
all_of (b ∷ bs) lock l t ts e h = line_end b bs h

pub text_is_one_line : TextIsOneLine
text_is_one_line i at = (
  all_of (insn_text i at) i.lock (Word (codes "lock")) (Word (name_of (mnemonic_of i.op))) (args_tokens i.op at)
      (text_has_its_tokens i at) (insn_shown i at),
  λ rest. line_more (insn_text i at) rest (insn_shown i at),
)
