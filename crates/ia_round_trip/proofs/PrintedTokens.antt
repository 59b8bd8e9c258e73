-- The text of an instruction has the tokens that it is made of.
use Rattle.std.proofs.Common.{◌≡◌, ℕ, zero, suc, Bool, true, false, cond, List, [], ◌∷◌, ◌++◌, Option, Some, None, refl}
use Rattle.std.proofs.Common.{sym, ◌∙◌, ap, append-nil, is_some}
use Rattle.std.specs.Prelude.{◌==◌, ◌||◌, codes}
use Rattle.ia_word.specs.declared.operation.AluOp.TheVariants as alu
use Rattle.ia_word.specs.declared.operation.ShiftOp.TheVariants as shift
use Rattle.ia_word.specs.declared.operation.BitOp.TheVariants as bit
use Rattle.ia_word.specs.declared.operation.UnaryOp.TheVariants as unary
use Rattle.ia_word.specs.declared.operation.IncDecOp.TheVariants as inc_dec
use Rattle.ia_word.specs.declared.operation.ExtendOp.TheVariants as extend
use Rattle.ia_word.specs.declared.operation.ExchangeOp.TheVariants as exchange
use Rattle.ia_word.specs.declared.operation.LoopOp.TheVariants as loop
use Rattle.ia_word.specs.declared.operation.BareOp.TheVariants as bare
use Rattle.ia_word.specs.declared.condition.Condition.TheVariants as is
use Rattle.ia_word.specs.declared.width.Width.{Width}
use Rattle.ia_word.specs.declared.width.Width.TheVariants.{B, D}
use Rattle.ia_insn.specs.declared.op.Op.{Op}
use Rattle.ia_insn.specs.declared.operand.Mem.{Mem}
use Rattle.ia_lex.specs.Chars.{is_blank, is_digit, is_name}
use Rattle.ia_lex.specs.Numbers.{small, number_of}
use Rattle.ia_lex.specs.Tokens.{Lexeme, Word, Number, Mark, tokens_from, tokens_of, with_front}
use Rattle.ia_text.specs.declared.arg.Arg.{Arg}
use Rattle.ia_text.specs.declared.arg.Arg.TheVariants as arg
use Rattle.ia_insn.specs.declared.mnemonic.Mnemonic.{Mnemonic}
use Rattle.ia_insn.specs.declared.mnemonic.Mnemonic.TheVariants as name
use Rattle.ia_insn.specs.Mnemonics.{mnemonic_of, name_of}
use Rattle.ia_text.specs.Names.{register_name, size_name}
use Rattle.ia_text.specs.Arguments.{first_arg, second_arg, third_arg}
use Rattle.text_out.specs.Number.{number}
use Rattle.ia_text.specs.Text.{base_text, scale_text, index_text, disp_text, mem_text, arg_text, behind, op_text}
use Rattle.ia_text.specs.Text.{insn_text}
use Rattle.ia_round_trip.specs.PrintedTokens.{base_tokens, scale_value, index_tokens, disp_tokens, mem_tokens}
use Rattle.ia_round_trip.specs.PrintedTokens.{arg_tokens, behind_tokens, op_tokens, insn_tokens, TextHasItsTokens}
use Rattle.ia_round_trip.proofs.TokenLemmas.{all_by, Stops, IsStart, Open, Shut, open_word, open_number, shut_open}
use Rattle.ia_round_trip.proofs.TokenLemmas.{shut_shut, open_open, open_shut, shut_blank, shut_left, shut_right}
use Rattle.ia_round_trip.proofs.TokenLemmas.{shut_plus, shut_times, shut_comma, with_front_none}
use Rattle.ia_round_trip.proofs.Hex.{open_printed}

-- ---- names

abbrev pub name_test : List ℕ → Bool
name_test [] = false
name_test (b ∷ w) = cond (is_blank b) false
    (cond (b == 59) false (cond (is_name b) (cond (is_digit b) false (all_by is_name (b ∷ w))) false))

not_so : (a x : Bool) → cond a false x ≡ true → (a ≡ false) × (x ≡ true)
not_so false x e = (refl, e)
not_so true x e = cc

pub so : (a x : Bool) → cond a x false ≡ true → (a ≡ true) × (x ≡ true)
so true x e = (refl, e)
so false x e = cc

pub name_all : (w : List ℕ) → name_test w ≡ true → all_by is_name w ≡ true
name_all [] e = cc
name_all (b ∷ w) e =
    let (t1, e1) = not_so (is_blank b)
    (cond (b == 59) false (cond (is_name b) (cond (is_digit b) false (all_by is_name (b ∷ w))) false)) e in
    let (t2, e2) = not_so (b == 59) (cond (is_name b) (cond (is_digit b) false (all_by is_name (b ∷ w))) false) e1 in
    let (t3, e3) = so (is_name b) (cond (is_digit b) false (all_by is_name (b ∷ w))) e2 in
    (not_so (is_digit b) (all_by is_name (b ∷ w)) e3).1

open_name : (w : List ℕ) → name_test w ≡ true → Open w (Word w ∷ [])
open_name [] e = cc
open_name (b ∷ w) e =
    let (t1, e1) = not_so (is_blank b)
    (cond (b == 59) false (cond (is_name b) (cond (is_digit b) false (all_by is_name (b ∷ w))) false)) e in
    let (t2, e2) = not_so (b == 59) (cond (is_name b) (cond (is_digit b) false (all_by is_name (b ∷ w))) false) e1 in
    let (t3, e3) = so (is_name b) (cond (is_digit b) false (all_by is_name (b ∷ w))) e2 in
    let (t4, e4) = not_so (is_digit b) (all_by is_name (b ∷ w)) e3 in
    open_word b w (record { blank = t1; comment = t2; name = t3; kind = t4 }) e4

pub register_test : (w : Width) (r : ℕ) → name_test (register_name w r) ≡ true
register_test D zero = refl
register_test D (suc zero) = refl
register_test D (suc (suc zero)) = refl
register_test D (suc (suc (suc zero))) = refl
register_test D (suc (suc (suc (suc zero)))) = refl
register_test D (suc (suc (suc (suc (suc zero))))) = refl
register_test D (suc (suc (suc (suc (suc (suc zero)))))) = refl
register_test D (suc (suc (suc (suc (suc (suc (suc n))))))) = refl
register_test B zero = refl
register_test B (suc zero) = refl
register_test B (suc (suc zero)) = refl
register_test B (suc (suc (suc zero))) = refl
register_test B (suc (suc (suc (suc zero)))) = refl
register_test B (suc (suc (suc (suc (suc zero))))) = refl
register_test B (suc (suc (suc (suc (suc (suc zero)))))) = refl
register_test B (suc (suc (suc (suc (suc (suc (suc n))))))) = refl

open_register : (w : Width) (r : ℕ) → Open (register_name w r) (Word (register_name w r) ∷ [])
open_register w r = open_name (register_name w r) (register_test w r)

pub size_test : (w : Width) → name_test (size_name w) ≡ true
size_test D = refl
size_test B = refl

pub mnemonic_test : (m : Mnemonic) → name_test (name_of m) ≡ true
mnemonic_test (name.Alu alu.Add) = refl
mnemonic_test (name.IncDec inc_dec.Inc) = refl
mnemonic_test (name.Unary unary.Not) = refl
mnemonic_test (name.Shift shift.Rol) = refl
mnemonic_test (name.Jcc is.Overflow) = refl
mnemonic_test (name.Setcc is.Overflow) = refl
mnemonic_test (name.Cmovcc is.Overflow) = refl
mnemonic_test (name.LoopJump loop.Loop) = refl
mnemonic_test (name.Extend extend.Zero) = refl
mnemonic_test (name.Exchange exchange.Compare) = refl
mnemonic_test (name.Bit bit.Bt) = refl
mnemonic_test (name.Bare bare.Leave) = refl
mnemonic_test _ = refl

-- ---- places in memory

digit_start : (d : ℕ) → Type 0
digit_start d = IsStart true d

scale_pick : (a b c : Bool)
    → Open (cond a (codes "1") (cond b (codes "2") (cond c (codes "4") (codes "8"))))
    (Number (Some (cond a 1 (cond b 2 (cond c 4 8)))) ∷ [])
unfolding number_of
scale_pick true b c =
    open_number 49 [] (Some 1) (record { blank = refl; comment = refl; name = refl; kind = refl }) refl refl
scale_pick false true c =
    open_number 50 [] (Some 2) (record { blank = refl; comment = refl; name = refl; kind = refl }) refl refl
scale_pick false false true =
    open_number 52 [] (Some 4) (record { blank = refl; comment = refl; name = refl; kind = refl }) refl refl
scale_pick false false false =
    open_number 56 [] (Some 8) (record { blank = refl; comment = refl; name = refl; kind = refl }) refl refl

scale_open : (s : ℕ) → Open (scale_text s) (Number (Some (scale_value s)) ∷ [])
scale_open s = scale_pick (s == 1) (s == 2) (s == 4)

-- open behind a name or a number, shut behind a mark
abbrev Begun : List ℕ → List Lexeme → Bool → Type 0
Begun a ts true = Open a ts
Begun a ts false = Shut a ts

open_nil : (a : List ℕ) (ts : List Lexeme) → Open a ts → Open (a ++ []) (ts ++ [])
open_nil a ts o rest h =
    ap (λ v. tokens_from 0 (v ++ rest)) (append-nil a) ∙ o rest h
    ∙ ap (λ v. with_front v (tokens_from 0 rest)) (sym (append-nil ts))

shut_nil : (a : List ℕ) (ts : List Lexeme) → Shut a ts → Shut (a ++ []) (ts ++ [])
shut_nil a ts o rest =
    ap (λ v. tokens_from 0 (v ++ rest)) (append-nil a) ∙ o rest
    ∙ ap (λ v. with_front v (tokens_from 0 rest)) (sym (append-nil ts))

base_begun : (b : Option ℕ) → Begun (codes "[" ++ base_text b) ((Mark 91 ∷ []) ++ base_tokens b) (is_some b)
base_begun None = shut_left
base_begun (Some r) = shut_open (codes "[") (register_name D r) (Mark 91 ∷ []) (Word (register_name D r) ∷ []) shut_left
    (open_register D r)

scaled_open : (p : List ℕ) (ps : List Lexeme) (r s : ℕ)
    → Open (p ++ register_name D r) (ps ++ Word (register_name D r) ∷ [])
    → Open (p ++ register_name D r ++ codes "*" ++ scale_text s)
    (ps ++ (Word (register_name D r) ∷ []) ++ (Mark 42 ∷ []) ++ Number (Some (scale_value s)) ∷ [])
scaled_open p ps r s o =
    shut_open (p ++ register_name D r ++ codes "*") (scale_text s)
    (ps ++ (Word (register_name D r) ∷ []) ++ (Mark 42 ∷ [])) (Number (Some (scale_value s)) ∷ [])
    (open_shut (p ++ register_name D r) (codes "*") (ps ++ Word (register_name D r) ∷ []) (Mark 42 ∷ [])
    (λ rest. refl) o shut_times)
    (scale_open s)

index_begun : (a : List ℕ) (ts : List Lexeme) (t : Bool) (i : Option ℕ) (s : ℕ) → Begun a ts t
    → Begun (a ++ index_text t i s) (ts ++ index_tokens t i s) (t || is_some i)
index_begun a ts true None s o = open_nil a ts o
index_begun a ts false None s o = shut_nil a ts o
index_begun a ts true (Some r) s o =
    open_open a (index_text true (Some r) s) ts (index_tokens true (Some r) s) (λ rest h. refl) o
    (scaled_open (codes "+") (Mark 43 ∷ []) r s
    (shut_open (codes "+") (register_name D r) (Mark 43 ∷ []) (Word (register_name D r) ∷ []) shut_plus
    (open_register D r)))
index_begun a ts false (Some r) s o =
    shut_open a (index_text false (Some r) s) ts (index_tokens false (Some r) s) o
    (scaled_open [] [] r s (open_register D r))

disp_true : (z : Bool) (a : List ℕ) (ts : List Lexeme) (d : ℕ) → Open a ts
    → Shut ((a ++ cond z [] (codes "+" ++ number d)) ++ codes "]")
    ((ts ++ cond z [] ((Mark 43 ∷ []) ++ Number (small d) ∷ [])) ++ Mark 93 ∷ [])
disp_true true a ts d o =
    open_shut (a ++ []) (codes "]") (ts ++ []) (Mark 93 ∷ []) (λ rest. refl) (open_nil a ts o) shut_right
disp_true false a ts d o =
    open_shut (a ++ (codes "+" ++ number d)) (codes "]") (ts ++ ((Mark 43 ∷ []) ++ Number (small d) ∷ []))
    (Mark 93 ∷ []) (λ rest. refl)
    (open_open a (codes "+" ++ number d) ts ((Mark 43 ∷ []) ++ Number (small d) ∷ []) (λ rest h. refl) o
    (shut_open (codes "+") (number d) (Mark 43 ∷ []) (Number (small d) ∷ []) shut_plus (open_printed d)))
    shut_right

disp_end : (a : List ℕ) (ts : List Lexeme) (t : Bool) (d : ℕ) → Begun a ts t
    → Shut ((a ++ disp_text t d) ++ codes "]") ((ts ++ disp_tokens t d) ++ Mark 93 ∷ [])
disp_end a ts true d o = disp_true (d == 0) a ts d o
disp_end a ts false d o =
    open_shut (a ++ number d) (codes "]") (ts ++ Number (small d) ∷ []) (Mark 93 ∷ []) (λ rest. refl)
    (shut_open a (number d) ts (Number (small d) ∷ []) o (open_printed d)) shut_right

mem_shut : (m : Mem) → Shut (mem_text m) (mem_tokens m)
unfolding mem_text
mem_shut m =
    disp_end (codes "[" ++ base_text m.base ++ index_text (is_some m.base) m.index m.scale)
    ((Mark 91 ∷ []) ++ base_tokens m.base ++ index_tokens (is_some m.base) m.index m.scale)
    (is_some m.base || is_some m.index) m.disp
    (index_begun (codes "[" ++ base_text m.base) ((Mark 91 ∷ []) ++ base_tokens m.base) (is_some m.base) m.index m.scale
    (base_begun m.base))

-- ---- operands

-- a word and a blank
pub word_blank : (w rest : List ℕ) → name_test w ≡ true
    → tokens_from 0 (w ++ 32 ∷ rest) ≡ with_front (Word w ∷ []) (tokens_from 0 rest)
word_blank w rest e = open_name w e (32 ∷ rest) refl
    ∙ ap (with_front (Word w ∷ [])) (shut_blank rest ∙ with_front_none (tokens_from 0 rest))

shut_short : Shut (codes "short ") (Word (codes "short") ∷ [])
shut_short rest = word_blank (codes "short") rest refl

shut_lock : Shut (codes "lock ") (Word (codes "lock") ∷ [])
shut_lock rest = word_blank (codes "lock") rest refl

arg_open : (a : Arg) → Open (arg_text a) (arg_tokens a)
arg_open (arg.Register w r) = open_register w r
arg_open (arg.Place w m) = λ rest h.
    shut_shut (size_name w ++ codes " ") (mem_text m) ((Word (size_name w) ∷ []) ++ []) (mem_tokens m)
    (open_shut (size_name w) (codes " ") (Word (size_name w) ∷ []) [] (λ rest. refl)
    (open_name (size_name w) (size_test w)) shut_blank)
    (mem_shut m) rest
arg_open (arg.Address m) = λ rest h. mem_shut m rest
arg_open (arg.Number n) = open_printed n
arg_open (arg.Short n) = shut_open (codes "short ") (number n) (Word (codes "short") ∷ []) (Number (small n) ∷ [])
    shut_short (open_printed n)
arg_open arg.Cl = open_name (codes "cl") refl

behind_open : (a g : List ℕ) (ts gs : List Lexeme) (x : Option Arg)
    → ((more rest : List ℕ) → Stops is_name ((g ++ more) ++ rest)) → Shut g gs → Open a ts
    → Open (a ++ behind g x) (ts ++ behind_tokens gs x)
behind_open a g ts gs None k s o = open_nil a ts o
behind_open a g ts gs (Some y) k s o =
    open_open a (g ++ arg_text y) ts (gs ++ arg_tokens y) (λ rest h. k (arg_text y) rest) o
    (shut_open g (arg_text y) gs (arg_tokens y) s (arg_open y))

op_open : (o : Op) (at : ℕ) → Open (op_text o at) (op_tokens o at)
unfolding op_text
op_open o at =
    let name : List ℕ = name_of (mnemonic_of o) in
    let word : List Lexeme = Word (name_of (mnemonic_of o)) ∷ [] in
    behind_open (name ++ behind (codes " ") (first_arg o at) ++ behind (codes ", ") (second_arg o at)) (codes ", ")
    (word ++ behind_tokens [] (first_arg o at) ++ behind_tokens (Mark 44 ∷ []) (second_arg o at)) (Mark 44 ∷ [])
    (third_arg o at) (λ more rest. refl) shut_comma
    (behind_open (name ++ behind (codes " ") (first_arg o at)) (codes ", ") (word ++ behind_tokens [] (first_arg o at))
    (Mark 44 ∷ []) (second_arg o at) (λ more rest. refl) shut_comma
    (behind_open name (codes " ") word [] (first_arg o at) (λ more rest. refl) shut_blank
    (open_name name (mnemonic_test (mnemonic_of o)))))

lock_open : (l : Bool) (a : List ℕ) (ts : List Lexeme) → Open a ts
    → Open (cond l (codes "lock ") [] ++ a) (cond l (Word (codes "lock") ∷ []) [] ++ ts)
lock_open true a ts o = shut_open (codes "lock ") a (Word (codes "lock") ∷ []) ts shut_lock o
lock_open false a ts o = o

pub text_has_its_tokens : TextHasItsTokens
unfolding tokens_of insn_text
text_has_its_tokens i at =
    ap (tokens_from 0) (sym (append-nil (cond i.lock (codes "lock ") [] ++ op_text i.op at)))
    ∙ lock_open i.lock (op_text i.op at) (op_tokens i.op at) (op_open i.op at) [] tt
    ∙ ap Some (append-nil (insn_tokens i at))
