-- How long the bytes of an instruction are: the same whatever the values of the symbols.
use Rattle.std.proofs.Common.{◌≡◌, ℕ, suc, ◌+◌, ◌%◌, Bool, true, false, not, cond, List, [], ◌∷◌, ◌++◌, Option, Some}
use Rattle.std.proofs.Common.{None, refl, sym, ◌∙◌, ap, length, length-append}
use Rattle.std.specs.Prelude.{◌&&◌, ◌||◌, ◌==◌, ℤ, pos, ◌+ℤ◌, ◌-ℤ◌}
use Rattle.ia_word.specs.Bytes.{long_bytes}
use Rattle.ia_word.specs.declared.width.Width.{Width}
use Rattle.ia_word.specs.declared.width.Width.TheVariants.{B, D}
use Rattle.ia_insn.specs.declared.kinds.Count.TheVariants as count
use Rattle.ia_insn.specs.declared.op.Op.{Op}
use Rattle.ia_insn.specs.declared.op.Op.TheVariants as op
use Rattle.ia_insn.specs.declared.operand.Mem.{Mem}
use Rattle.ia_insn.specs.declared.operand.Operand.{Operand}
use Rattle.ia_insn.specs.declared.operand.Operand.TheVariants.{Reg, Imm, Mem as Memory}
use Rattle.ia_insn.specs.Writing.{is_signed_byte, operand_bytes, place_bytes, three}
use Rattle.ia_insn.specs.Encoding.{imm_bytes, by_size, alu_bytes, mov_bytes, test_bytes, inc_dec_bytes, shift_bytes}
use Rattle.ia_insn.specs.Encoding.{push_bytes, pop_bytes, op_bytes}
use Rattle.ia_insn.specs.Operations.{alu_number, shift_number, bit_number, unary_number, inc_dec_number}
use Rattle.ia_item.specs.declared.item.Field.TheVariants as field
use Rattle.ia_item.specs.declared.item.Template.{Template}
use Rattle.ia_item.specs.declared.expression.ScopedTerm.{ScopedTerm}
use Rattle.ia_item.specs.declared.expression.ScopedExpression.{ScopedExpression}
use Rattle.ia_item.specs.declared.expression.ScopedAtom.{ScopedAtom}
use Rattle.ia_item.specs.declared.expression.ScopedAtom.TheVariants as atom
use Rattle.ia_item.specs.Expressions.{Env, any_unknown, any_symbol, sum_from, value_in, is_unknown, is_symbol, is_wide}
use Rattle.ia_item.specs.Fields.{field_of, low_of, high_of, stored_number, with_number, with_displacement, number_in}
use Rattle.ia_item.specs.Fields.{displacement_in, with_disp}
use Rattle.ia_resolve.specs.Values.{sum_fault, value_or_zero, total}
use Rattle.ia_resolve.specs.Items.{field_value, op_with_number, op_with_displacement, resolved_insn, wide, code_bytes}

pub long_length : (n : ℕ) → length (long_bytes n) ≡ 4
long_length n = refl

long_same : (m n : ℕ) → length (long_bytes m) ≡ length (long_bytes n)
long_same m n = long_length m ∙ sym (long_length n)

back : (a b c : List ℕ) → length b ≡ length c → length (a ++ b) ≡ length (a ++ c)
back a b c e = length-append a b ∙ ap (λ n. length a + n) e ∙ sym (length-append a c)

front : (a b c : List ℕ) → length a ≡ length b → length (a ++ c) ≡ length (b ++ c)
front a b c e = length-append a c ∙ ap (λ n. n + length c) e ∙ sym (length-append b c)

either : (t : Bool) (a b c d : List ℕ) → length a ≡ length c → length b ≡ length d
    → length (cond t a b) ≡ length (cond t c d)
either true a b c d e f = e
either false a b c d e f = f

-- ---- an operand in memory, with a wide displacement

place_length : (reg : ℕ) (b i : Option ℕ) (s d e : ℕ)
    → length (place_bytes true reg b i s d) ≡ length (place_bytes true reg b i s e)
unfolding place_bytes
place_length reg None None s d e = ap suc (long_same d e)
place_length reg None (Some i) s d e = ap (λ n. suc (suc n)) (long_same d e)
place_length reg (Some r) (Some i) s d e = ap (λ n. suc (suc n)) (long_same d e)
place_length reg (Some r) None s d e = either (r == 4)
    (three 2 reg 4 ∷ three 0 4 4 ∷ long_bytes d) (three 2 reg r ∷ long_bytes d)
    (three 2 reg 4 ∷ three 0 4 4 ∷ long_bytes e) (three 2 reg r ∷ long_bytes e)
    (ap (λ n. suc (suc n)) (long_same d e)) (ap suc (long_same d e))

pub operand_length : (reg : ℕ) (m : Operand) (d : ℕ)
    → length (operand_bytes true reg (displacement_in m d)) ≡ length (operand_bytes true reg m)
unfolding operand_bytes
operand_length reg (Reg r) d = refl
operand_length reg (Imm n) d = refl
operand_length reg (Memory m) d = place_length reg m.base m.index m.scale d m.disp

mem_length : (reg : ℕ) (m : Mem) (d : ℕ)
    → length (operand_bytes true reg (Memory (with_disp m d))) ≡ length (operand_bytes true reg (Memory m))
mem_length reg m d = operand_length reg (Memory m) d

-- ---- a wide number

alu_number_length : (p : Bool) (k : _) (w : Width) (m s : Operand) (n : ℕ)
    → length (alu_bytes true p k w m (number_in s n)) ≡ length (alu_bytes true p k w m s)
unfolding alu_bytes
alu_number_length p k w m (Reg r) n = refl
alu_number_length p k w m (Memory r) n = refl
alu_number_length p k B m (Imm x) n = ap suc (back (operand_bytes p (alu_number k) m) (n ∷ []) (x ∷ []) refl)
alu_number_length p k D m (Imm x) n =
    ap suc (back (operand_bytes p (alu_number k) m) (long_bytes n) (long_bytes x) (long_same n x))

imm_same : (w : Width) (m n : ℕ) → length (imm_bytes w m) ≡ length (imm_bytes w n)
imm_same B m n = refl
imm_same D m n = long_same m n

mov_number_length : (p : Bool) (w : Width) (m s : Operand) (n : ℕ)
    → length (mov_bytes p w m (number_in s n)) ≡ length (mov_bytes p w m s)
unfolding mov_bytes
mov_number_length p w m (Reg r) n = refl
mov_number_length p w m (Memory r) n = refl
mov_number_length p w (Reg r) (Imm x) n = ap suc (imm_same w n x)
mov_number_length p w (Memory r) (Imm x) n =
    ap suc (back (operand_bytes p 0 (Memory r)) (imm_bytes w n) (imm_bytes w x) (imm_same w n x))
mov_number_length p w (Imm r) (Imm x) n = refl

test_number_length : (p : Bool) (w : Width) (m s : Operand) (n : ℕ)
    → length (test_bytes p w m (number_in s n)) ≡ length (test_bytes p w m s)
unfolding test_bytes
test_number_length p w m (Reg r) n = refl
test_number_length p w m (Memory r) n = refl
test_number_length p w m (Imm x) n =
    ap suc (back (operand_bytes p 0 m) (imm_bytes w n) (imm_bytes w x) (imm_same w n x))

push_number_length : (p : Bool) (s : Operand) (n : ℕ)
    → length (push_bytes true p (number_in s n)) ≡ length (push_bytes true p s)
unfolding push_bytes
push_number_length p (Reg r) n = refl
push_number_length p (Memory r) n = refl
push_number_length p (Imm x) n = ap suc (long_same n x)

shift_number_length : (p : Bool) (k : _) (m : Operand) (x n : ℕ)
    → length (shift_bytes true p k m (count.Imm n)) ≡ length (shift_bytes true p k m (count.Imm x))
unfolding shift_bytes
shift_number_length p k m x n = ap suc (back (operand_bytes p (shift_number k) m) (n ∷ []) (x ∷ []) refl)

pub number_length : (p : Bool) (o : Op) (n : ℕ)
    → length (op_bytes true p (with_number o n)) ≡ length (op_bytes true p o)
unfolding op_bytes
number_length p (op.Alu k w m s) n = alu_number_length p k w m s n
number_length p (op.Mov w m s) n = mov_number_length p w m s n
number_length p (op.Test w m s) n = test_number_length p w m s n
number_length p (op.ImulImm r m x) n = ap suc (back (operand_bytes p r m) (long_bytes n) (long_bytes x) (long_same n x))
number_length p (op.Push m) n = push_number_length p m n
number_length p (op.Shift k m count.Cl) n = refl
number_length p (op.Shift k m (count.Imm x)) n = shift_number_length p k m x n
number_length p (op.Call x) n = ap suc (long_same n x)
number_length p (op.Jmp x) n = ap suc (long_same n x)
number_length p (op.Jcc c x) n = ap (λ n. suc (suc n)) (long_same n x)
number_length p (op.Xbegin x) n = ap (λ n. suc (suc n)) (long_same n x)
number_length p (op.RetPop x) n = refl
number_length p (op.JmpShort x) n = refl
number_length p (op.JccShort c x) n = refl
number_length p (op.LoopJump k x) n = refl
number_length p (op.Bit k m x) n =
    ap (λ n. suc (suc n)) (back (operand_bytes p (bit_number k) m) (n ∷ []) (x ∷ []) refl)
number_length p (op.Xabort x) n = refl
number_length p _ n = refl

-- ---- a wide displacement

sized : (q : Bool) (n : ℕ) (a b c d : List ℕ) → length a ≡ length c → length b ≡ length d
    → length (by_size q n a b) ≡ length (by_size q n c d)
sized q n a b c d e f = either (not q && is_signed_byte n) (a ++ (n % 256) ∷ []) (b ++ long_bytes n)
    (c ++ (n % 256) ∷ []) (d ++ long_bytes n)
    (front a c ((n % 256) ∷ []) e) (front b d (long_bytes n) f)

alu_place_length : (q : Bool) (k : _) (w : Width) (m s : Operand) (d : ℕ)
    → length (alu_bytes q true k w (displacement_in m d) (displacement_in s d)) ≡ length (alu_bytes q true k w m s)
unfolding alu_bytes
alu_place_length q k w m (Reg r) d = ap suc (operand_length r m d)
alu_place_length q k w (Reg r) (Memory p) d = ap suc (mem_length r p d)
alu_place_length q k w (Memory m) (Memory p) d = ap suc (mem_length 0 p d)
alu_place_length q k w (Imm m) (Memory p) d = ap suc (mem_length 0 p d)
alu_place_length q k B m (Imm x) d = ap suc
    (front (operand_bytes true (alu_number k) (displacement_in m d)) (operand_bytes true (alu_number k) m) (x ∷ [])
    (operand_length (alu_number k) m d))
alu_place_length q k D m (Imm x) d = sized q x
    (0x83 ∷ operand_bytes true (alu_number k) (displacement_in m d))
    (0x81 ∷ operand_bytes true (alu_number k) (displacement_in m d))
    (0x83 ∷ operand_bytes true (alu_number k) m) (0x81 ∷ operand_bytes true (alu_number k) m)
    (ap suc (operand_length (alu_number k) m d)) (ap suc (operand_length (alu_number k) m d))

mov_place_length : (w : Width) (m s : Operand) (d : ℕ)
    → length (mov_bytes true w (displacement_in m d) (displacement_in s d)) ≡ length (mov_bytes true w m s)
unfolding mov_bytes
mov_place_length w m (Reg r) d = ap suc (operand_length r m d)
mov_place_length w (Reg r) (Memory p) d = ap suc (mem_length r p d)
mov_place_length w (Memory m) (Memory p) d = ap suc (mem_length 0 p d)
mov_place_length w (Imm m) (Memory p) d = ap suc (mem_length 0 p d)
mov_place_length w (Reg r) (Imm x) d = refl
mov_place_length w (Memory m) (Imm x) d = ap suc
    (front (operand_bytes true 0 (Memory (with_disp m d))) (operand_bytes true 0 (Memory m)) (imm_bytes w x)
    (mem_length 0 m d))
mov_place_length w (Imm m) (Imm x) d = refl

test_place_length : (w : Width) (m s : Operand) (d : ℕ)
    → length (test_bytes true w (displacement_in m d) (displacement_in s d)) ≡ length (test_bytes true w m s)
unfolding test_bytes
test_place_length w m (Reg r) d = ap suc (operand_length r m d)
test_place_length w m (Memory p) d = refl
test_place_length w m (Imm x) d = ap suc
    (front (operand_bytes true 0 (displacement_in m d)) (operand_bytes true 0 m) (imm_bytes w x) (operand_length 0 m d))

inc_dec_place_length : (k : _) (w : Width) (m : Operand) (d : ℕ)
    → length (inc_dec_bytes true k w (displacement_in m d)) ≡ length (inc_dec_bytes true k w m)
unfolding inc_dec_bytes
inc_dec_place_length k D (Reg r) d = refl
inc_dec_place_length k D (Memory m) d = ap suc (mem_length (inc_dec_number k) m d)
inc_dec_place_length k D (Imm m) d = refl
inc_dec_place_length k B (Reg r) d = refl
inc_dec_place_length k B (Memory m) d = ap suc (mem_length (inc_dec_number k) m d)
inc_dec_place_length k B (Imm m) d = refl

shift_place_length : (q : Bool) (k : _) (m : Operand) (c : _) (d : ℕ)
    → length (shift_bytes q true k (displacement_in m d) c) ≡ length (shift_bytes q true k m c)
unfolding shift_bytes
shift_place_length q k m count.Cl d = ap suc (operand_length (shift_number k) m d)
shift_place_length q k m (count.Imm n) d = either (not q && n == 1)
    (0xD1 ∷ operand_bytes true (shift_number k) (displacement_in m d))
    (0xC1 ∷ (operand_bytes true (shift_number k) (displacement_in m d) ++ n ∷ []))
    (0xD1 ∷ operand_bytes true (shift_number k) m) (0xC1 ∷ (operand_bytes true (shift_number k) m ++ n ∷ []))
    (ap suc (operand_length (shift_number k) m d))
    (ap suc
    (front (operand_bytes true (shift_number k) (displacement_in m d)) (operand_bytes true (shift_number k) m) (n ∷ [])
    (operand_length (shift_number k) m d)))

push_place_length : (q : Bool) (m : Operand) (d : ℕ)
    → length (push_bytes q true (displacement_in m d)) ≡ length (push_bytes q true m)
unfolding push_bytes
push_place_length q (Reg r) d = refl
push_place_length q (Memory m) d = ap suc (mem_length 6 m d)
push_place_length q (Imm n) d = refl

pop_place_length : (m : Operand) (d : ℕ) → length (pop_bytes true (displacement_in m d)) ≡ length (pop_bytes true m)
unfolding pop_bytes
pop_place_length (Reg r) d = refl
pop_place_length (Memory m) d = ap suc (mem_length 0 m d)
pop_place_length (Imm n) d = refl

twice : {m n : ℕ} → m ≡ n → suc (suc m) ≡ suc (suc n)
twice e = ap (λ n. suc (suc n)) e

pub displacement_length : (q : Bool) (o : Op) (d : ℕ)
    → length (op_bytes q true (with_displacement o d)) ≡ length (op_bytes q true o)
unfolding op_bytes
displacement_length q (op.Alu k w m s) d = alu_place_length q k w m s d
displacement_length q (op.Mov w m s) d = mov_place_length w m s d
displacement_length q (op.Lea r m) d = ap suc (mem_length r m d)
displacement_length q (op.Xchg w m r) d = ap suc (operand_length r m d)
displacement_length q (op.IncDec k w m) d = inc_dec_place_length k w m d
displacement_length q (op.Test w m s) d = test_place_length w m s d
displacement_length q (op.Unary k m) d = ap suc (operand_length (unary_number k) m d)
displacement_length q (op.Imul r m) d = twice (operand_length r m d)
displacement_length q (op.ImulImm r m n) d = sized q n (0x6B ∷ operand_bytes true r (displacement_in m d))
    (0x69 ∷ operand_bytes true r (displacement_in m d)) (0x6B ∷ operand_bytes true r m) (0x69 ∷ operand_bytes true r m)
    (ap suc (operand_length r m d)) (ap suc (operand_length r m d))
displacement_length q (op.Shift k m c) d = shift_place_length q k m c d
displacement_length q (op.Push m) d = push_place_length q m d
displacement_length q (op.Pop m) d = pop_place_length m d
displacement_length q (op.CallTo m) d = ap suc (operand_length 2 m d)
displacement_length q (op.JmpTo m) d = ap suc (operand_length 4 m d)
displacement_length q (op.Setcc c m) d = twice (operand_length 0 m d)
displacement_length q (op.Cmovcc c r m) d = twice (operand_length r m d)
displacement_length q (op.Extend k r m) d = twice (operand_length r m d)
displacement_length q (op.Exchange k m r) d = twice (operand_length r m d)
displacement_length q (op.Bit k m n) d = twice (front (operand_bytes true (bit_number k) (displacement_in m d))
    (operand_bytes true (bit_number k) m) (n ∷ []) (operand_length (bit_number k) m d))
displacement_length q (op.NopOf m) d = twice (operand_length 0 m d)
displacement_length q _ d = refl

-- ---- the two do not mind each other

in_turn : (s : Operand) (n d : ℕ) → displacement_in (number_in s n) d ≡ number_in (displacement_in s d) n
in_turn (Reg r) n d = refl
in_turn (Memory m) n d = refl
in_turn (Imm x) n d = refl

commute : (o : Op) (n d : ℕ) → with_displacement (with_number o n) d ≡ with_number (with_displacement o d) n
commute (op.Alu k w m s) n d = ap (λ t. op.Alu k w (displacement_in m d) t) (in_turn s n d)
commute (op.Mov w m s) n d = ap (λ t. op.Mov w (displacement_in m d) t) (in_turn s n d)
commute (op.Test w m s) n d = ap (λ t. op.Test w (displacement_in m d) t) (in_turn s n d)
commute (op.Push m) n d = ap op.Push (in_turn m n d)
commute (op.Shift k m count.Cl) n d = refl
commute (op.Shift k m (count.Imm x)) n d = refl
commute _ n d = refl

-- ---- expressions without symbols

neither : (a b : Bool) → (a || b) ≡ false → (a ≡ false) × (b ≡ false)
neither true b e = absurd cc
neither false b e = (refl, e)

unknown_of : (env now : Env) (v : ScopedAtom) → is_symbol v ≡ false → is_unknown env v ≡ is_unknown now v
unknown_of env now (atom.Number n) h = refl
unknown_of env now atom.Huge h = refl
unknown_of env now (atom.Symbol name) h = absurd cc

value_same : (env now : Env) (v : ScopedAtom) → is_symbol v ≡ false → value_in env v ≡ value_in now v
value_same env now (atom.Number n) h = refl
value_same env now atom.Huge h = refl
value_same env now (atom.Symbol name) h = absurd cc

same_unknown : (env now : Env) (ps : List ScopedTerm) → any_symbol ps ≡ false → any_unknown env ps ≡ any_unknown now ps
same_unknown env now [] h = refl
same_unknown env now (p ∷ ps) h =
    let terms = neither (is_symbol p.atom) (any_symbol ps) h in
    ap (λ t. t || any_unknown env ps) (unknown_of env now p.atom terms.0)
    ∙ ap (λ t. is_unknown now p.atom || t) (same_unknown env now ps terms.1)

same_sum : (env now : Env) (ps : List ScopedTerm) (v : ℤ) → any_symbol ps ≡ false
    → sum_from env v ps ≡ sum_from now v ps
same_sum env now [] v h = refl
same_sum env now (p ∷ ps) v h =
    let terms = neither (is_symbol p.atom) (any_symbol ps) h in
    same_sum env now ps _ terms.1
    ∙ ap (λ x. sum_from now (cond p.negative (v -ℤ x) (v +ℤ x)) ps) (value_same env now p.atom terms.0)

same_taken : (env now : Env) (low high : ℤ) (s : ScopedExpression) → is_wide s ≡ false
    → value_or_zero env low high s ≡ value_or_zero now low high s
unfolding value_or_zero sum_fault
same_taken env now low high s h =
    let u = same_unknown env now s.terms.items h in
    let t : total env s ≡ total now s = same_sum env now s.terms.items (pos 0) h in
    rw u (rw t refl)

-- ---- whole instructions

number_part : (env now : Env) (at : ℕ) (s : Option ScopedExpression) (p : Bool) (o : Op)
    → length (op_bytes (wide s) p (op_with_number env at s o))
    ≡ length (op_bytes (wide s) p (op_with_number now at s o))
number_part env now at None p o = refl
number_part env now at (Some s) p o = by (is_wide s) refl
  where
    by : (w : Bool) → is_wide s ≡ w
        → length (op_bytes w p (op_with_number env at (Some s) o))
        ≡ length (op_bytes w p (op_with_number now at (Some s) o))
    by true e = number_length p o (field_value env at (field_of o) s)
        ∙ sym (number_length p o (field_value now at (field_of o) s))
    by false e = ap (λ v. length (op_bytes false p (with_number o (stored_number (field_of o) at v))))
        (same_taken env now (low_of (field_of o)) (high_of (field_of o)) s e)

place_part : (env now : Env) (at : ℕ) (s : Option ScopedExpression) (q : Bool) (o : Op)
    → length (op_bytes q (wide s) (op_with_displacement env at s o))
    ≡ length (op_bytes q (wide s) (op_with_displacement now at s o))
place_part env now at None q o = refl
place_part env now at (Some s) q o = by (is_wide s) refl
  where
    by : (w : Bool) → is_wide s ≡ w
        → length (op_bytes q w (op_with_displacement env at (Some s) o))
        ≡ length (op_bytes q w (op_with_displacement now at (Some s) o))
    by true e = displacement_length q o (field_value env at field.Long s)
        ∙ sym (displacement_length q o (field_value now at field.Long s))
    by false e = ap (λ v. length (op_bytes q false (with_displacement o (stored_number field.Long at v))))
        (same_taken env now (low_of field.Long) (high_of field.Long) s e)

-- the number below a displacement that stays
under_place : (env now : Env) (at d : ℕ) (s : Option ScopedExpression) (p : Bool) (o : Op)
    → length (op_bytes (wide s) p (with_displacement (op_with_number env at s o) d))
    ≡ length (op_bytes (wide s) p (with_displacement (op_with_number now at s o) d))
under_place env now at d None p o = refl
under_place env now at d (Some s) p o = by (is_wide s) refl
  where
    m : ℕ
    m = field_value env at (field_of o) s

    n : ℕ
    n = field_value now at (field_of o) s

    by : (w : Bool) → is_wide s ≡ w
        → length (op_bytes w p (with_displacement (with_number o m) d))
        ≡ length (op_bytes w p (with_displacement (with_number o n) d))
    by true e =
        ap (λ x. length (op_bytes true p x)) (commute o m d) ∙ number_length p (with_displacement o d) m
        ∙ sym (number_length p (with_displacement o d) n) ∙ sym (ap (λ x. length (op_bytes true p x)) (commute o n d))
    by false e =
        ap (λ v. length (op_bytes false p (with_displacement (with_number o (stored_number (field_of o) at v)) d)))
        (same_taken env now (low_of (field_of o)) (high_of (field_of o)) s e)

both_parts : (env now : Env) (at : ℕ) (s t : Option ScopedExpression) (o : Op) →
    length (op_bytes (wide s) (wide t) (op_with_displacement env at t (op_with_number env at s o)))
    ≡ length (op_bytes (wide s) (wide t) (op_with_displacement now at t (op_with_number now at s o)))
both_parts env now at s None o = number_part env now at s false o
both_parts env now at s (Some t) o =
    place_part env now at (Some t) (wide s) (op_with_number env at s o)
    ∙ under_place env now at (field_value now at field.Long t) s (is_wide t) o

pub code_length : (env now : Env) (at : ℕ) (t : Template) → length (code_bytes env at t) ≡ length (code_bytes now at t)
unfolding code_bytes resolved_insn
code_length env now at t =
    let a = op_bytes (wide t.number) (wide t.displacement)
    (op_with_displacement env at t.displacement (op_with_number env at t.number t.insn.op)) in
    let b = op_bytes (wide t.number) (wide t.displacement)
    (op_with_displacement now at t.displacement (op_with_number now at t.number t.insn.op)) in
    let same : length a ≡ length b = both_parts env now at t.number t.displacement t.insn.op in
    either t.insn.lock (0xF0 ∷ a) a (0xF0 ∷ b) b (ap suc same) same
