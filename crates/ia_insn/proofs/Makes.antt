-- What is spelt can be encoded.
use Rattle.std.proofs.Common.{◌≡◌, ℕ, zero, suc, ◌+◌, ◌-◌, ◌/◌, ◌%◌, ◌^◌, ◌<◌, ◌≤◌, Bool, true, false, cond, List, []}
use Rattle.std.proofs.Common.{◌∷◌, Option, Some, None, refl, subst, arith}
use Rattle.std.specs.Prelude.{◌&&◌, ◌||◌, ◌==◌, not, nat_lt, nat_le}
use Rattle.std.specs.Option.{option_map}
use Rattle.std.proofs.lemmas.Bool.{ltb-true, ltb-false, lt-ltb, leb-true, le-leb, and_parts, and_from, or_left}
use Rattle.std.proofs.lemmas.Bool.{or_right}
use Rattle.ia_word.specs.declared.operation.AluOp.{AluOp}
use Rattle.ia_word.specs.Bytes.{sign_extended}
use Rattle.ia_word.specs.declared.operation.UnaryOp.TheVariants as unary
use Rattle.ia_word.specs.declared.operation.IncDecOp.TheVariants as inc_dec
use Rattle.ia_word.specs.declared.operation.BareOp.TheVariants as bare
use Rattle.ia_word.specs.declared.width.Width.{Width}
use Rattle.ia_word.specs.declared.width.Width.TheVariants.{B, D}
use Rattle.ia_insn.specs.declared.op.Op.{Op}
use Rattle.ia_insn.specs.declared.op.Op.TheVariants as op
use Rattle.ia_insn.specs.declared.op.Insn.{Insn}
use Rattle.ia_insn.specs.declared.operand.Mem.{Mem}
use Rattle.ia_insn.specs.declared.operand.Operand.{Operand}
use Rattle.ia_insn.specs.declared.operand.Operand.TheVariants.{Reg, Imm, Mem as Memory}
use Rattle.ia_insn.specs.Operands.{Head, head_of, index_of, scale_of, SpellsDisp, no_disp, disp8, disp32, SpellsBase}
use Rattle.ia_insn.specs.Operands.{no_base, base, SpellsMem, plain as plain_mem, sib, SpellsOperand, register, memory}
use Rattle.ia_insn.specs.Form.{Tail, done, ib, ibs, iw, id, Form, none, plain, modrm, group, r_memory, SpellsTail}
use Rattle.ia_insn.specs.Form.{nothing, byte, signed_byte, two_bytes, four_bytes, SpellsForm, alone, operand, chosen}
use Rattle.ia_insn.specs.Form.{place}
use Rattle.ia_insn.specs.Table.{OpcodeRow, row, look_up, alu_rows, rows_40, rows_80, rows_A0, rows_C0, two_byte_rows}
use Rattle.ia_insn.specs.Table.{one_byte, alu_row, row_40, row_80, row_A0, row_C0, two_byte, behind_f3, alu_of}
use Rattle.ia_insn.specs.Table.{shift_of, bit_of, inc_dec_of, fence_of, unary_of, ff_of, SpellsOp, one, two, with_f3}
use Rattle.ia_insn.specs.Spelling.{lockable, Spells, unlocked, locked}
use Rattle.ia_insn.specs.Writing.{fits_base, fits_index, fits_mem, fits_operand, is_signed_byte}
use Rattle.ia_insn.specs.Encoding.{fits_imm, fits_short, fits_pair, encodable, is_encodable}

-- ---- operands that are spelt fit

abbrev sign_at : Bool → ℕ → ℕ
sign_at t b = cond t b (b + (2 ^ 32 - 256))

short_go : (b : ℕ) (t : Bool) → nat_lt b 128 ≡ t → b < 256 → fits_short (sign_at t b) ≡ true
short_go b true e lt =
    let l : b < 128 = ltb-true _ _ e in
    and_from (nat_lt b (2 ^ 32)) (is_signed_byte b) (lt-ltb b (2 ^ 32) (omega arith))
    (or_left (nat_lt b 128) (nat_le (2 ^ 32 - 128) b) e)
short_go b false e lt =
    let l : 128 ≤ b = ltb-false _ _ e in
    let n = b + (2 ^ 32 - 256) in
    and_from (nat_lt n (2 ^ 32)) (is_signed_byte n) (lt-ltb n (2 ^ 32) (omega arith))
    (or_right (nat_lt n 128) (nat_le (2 ^ 32 - 128) n) (le-leb (2 ^ 32 - 128) n (omega arith)))

short_fits : (b : ℕ) → b < 256 → fits_short (sign_extended b) ≡ true
short_fits b lt = short_go b (nat_lt b 128) refl lt

disp_fits : {m d : ℕ} {s : List ℕ} → SpellsDisp m s d → d < 2 ^ 32
disp_fits no_disp = omega arith
disp_fits (disp8 {b} lt) =
    ltb-true _ _ (and_parts (nat_lt (sign_extended b) (2 ^ 32)) (is_signed_byte (sign_extended b)) (short_fits b lt)).0
disp_fits (disp32 lt) = lt

base_fits : {m r d : ℕ} {s : List ℕ} {b : Option ℕ} → SpellsBase m r s b d → r < 8 → (fits_base b ≡ true) × (d < 2 ^ 32)
base_fits (no_base lt) lr = (refl, lt)
base_fits (base {r = r} n x) lr = (lt-ltb r 8 lr, disp_fits x)

abbrev index_at : Bool → ℕ → Option ℕ
index_at t i = cond t None (Some i)

abbrev scale_at : Bool → ℕ → ℕ
scale_at t k = cond t 1 (2 ^ k)

scale_fits : (k : ℕ) → k < 4 → (2 ^ k == 1 || 2 ^ k == 2 || 2 ^ k == 4 || 2 ^ k == 8) ≡ true
scale_fits zero lt = refl
scale_fits (suc zero) lt = refl
scale_fits (suc (suc zero)) lt = refl
scale_fits (suc (suc (suc zero))) lt = refl
scale_fits (suc (suc (suc (suc n)))) lt = absurd (omega arith)

index_go : (i k : ℕ) (t : Bool) → (i == 4) ≡ t → i < 8 → k < 4 → fits_index (index_at t i) (scale_at t k) ≡ true
index_go i k true e li lk = refl
index_go i k false e li lk =
    and_from (nat_lt i 8 && not (i == 4)) (2 ^ k == 1 || 2 ^ k == 2 || 2 ^ k == 4 || 2 ^ k == 8)
    (and_from (nat_lt i 8) (not (i == 4)) (lt-ltb i 8 li) (rw e refl)) (scale_fits k lk)

mem_fits : {mode rm : ℕ} {s : List ℕ} {m : Mem} → SpellsMem mode rm s m → rm < 8 → fits_mem m ≡ true
mem_fits (plain_mem {disp = d} {b = b} n h) lr =
    let p = base_fits h lr in
    and_from (fits_base b && true) (nat_lt d (2 ^ 32)) (and_from (fits_base b) true p.0 refl) (lt-ltb d (2 ^ 32) p.1)
mem_fits (sib {s = s} {disp = d} {b = b} lt h) lr =
    let p = base_fits h (omega arith) in
    and_from (fits_base b && fits_index (index_of s) (scale_of s)) (nat_lt d (2 ^ 32))
    (and_from (fits_base b) (fits_index (index_of s) (scale_of s)) p.0
    (index_go (s / 8 % 8) (s / 64) (s / 8 % 8 == 4) refl (omega arith) (omega arith))) (lt-ltb d (2 ^ 32) p.1)

operand_fits : {h : Head} {s : List ℕ} {m : Operand} → SpellsOperand h s m → h.rm < 8 → fits_operand m ≡ true
operand_fits (register {h} e) lr = lt-ltb h.rm 8 lr
operand_fits (memory n x) lr = mem_fits x lr

-- ---- what a form makes can be encoded

abbrev MakesTail : Tail → Type 0
MakesTail (done i) = encodable i ≡ true
MakesTail (ib f) = (n : ℕ) → n < 256 → encodable (f n) ≡ true
MakesTail (ibs f) = (n : ℕ) → fits_short n ≡ true → encodable (f n) ≡ true
MakesTail (iw f) = (n : ℕ) → n < 2 ^ 16 → encodable (f n) ≡ true
MakesTail (id f) = (n : ℕ) → n < 2 ^ 32 → encodable (f n) ≡ true

abbrev Makes : Form → Type 0
Makes none = Unit {0}
Makes (plain t) = MakesTail t
Makes (modrm f) = (r : ℕ) (m : Operand) → r < 8 → fits_operand m ≡ true → MakesTail (f r m)
Makes (group next) =
    (h : Head) (g : Operand → Tail) (m : Operand) → next h ≡ Some g → fits_operand m ≡ true → MakesTail (g m)
Makes (r_memory f) = (r : ℕ) (m : Mem) → r < 8 → fits_mem m ≡ true → encodable (f r m) ≡ true

makes_tail : {t : Tail} {s : List ℕ} {i : Op} → SpellsTail t s i → MakesTail t → encodable i ≡ true
makes_tail nothing k = k
makes_tail (byte {b = b} lt) k = k b lt
makes_tail (signed_byte {b = b} lt) k = k (sign_extended b) (short_fits b lt)
makes_tail (two_bytes {n = n} lt) k = k n lt
makes_tail (four_bytes {n = n} lt) k = k n lt

makes_form : {f : Form} {s : List ℕ} {i : Op} → SpellsForm f s i → Makes f → encodable i ≡ true
makes_form (alone t) k = makes_tail t k
makes_form (operand {b = b} {m = m} lt o t) k =
    makes_tail t (k (b / 8 % 8) m (omega arith) (operand_fits o (omega arith)))
makes_form (chosen {f = g} {b = b} {m = m} lt e o t) k =
    makes_tail t (k (head_of b) g m e (operand_fits o (omega arith)))
makes_form (place {b = b} {m = m} lt ne h) k = k (b / 8 % 8) m (omega arith) (mem_fits h (omega arith))

-- ---- rows

infixr 5 ◌▸◌
data MakesRows : List OpcodeRow → Type 0 where
  no_more : MakesRows []
  ◌▸◌ : {r : OpcodeRow} {rs : List OpcodeRow} → ((k : ℕ) → k < r.many → Makes (r.form k)) → MakesRows rs
      → MakesRows (r ∷ rs)

row_go : (r : OpcodeRow) (rs : List OpcodeRow) (b : ℕ) (t : Bool)
    → (nat_le r.first b && nat_lt b (r.first + r.many)) ≡ t → ((k : ℕ) → k < r.many → Makes (r.form k))
    → Makes (look_up rs b) → Makes (cond t (r.form (b - r.first)) (look_up rs b))
row_go r rs b true e here rest =
    let p = and_parts (nat_le r.first b) (nat_lt b (r.first + r.many)) e in
    let le : r.first ≤ b = leb-true _ _ p.0 in
    let lt : b < r.first + r.many = ltb-true _ _ p.1 in
    here (b - r.first) (omega arith)
row_go r rs b false e here rest = rest

makes_rows : (rs : List OpcodeRow) → MakesRows rs → (b : ℕ) → Makes (look_up rs b)
makes_rows [] no_more b = tt
makes_rows (r ∷ rs) (k ▸ ks) b =
    row_go r rs b (nat_le r.first b && nat_lt b (r.first + r.many)) refl k (makes_rows rs ks b)

-- ---- what rows need

r_and_m : (r : ℕ) (m : Operand) → r < 8 → fits_operand m ≡ true → (nat_lt r 8 && fits_operand m) ≡ true
r_and_m r m lr fm = and_from (nat_lt r 8) (fits_operand m) (lt-ltb r 8 lr) fm

m_and_r : (r : ℕ) (m : Operand) → r < 8 → fits_operand m ≡ true → (fits_operand m && nat_lt r 8) ≡ true
m_and_r r m lr fm = and_from (fits_operand m) (nat_lt r 8) fm (lt-ltb r 8 lr)

pair_mr : (w : Width) (r : ℕ) (m : Operand) → r < 8 → fits_operand m ≡ true → fits_pair w m (Reg r) ≡ true
pair_mr w r m lr fm = m_and_r r m lr fm

pair_rm : (w : Width) (r : ℕ) (m : Operand) → r < 8 → fits_operand m ≡ true → fits_pair w (Reg r) m ≡ true
pair_rm w r (Reg s) lr fm = and_from (nat_lt r 8) (nat_lt s 8) (lt-ltb r 8 lr) fm
pair_rm w r (Memory m) lr fm = and_from (nat_lt r 8) (fits_mem m) (lt-ltb r 8 lr) fm
pair_rm w r (Imm n) lr fm = absurd cc

pair_imm : (w : Width) (m : Operand) (n : ℕ) → fits_operand m ≡ true → fits_imm w n ≡ true
    → fits_pair w m (Imm n) ≡ true
pair_imm w m n fm fi = and_from (fits_operand m) (fits_imm w n) fm fi

short_long : (n : ℕ) → fits_short n ≡ true → nat_lt n (2 ^ 32) ≡ true
short_long n e = (and_parts (nat_lt n (2 ^ 32)) (is_signed_byte n) e).0

alu_makes : (k : AluOp) → MakesRows (alu_rows k)
alu_makes k =
    (λ _ _ r m lr fm. pair_mr B r m lr fm) ▸
    (λ _ _ r m lr fm. pair_mr D r m lr fm) ▸
    (λ _ _ r m lr fm. pair_rm B r m lr fm) ▸
    (λ _ _ r m lr fm. pair_rm D r m lr fm) ▸
    (λ _ _ n lt. pair_imm B (Reg 0) n refl (lt-ltb n 256 lt)) ▸
    (λ _ _ n lt. pair_imm D (Reg 0) n refl (lt-ltb n (2 ^ 32) lt)) ▸
    no_more

makes_40 : MakesRows rows_40
makes_40 =
    (λ r lt. lt-ltb r 8 lt) ▸
    (λ r lt. lt-ltb r 8 lt) ▸
    (λ r lt. lt-ltb r 8 lt) ▸
    (λ r lt. lt-ltb r 8 lt) ▸
    (λ _ _ n lt. lt-ltb n (2 ^ 32) lt) ▸
    (λ _ _ r m lr fm n lt. and_from (nat_lt r 8 && fits_operand m) (nat_lt n (2 ^ 32)) (r_and_m r m lr fm)
    (lt-ltb n (2 ^ 32) lt)) ▸
    (λ _ _ n e. short_long n e) ▸
    (λ _ _ r m lr fm n e. and_from (nat_lt r 8 && fits_operand m) (nat_lt n (2 ^ 32)) (r_and_m r m lr fm)
    (short_long n e)) ▸
    (λ _ _ n e. e) ▸
    no_more

-- ---- groups

abbrev some_tail : (Operand → Tail) → Option (Operand → Tail)
some_tail f = Some f

some_is : (f g : Operand → Tail) → some_tail f ≡ some_tail g → f ≡ g
some_is f g e = cc

only_makes : (t : Bool) (f g : Operand → Tail) (m : Operand) → cond t (Some f) None ≡ Some g → MakesTail (f m)
    → MakesTail (g m)
only_makes true f g m e k = subst (λ (z : Operand → Tail). MakesTail (z m)) (some_is f g e) k
only_makes false f g m e k = absurd cc

or_makes : (t u : Bool) (f x g : Operand → Tail) (m : Operand) → cond t (Some f) (cond u (Some x) None) ≡ Some g
    → MakesTail (f m) → MakesTail (x m) → MakesTail (g m)
or_makes true u f x g m e k l = subst (λ (z : Operand → Tail). MakesTail (z m)) (some_is f g e) k
or_makes false true f x g m e k l = subst (λ (z : Operand → Tail). MakesTail (z m)) (some_is x g e) l
or_makes false false f x g m e k l = absurd cc

map_makes : {A : Type 0} (o : Option A) (f : A → Operand → Tail) (g : Operand → Tail) (m : Operand)
    → option_map f o ≡ Some g → ((k : A) → MakesTail (f k m)) → MakesTail (g m)
map_makes (Some k) f g m e h = subst (λ (z : Operand → Tail). MakesTail (z m)) (some_is (f k) g e) (h k)
map_makes None f g m e h = absurd cc

push_makes : (m : Operand) → fits_operand m ≡ true → encodable (op.Push m) ≡ true
push_makes (Reg r) e = e
push_makes (Memory m) e = e
push_makes (Imm n) e = absurd cc

unary_makes : (n : ℕ) (g : Operand → Tail) (m : Operand) → fits_operand m ≡ true → unary_of n ≡ Some g → MakesTail (g m)
unary_makes zero g m fm e =
    only_makes true (λ m. id (λ i. op.Test D m (Imm i))) g m e (λ n lt. pair_imm D m n fm (lt-ltb n (2 ^ 32) lt))
unary_makes (suc zero) g m fm e = absurd cc
unary_makes (suc (suc zero)) g m fm e = only_makes true (λ m. done (op.Unary unary.Not m)) g m e (fm)
unary_makes (suc (suc (suc zero))) g m fm e = only_makes true (λ m. done (op.Unary unary.Neg m)) g m e (fm)
unary_makes (suc (suc (suc (suc zero)))) g m fm e = only_makes true (λ m. done (op.Unary unary.Mul m)) g m e (fm)
unary_makes (suc (suc (suc (suc (suc zero))))) g m fm e = only_makes true (λ m. done (op.Unary unary.Imul m)) g m e (fm)
unary_makes (suc (suc (suc (suc (suc (suc zero)))))) g m fm e =
    only_makes true (λ m. done (op.Unary unary.Div m)) g m e (fm)
unary_makes (suc (suc (suc (suc (suc (suc (suc zero))))))) g m fm e =
    only_makes true (λ m. done (op.Unary unary.Idiv m)) g m e (fm)
unary_makes (suc (suc (suc (suc (suc (suc (suc (suc n)))))))) g m fm e = absurd cc

ff_makes : (n : ℕ) (g : Operand → Tail) (m : Operand) → fits_operand m ≡ true → ff_of n ≡ Some g → MakesTail (g m)
ff_makes zero g m fm e = only_makes true (λ m. done (op.IncDec inc_dec.Inc D m)) g m e (fm)
ff_makes (suc zero) g m fm e = only_makes true (λ m. done (op.IncDec inc_dec.Dec D m)) g m e (fm)
ff_makes (suc (suc zero)) g m fm e = only_makes true (λ m. done (op.CallTo m)) g m e (fm)
ff_makes (suc (suc (suc zero))) g m fm e = absurd cc
ff_makes (suc (suc (suc (suc zero)))) g m fm e = only_makes true (λ m. done (op.JmpTo m)) g m e (fm)
ff_makes (suc (suc (suc (suc (suc zero))))) g m fm e = absurd cc
ff_makes (suc (suc (suc (suc (suc (suc zero)))))) g m fm e =
    only_makes true (λ m. done (op.Push m)) g m e (push_makes m fm)
ff_makes (suc (suc (suc (suc (suc (suc (suc n))))))) g m fm e = absurd cc

fence_makes : (t : Bool) (n : ℕ) (g : Operand → Tail) (m : Operand)
    → cond t (option_map (λ k m. done (op.Bare k)) (fence_of n)) None ≡ Some g → MakesTail (g m)
fence_makes true n g m e = map_makes (fence_of n) _ g m e (λ k. refl)
fence_makes false n g m e = absurd cc

makes_80 : MakesRows rows_80
makes_80 =
    (λ _ _ r m lr fm n lt. pair_imm B m n fm (lt-ltb n 256 lt)) ▸
    (λ _ _ r m lr fm n lt. pair_imm D m n fm (lt-ltb n (2 ^ 32) lt)) ▸
    (λ _ _ r m lr fm n e. pair_imm D m n fm (short_long n e)) ▸
    (λ _ _ r m lr fm. m_and_r r m lr fm) ▸
    (λ _ _ r m lr fm. m_and_r r m lr fm) ▸
    (λ _ _ r m lr fm. m_and_r r m lr fm) ▸
    (λ _ _ r m lr fm. m_and_r r m lr fm) ▸
    (λ _ _ r m lr fm. pair_mr B r m lr fm) ▸
    (λ _ _ r m lr fm. pair_mr D r m lr fm) ▸
    (λ _ _ r m lr fm. pair_rm B r m lr fm) ▸
    (λ _ _ r m lr fm. pair_rm D r m lr fm) ▸
    (λ _ _ r m lr fm. and_from (nat_lt r 8) (fits_mem m) (lt-ltb r 8 lr) fm) ▸
    (λ _ _ h g m e fm. only_makes (h.reg == 0) _ g m e (fm)) ▸
    (λ _ _. refl) ▸
    (λ r lt. and_from (nat_lt (r + 1) 8) (nat_lt 0 8) (lt-ltb (r + 1) 8 (omega arith)) refl) ▸
    (λ _ _. refl) ▸
    (λ _ _. refl) ▸
    no_more

makes_A0 : MakesRows rows_A0
makes_A0 =
    (λ _ _ n lt. lt-ltb n (2 ^ 32) lt) ▸
    (λ _ _ n lt. lt-ltb n (2 ^ 32) lt) ▸
    (λ _ _ n lt. and_from (nat_lt n (2 ^ 32)) true (lt-ltb n (2 ^ 32) lt) refl) ▸
    (λ _ _ n lt. and_from (nat_lt n (2 ^ 32)) true (lt-ltb n (2 ^ 32) lt) refl) ▸
    (λ _ _ n lt. lt-ltb n 256 lt) ▸
    (λ _ _ n lt. lt-ltb n (2 ^ 32) lt) ▸
    (λ r lr n lt. pair_imm B (Reg r) n (lt-ltb r 8 lr) (lt-ltb n 256 lt)) ▸
    (λ r lr n lt. pair_imm D (Reg r) n (lt-ltb r 8 lr) (lt-ltb n (2 ^ 32) lt)) ▸
    no_more

makes_C0 : MakesRows rows_C0
makes_C0 =
    (λ _ _ h g m e fm. map_makes (shift_of h.reg) _ g m e
    (λ k. λ n lt. and_from (fits_operand m) (nat_lt n 256) fm (lt-ltb n 256 lt))) ▸
    (λ _ _ n lt. lt-ltb n (2 ^ 16) lt) ▸
    (λ _ _. refl) ▸
    (λ _ _ h g m e fm. or_makes (h.reg == 0) (h.mode == 3 && h.reg == 7 && h.rm == 0) _ _ g m e
    (λ n lt. pair_imm B m n fm (lt-ltb n 256 lt)) (λ n lt. lt-ltb n 256 lt)) ▸
    (λ _ _ h g m e fm. or_makes (h.reg == 0) (h.mode == 3 && h.reg == 7 && h.rm == 0) _ _ g m e
    (λ n lt. pair_imm D m n fm (lt-ltb n (2 ^ 32) lt)) (λ n lt. lt-ltb n (2 ^ 32) lt)) ▸
    (λ _ _. refl) ▸
    (λ _ _. refl) ▸
    (λ _ _ h g m e fm. map_makes (shift_of h.reg) _ g m e (λ k. and_from (fits_operand m) true fm refl)) ▸
    (λ _ _ h g m e fm. map_makes (shift_of h.reg) _ g m e (λ k. and_from (fits_operand m) true fm refl)) ▸
    (λ _ _ n e. e) ▸
    (λ _ _ n e. e) ▸
    (λ _ _ n lt. lt-ltb n (2 ^ 32) lt) ▸
    (λ _ _ n lt. lt-ltb n (2 ^ 32) lt) ▸
    (λ _ _ n e. e) ▸
    (λ _ _. refl) ▸
    (λ _ _. refl) ▸
    (λ _ _ h g m e fm. only_makes (h.reg == 0) _ g m e (λ n lt. pair_imm B m n fm (lt-ltb n 256 lt))) ▸
    (λ _ _ h g m e fm. unary_makes h.reg g m fm e) ▸
    (λ _ _. refl) ▸
    (λ _ _. refl) ▸
    (λ _ _ h g m e fm. map_makes (inc_dec_of h.reg) _ g m e (λ k. fm)) ▸
    (λ _ _ h g m e fm. ff_makes h.reg g m fm e) ▸
    no_more

makes_two_rows : MakesRows two_byte_rows
makes_two_rows =
    (λ _ _ h g m e fm. or_makes (h.mode == 3 && h.reg == 2 && h.rm == 5) (h.mode == 3 && h.reg == 2 && h.rm == 6) _ _ g
    m e refl refl) ▸
    (λ _ _. refl) ▸
    (λ _ _ h g m e fm. only_makes (h.reg == 0) _ g m e (fm)) ▸
    (λ _ _ r m lr fm. r_and_m r m lr fm) ▸
    (λ _ _ n lt. lt-ltb n (2 ^ 32) lt) ▸
    (λ _ _ h g m e fm. only_makes (h.reg == 0) _ g m e (fm)) ▸
    (λ _ _. refl) ▸
    (λ _ _ h g m e fm. fence_makes (h.mode == 3 && h.rm == 0) h.reg g m e) ▸
    (λ _ _ r m lr fm. r_and_m r m lr fm) ▸
    (λ _ _ r m lr fm. m_and_r r m lr fm) ▸
    (λ _ _ r m lr fm. r_and_m r m lr fm) ▸
    (λ _ _ h g m e fm. map_makes (bit_of h.reg) _ g m e
    (λ k n lt. and_from (fits_operand m) (nat_lt n 256) fm (lt-ltb n 256 lt))) ▸
    (λ _ _ r m lr fm. r_and_m r m lr fm) ▸
    (λ _ _ r m lr fm. m_and_r r m lr fm) ▸
    no_more

makes_if : (t : Bool) (f g : Form) → Makes f → Makes g → Makes (cond t f g)
makes_if true f g x y = x
makes_if false f g x y = y

makes_one : (b : ℕ) → Makes (one_byte b)
unfolding one_byte alu_row row_40 row_80 row_A0 row_C0
makes_one b =
    makes_if (nat_lt b 0x40) (look_up (alu_rows (alu_of (b / 8))) (b % 8)) _
    (makes_rows (alu_rows (alu_of (b / 8))) (alu_makes (alu_of (b / 8))) (b % 8))
    (makes_if (nat_lt b 0x80) (look_up rows_40 b) _ (makes_rows rows_40 makes_40 b)
    (makes_if (nat_lt b 0xA0) (look_up rows_80 b) _ (makes_rows rows_80 makes_80 b)
    (makes_if (nat_lt b 0xC0) (look_up rows_A0 b) (look_up rows_C0 b) (makes_rows rows_A0 makes_A0 b)
    (makes_rows rows_C0 makes_C0 b))))

makes_two : (b : ℕ) → Makes (two_byte b)
unfolding two_byte
makes_two b = makes_rows two_byte_rows makes_two_rows b

makes_f3 : (b : ℕ) → Makes (behind_f3 b)
unfolding behind_f3
makes_f3 b = makes_rows (row 0x90 (plain (done (op.Bare bare.Pause))) ∷ []) ((λ _ _. refl) ▸ no_more) b

op_encodable : {s : List ℕ} {i : Op} → SpellsOp s i → encodable i ≡ true
op_encodable (one {b = b} lt h) = makes_form h (makes_one b)
op_encodable (two {b = b} lt h) = makes_form h (makes_two b)
op_encodable (with_f3 {b = b} lt h) = makes_form h (makes_f3 b)

pub insn_encodable : {s : List ℕ} {i : Insn} → Spells s i → is_encodable i ≡ true
insn_encodable (unlocked {i = i} h) = and_from (encodable i) true (op_encodable h) refl
insn_encodable (locked {i = i} h l) = and_from (encodable i) (lockable i) (op_encodable h) l
