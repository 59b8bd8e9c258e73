-- Where an instruction loads nothing, what is given as loaded does not count.
use Rattle.std.proofs.Common.{◌≡◌, ℕ, Some, None, refl, ap, ◌∙◌}
use Rattle.ia_word.specs.declared.width.Width.{Width}
use Rattle.ia_word.specs.declared.width.Width.TheVariants.{B, D}
use Rattle.ia_word.specs.declared.operation.BareOp.{BareOp}
use Rattle.ia_word.specs.declared.operation.BareOp.TheVariants as bare
use Rattle.ia_regs.specs.declared.Regs.{Regs}
use Rattle.ia_insn.specs.declared.operand.Operand.{Operand}
use Rattle.ia_insn.specs.declared.operand.Operand.TheVariants.{Reg, Imm, Mem as Memory}
use Rattle.ia_insn.specs.declared.op.Op.{Op}
use Rattle.ia_insn.specs.declared.op.Op.TheVariants as op
use Rattle.ia_insn.specs.declared.op.Insn.{Insn}
use Rattle.ia_addr.specs.declared.Access.{Access}
use Rattle.ia_addr.specs.Load.{load_of, op_load, read_of, pair_of}
use Rattle.ia_exec.specs.Words.{reg, with_reg, at, value_of, put_of, without_store, behind}
use Rattle.ia_exec.specs.Arithmetic.{alu_of, test_of, inc_dec_of, imul_low_of, shift_of, count_of, bit_of, exchange_of}
use Rattle.ia_exec.specs.Moves.{xchg_of, cmovcc_of, extended}
use Rattle.ia_exec.specs.Control.{push_of}
use Rattle.ia_exec.specs.Table.{effect_of, move_of, control_of, done_of, finish_of, goes_on, unary_of, bare_of}

not_loaded : (x : Access) → Some x ≡ None → ⊥
not_loaded x e = cc

value_same : (w : Width) (m : Operand) (r q : Regs) (a b : ℕ) → read_of w m r ≡ None
    → value_of w m q a ≡ value_of w m q b
unfolding read_of value_of
value_same B (Reg n) r q a b none = refl
value_same D (Reg n) r q a b none = refl
value_same w (Memory m) r q a b none = elim (not_loaded _ none) [ ]
value_same w (Imm n) r q a b none = refl

to_unread : (w : Width) (t s : Operand) (r : Regs) → pair_of w t s r ≡ None → read_of w t r ≡ None
unfolding pair_of read_of
to_unread w (Memory m) (Memory n) r none = elim (not_loaded _ none) [ ]
to_unread w (Reg m) (Memory n) r none = refl
to_unread w (Imm m) (Memory n) r none = refl
to_unread w t (Reg n) r none = none
to_unread w t (Imm n) r none = none

from_unread : (w : Width) (t s : Operand) (r : Regs) → pair_of w t s r ≡ None → read_of w s r ≡ None
unfolding pair_of read_of
from_unread w t (Memory n) r none = none
from_unread w t (Reg n) r none = refl
from_unread w t (Imm n) r none = refl

bare_same : (k : BareOp) (r q : Regs) (a b depth : ℕ) → op_load (op.Bare k) r ≡ None
    → bare_of k q a depth ≡ bare_of k q b depth
unfolding bare_of op_load
bare_same bare.Leave r q a b depth none = elim (not_loaded _ none) [ ]
bare_same _ r q a b depth none = refl

done_same : (o : Op) (r q : Regs) (a b depth : ℕ) → op_load o r ≡ None → done_of o q a depth ≡ done_of o q b depth
unfolding done_of effect_of move_of control_of op_load
done_same (op.Alu k w t s) r q a b depth none =
    ap (λ v. goes_on (alu_of k w t v (value_of w s q a) q)) (value_same w t r q a b (to_unread w t s r none))
    ∙ ap (λ v. goes_on (alu_of k w t (value_of w t q b) v q)) (value_same w s r q a b (from_unread w t s r none))
done_same (op.Mov w t s) r q a b depth none = ap (λ v. goes_on (put_of w t v q q)) (value_same w s r q a b none)
done_same (op.Lea n m) r q a b depth none = refl
done_same (op.Xchg w m n) r q a b depth none = ap (λ v. goes_on (xchg_of w m n v q)) (value_same w m r q a b none)
done_same (op.IncDec k w m) r q a b depth none = ap (λ v. goes_on (inc_dec_of k w m v q)) (value_same w m r q a b none)
done_same (op.Test w t s) r q a b depth none =
    ap (λ v. goes_on (test_of w v (value_of w s q a) q)) (value_same w t r q a b (to_unread w t s r none))
    ∙ ap (λ v. goes_on (test_of w (value_of w t q b) v q)) (value_same w s r q a b (from_unread w t s r none))
done_same (op.Unary k m) r q a b depth none = ap (λ v. unary_of k m v q depth) (value_same D m r q a b none)
done_same (op.Imul n m) r q a b depth none =
    ap (λ v. goes_on (imul_low_of n (reg q n) v q)) (value_same D m r q a b none)
done_same (op.ImulImm n m i) r q a b depth none = ap (λ v. goes_on (imul_low_of n v i q)) (value_same D m r q a b none)
done_same (op.Shift k m c) r q a b depth none =
    ap (λ v. goes_on (shift_of k m (count_of c q) v q)) (value_same D m r q a b none)
done_same (op.Push m) r q a b depth none = ap (λ v. goes_on (push_of v q)) (value_same D m r q a b none)
done_same (op.Pop m) r q a b depth none = elim (not_loaded _ none) [ ]
done_same (op.Call d) r q a b depth none = refl
done_same (op.CallTo m) r q a b depth none = ap (λ v. goes_on (push_of q.eip (at v q))) (value_same D m r q a b none)
done_same op.Ret r q a b depth none = elim (not_loaded _ none) [ ]
done_same (op.RetPop n) r q a b depth none = elim (not_loaded _ none) [ ]
done_same (op.Jmp d) r q a b depth none = refl
done_same (op.JmpShort d) r q a b depth none = refl
done_same (op.JmpTo m) r q a b depth none = ap (λ v. goes_on (without_store (at v q))) (value_same D m r q a b none)
done_same (op.Jcc c d) r q a b depth none = refl
done_same (op.JccShort c d) r q a b depth none = refl
done_same (op.Setcc c m) r q a b depth none = refl
done_same (op.Cmovcc c n m) r q a b depth none = ap (λ v. goes_on (cmovcc_of c n v q)) (value_same D m r q a b none)
done_same (op.LoopJump k d) r q a b depth none = refl
done_same (op.Extend k n m) r q a b depth none =
    ap (λ v. goes_on (without_store (with_reg n (extended k v) q))) (value_same B m r q a b none)
done_same (op.Exchange k m n) r q a b depth none =
    ap (λ v. goes_on (exchange_of k m n v q)) (value_same D m r q a b none)
done_same (op.Bit k m n) r q a b depth none = ap (λ v. goes_on (bit_of k m n v q)) (value_same D m r q a b none)
done_same op.Nop r q a b depth none = refl
done_same (op.NopOf m) r q a b depth none = refl
done_same (op.Bare k) r q a b depth none = bare_same k r q a b depth none
done_same (op.Xbegin d) r q a b depth none = refl
done_same (op.Xabort n) r q a b depth none = refl

pub finish_same : (i : Insn) (len : ℕ) (r : Regs) (a b depth : ℕ) → load_of i r ≡ None
    → finish_of i len r a depth ≡ finish_of i len r b depth
unfolding finish_of load_of
finish_same i len r a b depth none = done_same i.op r (behind len r) a b depth none
