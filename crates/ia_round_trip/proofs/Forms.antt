-- Printed operands are read as the instruction that they were printed for.
use Rattle.std.proofs.Common.{◌≡◌, ℕ, ◌^◌, Bool, true, false, List, [], ◌∷◌, ◌++◌, Option, Some, None, refl, sym, ◌∙◌}
use Rattle.std.specs.Prelude.{◌&&◌, nat_lt, option_map, option_to_list}
use Rattle.std.specs.List.{AllByRecursion}
use Rattle.ia_word.specs.declared.operation.UnaryOp.{UnaryOp}
use Rattle.ia_word.specs.declared.operation.UnaryOp.TheVariants as unary
use Rattle.ia_word.specs.declared.width.Width.{Width}
use Rattle.ia_word.specs.declared.width.Width.TheVariants.{B, D}
use Rattle.ia_insn.specs.declared.kinds.Count.TheVariants as count
use Rattle.ia_insn.specs.declared.op.Op.{Op}
use Rattle.ia_insn.specs.declared.op.Op.TheVariants as op
use Rattle.ia_insn.specs.declared.operand.Mem.{Mem}
use Rattle.ia_insn.specs.declared.operand.Operand.{Operand}
use Rattle.ia_insn.specs.declared.operand.Operand.TheVariants.{Reg, Imm, Mem as Memory}
use Rattle.ia_insn.specs.Writing.{fits_mem, fits_operand}
use Rattle.ia_insn.specs.declared.argument.Argument.{Argument}
use Rattle.ia_insn.specs.declared.argument.Argument.TheVariants as argument
use Rattle.ia_insn.specs.declared.argument.Arguments.{Arguments}
use Rattle.ia_insn.specs.Arguments.{operands_of, fits_argument, fits_where_there, all_fit, may_meet}
use Rattle.ia_insn.specs.Encoding.{encodable}
use Rattle.ia_insn.proofs.ByOperands.{by_operands}
use Rattle.ia_insn.specs.Mnemonics.{unary_mnemonic, mnemonic_of}
use Rattle.ia_item.specs.Fields.{with_number, with_displacement, with_disp}
use Rattle.ia_text.specs.declared.arg.Arg.{Arg}
use Rattle.ia_text.specs.Arguments.{operand_arg, says_short, shown_arg, target as jump_target}
use Rattle.ia_form.specs.declared.shape.OperandShape.{OperandShape}
use Rattle.ia_form.specs.declared.shape.OperandShape.TheVariants as shape
use Rattle.ia_form.specs.declared.shape.OperandShapes.TheVariants.{One}
use Rattle.ia_form.specs.Forms.{op_of, target}
use Rattle.ia_source.specs.Operands.{Operands, empty_operands}
use Rattle.ia_round_trip.specs.Operands.{FitsArg, operands_for, args_of}
use Rattle.ia_round_trip.specs.Resolution.{op_with_number, op_with_displacement, by_op}
use Rattle.ia_round_trip.specs.Forms.{expression_of}
use Rattle.ia_round_trip.proofs.MemoryOperands.{two}
use Rattle.ia_round_trip.proofs.Fields.{byte_number, half_number, long_number, near_number, short_number, number_again}
use Rattle.ia_round_trip.proofs.Fields.{place_again, both_again}

-- ---- what an encodable operation prints

operand_fits : (w : Width) (m : Operand) → fits_operand m ≡ true → FitsArg (operand_arg w m)
operand_fits w (Reg r) e = e
operand_fits w (Memory m) e = e
operand_fits w (Imm n) e = tt

arg_fits : (says : Bool) (at : ℕ) (x : Argument) → fits_argument x ≡ true → FitsArg (shown_arg says at x)
arg_fits says at (argument.Operand role w m) e = operand_fits w m e
arg_fits says at (argument.Source w (Reg r)) e = e
arg_fits says at (argument.Source w (Memory m)) e = e
arg_fits says at (argument.Source w (Imm n)) e = tt
arg_fits says at (argument.Address m) e = e
arg_fits says at (argument.Count (count.Imm n)) e = tt
arg_fits says at (argument.Count count.Cl) e = tt
arg_fits says at (argument.Byte n) e = tt
arg_fits says at (argument.Half n) e = tt
arg_fits says at (argument.Near long d) e = tt
arg_fits true at (argument.Short d) e = tt
arg_fits false at (argument.Short d) e = tt

abbrev shown : Bool → ℕ → Option Argument → List Arg
shown says at x = option_to_list (option_map (shown_arg says at) x)

one_fits : (says : Bool) (at : ℕ) (x : Option Argument) → fits_where_there x ≡ true
    → AllByRecursion FitsArg (shown says at x)
one_fits says at None e = tt
one_fits says at (Some x) e = (arg_fits says at x e, tt)

both_fit : (xs ys : List Arg) → AllByRecursion FitsArg xs → AllByRecursion FitsArg ys
    → AllByRecursion FitsArg (xs ++ ys)
both_fit [] ys f g = g
both_fit (x ∷ xs) ys f g = (f.0, both_fit xs ys f.1 g)

-- since each operand of an encodable operation fits
pub args_fit : (o : Op) (at : ℕ) → encodable o ≡ true → AllByRecursion FitsArg (args_of o at)
args_fit o at e =
    let says : Bool = says_short o in
    let x : Arguments = operands_of o in
    let fit = (two (all_fit x) (may_meet o) (sym (by_operands o) ∙ e)).0 in
    let front = two (fits_where_there x.first && fits_where_there x.second) (fits_where_there x.third) fit in
    let ends = two (fits_where_there x.first) (fits_where_there x.second) front.0 in
    both_fit (shown says at x.first ++ shown says at x.second) (shown says at x.third)
    (both_fit (shown says at x.first) (shown says at x.second) (one_fits says at x.first ends.0)
    (one_fits says at x.second ends.1))
    (one_fits says at x.third front.1)

-- ---- forms

-- with number and displacement 0
abbrev pub bare : Op → Op
bare o = with_displacement (with_number o 0) 0

-- the operands that are printed for an operation write it, up to its number and its displacement, which their
-- expressions give again
abbrev pub Again : Op → ℕ → Type 0
Again o at = (os : Operands) × (operands_for empty_operands (args_of o at) ≡ Some os)
    × (op_of (mnemonic_of o) os.shapes ≡ Some (bare o))
    × (by_op (op_with_number at (expression_of os.number) (bare o))
    (op_with_displacement at (expression_of os.displacement)) ≡ Some o)

unary_op : (k : UnaryOp) (s : OperandShape)
    → op_of (unary_mnemonic k) (One s) ≡ option_map (λ o. op.Unary k o) (target D s)
unfolding op_of
unary_op unary.Imul s = refl
unary_op _ s = refl

-- a register or a place
by_operand : (at : ℕ) (f : Operand → Op) (m : Operand) → fits_operand m ≡ true
    → ((s : ℕ) → Again (f (Reg s)) at) → ((p : Mem) → fits_mem p ≡ true → Again (f (Memory p)) at) → Again (f m) at
by_operand at f (Reg s) e g h = g s
by_operand at f (Memory p) e g h = h p e
by_operand at f (Imm n) e g h = absurd cc

pub again : (o : Op) (at : ℕ) → encodable o ≡ true → Again o at
unfolding op_of
again (op.Alu k B (Reg r) (Reg s)) at e = (_, refl, refl, refl)
again (op.Alu k D (Reg r) (Reg s)) at e = (_, refl, refl, refl)
again (op.Alu k B (Memory m) (Reg s)) at e = (
  _,
  refl,
  refl,
  place_again at (λ p. op.Alu k B (Memory p) (Reg s)) m (λ n d. refl) (two (fits_mem m) (nat_lt s 8) e).0,
)
again (op.Alu k D (Memory m) (Reg s)) at e = (
  _,
  refl,
  refl,
  place_again at (λ p. op.Alu k D (Memory p) (Reg s)) m (λ n d. refl) (two (fits_mem m) (nat_lt s 8) e).0,
)
again (op.Alu k B (Reg r) (Memory m)) at e = (
  _,
  refl,
  refl,
  place_again at (λ p. op.Alu k B (Reg r) (Memory p)) m (λ n d. refl) (two (nat_lt r 8) (fits_mem m) e).1,
)
again (op.Alu k D (Reg r) (Memory m)) at e = (
  _,
  refl,
  refl,
  place_again at (λ p. op.Alu k D (Reg r) (Memory p)) m (λ n d. refl) (two (nat_lt r 8) (fits_mem m) e).1,
)
again (op.Alu k B (Reg r) (Imm x)) at e = (
  _,
  refl,
  refl,
  number_again at (λ n. op.Alu k B (Reg r) (Imm n)) x x refl (byte_number at x (two (nat_lt r 8) (nat_lt x 256) e).1),
)
again (op.Alu k D (Reg r) (Imm x)) at e = (
  _,
  refl,
  refl,
  number_again at (λ n. op.Alu k D (Reg r) (Imm n)) x x refl
      (long_number at x (two (nat_lt r 8) (nat_lt x (2 ^ 32)) e).1),
)
again (op.Alu k B (Memory m) (Imm x)) at e = (
  _,
  refl,
  refl,
  both_again at (λ p n. op.Alu k B (Memory p) (Imm n)) m x x refl (λ n d. refl) (two (fits_mem m) (nat_lt x 256) e).0
      (byte_number at x (two (fits_mem m) (nat_lt x 256) e).1),
)
again (op.Alu k D (Memory m) (Imm x)) at e = (
  _,
  refl,
  refl,
  both_again at (λ p n. op.Alu k D (Memory p) (Imm n)) m x x refl (λ n d. refl)
      (two (fits_mem m) (nat_lt x (2 ^ 32)) e).0 (long_number at x (two (fits_mem m) (nat_lt x (2 ^ 32)) e).1),
)
again (op.Alu k w (Imm x) (Reg s)) at e = absurd cc
again (op.Alu k w (Imm x) (Memory s)) at e = absurd cc
again (op.Alu k w (Memory m) (Memory s)) at e = absurd cc
again (op.Alu k w (Imm x) (Imm s)) at e = absurd cc
again (op.Mov B (Reg r) (Reg s)) at e = (_, refl, refl, refl)
again (op.Mov D (Reg r) (Reg s)) at e = (_, refl, refl, refl)
again (op.Mov B (Memory m) (Reg s)) at e = (
  _,
  refl,
  refl,
  place_again at (λ p. op.Mov B (Memory p) (Reg s)) m (λ n d. refl) (two (fits_mem m) (nat_lt s 8) e).0,
)
again (op.Mov D (Memory m) (Reg s)) at e = (
  _,
  refl,
  refl,
  place_again at (λ p. op.Mov D (Memory p) (Reg s)) m (λ n d. refl) (two (fits_mem m) (nat_lt s 8) e).0,
)
again (op.Mov B (Reg r) (Memory m)) at e = (
  _,
  refl,
  refl,
  place_again at (λ p. op.Mov B (Reg r) (Memory p)) m (λ n d. refl) (two (nat_lt r 8) (fits_mem m) e).1,
)
again (op.Mov D (Reg r) (Memory m)) at e = (
  _,
  refl,
  refl,
  place_again at (λ p. op.Mov D (Reg r) (Memory p)) m (λ n d. refl) (two (nat_lt r 8) (fits_mem m) e).1,
)
again (op.Mov B (Reg r) (Imm x)) at e = (
  _,
  refl,
  refl,
  number_again at (λ n. op.Mov B (Reg r) (Imm n)) x x refl (byte_number at x (two (nat_lt r 8) (nat_lt x 256) e).1),
)
again (op.Mov D (Reg r) (Imm x)) at e = (
  _,
  refl,
  refl,
  number_again at (λ n. op.Mov D (Reg r) (Imm n)) x x refl
      (long_number at x (two (nat_lt r 8) (nat_lt x (2 ^ 32)) e).1),
)
again (op.Mov B (Memory m) (Imm x)) at e = (
  _,
  refl,
  refl,
  both_again at (λ p n. op.Mov B (Memory p) (Imm n)) m x x refl (λ n d. refl) (two (fits_mem m) (nat_lt x 256) e).0
      (byte_number at x (two (fits_mem m) (nat_lt x 256) e).1),
)
again (op.Mov D (Memory m) (Imm x)) at e = (
  _,
  refl,
  refl,
  both_again at (λ p n. op.Mov D (Memory p) (Imm n)) m x x refl (λ n d. refl) (two (fits_mem m) (nat_lt x (2 ^ 32)) e).0
      (long_number at x (two (fits_mem m) (nat_lt x (2 ^ 32)) e).1),
)
again (op.Mov w (Imm x) (Reg s)) at e = absurd cc
again (op.Mov w (Imm x) (Memory s)) at e = absurd cc
again (op.Mov w (Memory m) (Memory s)) at e = absurd cc
again (op.Mov w (Imm x) (Imm s)) at e = absurd cc
again (op.Test B (Reg r) (Reg s)) at e = (_, refl, refl, refl)
again (op.Test D (Reg r) (Reg s)) at e = (_, refl, refl, refl)
again (op.Test B (Memory m) (Reg s)) at e = (
  _,
  refl,
  refl,
  place_again at (λ p. op.Test B (Memory p) (Reg s)) m (λ n d. refl) (two (fits_mem m) (nat_lt s 8) e).0,
)
again (op.Test D (Memory m) (Reg s)) at e = (
  _,
  refl,
  refl,
  place_again at (λ p. op.Test D (Memory p) (Reg s)) m (λ n d. refl) (two (fits_mem m) (nat_lt s 8) e).0,
)
again (op.Test B (Reg r) (Imm x)) at e = (
  _,
  refl,
  refl,
  number_again at (λ n. op.Test B (Reg r) (Imm n)) x x refl (byte_number at x (two (nat_lt r 8) (nat_lt x 256) e).1),
)
again (op.Test D (Reg r) (Imm x)) at e = (
  _,
  refl,
  refl,
  number_again at (λ n. op.Test D (Reg r) (Imm n)) x x refl
      (long_number at x (two (nat_lt r 8) (nat_lt x (2 ^ 32)) e).1),
)
again (op.Test B (Memory m) (Imm x)) at e = (
  _,
  refl,
  refl,
  both_again at (λ p n. op.Test B (Memory p) (Imm n)) m x x refl (λ n d. refl) (two (fits_mem m) (nat_lt x 256) e).0
      (byte_number at x (two (fits_mem m) (nat_lt x 256) e).1),
)
again (op.Test D (Memory m) (Imm x)) at e = (
  _,
  refl,
  refl,
  both_again at (λ p n. op.Test D (Memory p) (Imm n)) m x x refl (λ n d. refl)
      (two (fits_mem m) (nat_lt x (2 ^ 32)) e).0 (long_number at x (two (fits_mem m) (nat_lt x (2 ^ 32)) e).1),
)
again (op.Test w (Imm x) (Reg s)) at e = absurd cc
again (op.Test w m (Memory s)) at e = absurd cc
again (op.Test w (Imm x) (Imm s)) at e = absurd cc
again (op.Lea r m) at e =
    (_, refl, refl, place_again at (λ p. op.Lea r p) m (λ n d. refl) (two (nat_lt r 8) (fits_mem m) e).1)
again (op.Xchg B (Reg s) r) at e = (_, refl, refl, refl)
again (op.Xchg D (Reg s) r) at e = (_, refl, refl, refl)
again (op.Xchg B (Memory m) r) at e =
    (_, refl, refl, place_again at (λ p. op.Xchg B (Memory p) r) m (λ n d. refl) (two (fits_mem m) (nat_lt r 8) e).0)
again (op.Xchg D (Memory m) r) at e =
    (_, refl, refl, place_again at (λ p. op.Xchg D (Memory p) r) m (λ n d. refl) (two (fits_mem m) (nat_lt r 8) e).0)
again (op.Xchg w (Imm x) r) at e = absurd cc
again (op.IncDec k w m) at e = by_operand at (op.IncDec k w) m e
    (λ s. (_, refl, refl, refl))
    (λ p h. (_, refl, refl, place_again at (λ q. op.IncDec k w (Memory q)) p (λ n d. refl) h))
again (op.Pop m) at e = by_operand at op.Pop m e
    (λ s. (_, refl, refl, refl)) (λ p h. (_, refl, refl, place_again at (λ q. op.Pop (Memory q)) p (λ n d. refl) h))
again (op.CallTo m) at e = by_operand at op.CallTo m e
    (λ s. (_, refl, refl, refl)) (λ p h. (_, refl, refl, place_again at (λ q. op.CallTo (Memory q)) p (λ n d. refl) h))
again (op.JmpTo m) at e = by_operand at op.JmpTo m e
    (λ s. (_, refl, refl, refl)) (λ p h. (_, refl, refl, place_again at (λ q. op.JmpTo (Memory q)) p (λ n d. refl) h))
again (op.NopOf m) at e = by_operand at op.NopOf m e
    (λ s. (_, refl, refl, refl)) (λ p h. (_, refl, refl, place_again at (λ q. op.NopOf (Memory q)) p (λ n d. refl) h))
again (op.Setcc c m) at e = by_operand at (op.Setcc c) m e
    (λ s. (_, refl, refl, refl)) (λ p h. (_, refl, refl, place_again at (λ q. op.Setcc c (Memory q)) p (λ n d. refl) h))
again (op.Unary k m) at e = by_operand at (op.Unary k) m e
    (λ s. (_, refl, unary_op k (shape.Register D s), refl))
    (λ p h. (
      _,
      refl,
      unary_op k (shape.Memory (Some D) (with_disp p 0)),
      place_again at (λ q. op.Unary k (Memory q)) p (λ n d. refl) h,
    ))
again (op.Imul r m) at e = by_operand at (op.Imul r) m (two (nat_lt r 8) (fits_operand m) e).1
    (λ s. (_, refl, refl, refl)) (λ p h. (_, refl, refl, place_again at (λ q. op.Imul r (Memory q)) p (λ n d. refl) h))
again (op.Cmovcc c r m) at e = by_operand at (op.Cmovcc c r) m (two (nat_lt r 8) (fits_operand m) e).1
    (λ s. (_, refl, refl, refl))
    (λ p h. (_, refl, refl, place_again at (λ q. op.Cmovcc c r (Memory q)) p (λ n d. refl) h))
again (op.Extend k r m) at e = by_operand at (op.Extend k r) m (two (nat_lt r 8) (fits_operand m) e).1
    (λ s. (_, refl, refl, refl))
    (λ p h. (_, refl, refl, place_again at (λ q. op.Extend k r (Memory q)) p (λ n d. refl) h))
again (op.ImulImm r (Reg s) x) at e = (
  _,
  refl,
  refl,
  number_again at (λ n. op.ImulImm r (Reg s) n) x x refl
      (long_number at x (two (nat_lt r 8 && nat_lt s 8) (nat_lt x (2 ^ 32)) e).1),
)
again (op.ImulImm r (Memory m) x) at e = (
  _,
  refl,
  refl,
  both_again at (λ p n. op.ImulImm r (Memory p) n) m x x refl (λ n d. refl)
      (two (nat_lt r 8) (fits_mem m) (two (nat_lt r 8 && fits_mem m) (nat_lt x (2 ^ 32)) e).0).1
      (long_number at x (two (nat_lt r 8 && fits_mem m) (nat_lt x (2 ^ 32)) e).1),
)
again (op.ImulImm r (Imm x) y) at e =
    let h : false ≡ true = (two (nat_lt r 8) false (two (nat_lt r 8 && false) (nat_lt y (2 ^ 32)) e).0).1 in absurd cc
again (op.Shift k (Reg r) (count.Imm x)) at e = (
  _,
  refl,
  refl,
  number_again at (λ n. op.Shift k (Reg r) (count.Imm n)) x x refl
      (byte_number at x (two (nat_lt r 8) (nat_lt x 256) e).1),
)
again (op.Shift k (Memory m) (count.Imm x)) at e = (
  _,
  refl,
  refl,
  both_again at (λ p n. op.Shift k (Memory p) (count.Imm n)) m x x refl (λ n d. refl)
      (two (fits_mem m) (nat_lt x 256) e).0 (byte_number at x (two (fits_mem m) (nat_lt x 256) e).1),
)
again (op.Shift k (Imm x) (count.Imm y)) at e = absurd cc
again (op.Shift k (Reg r) count.Cl) at e = (_, refl, refl, refl)
again (op.Shift k (Memory m) count.Cl) at e =
    (_, refl, refl, place_again at (λ p. op.Shift k (Memory p) count.Cl) m (λ n d. refl) (two (fits_mem m) true e).0)
again (op.Shift k (Imm x) count.Cl) at e = absurd cc
again (op.Push (Reg r)) at e = (_, refl, refl, refl)
again (op.Push (Memory m)) at e = (_, refl, refl, place_again at (λ p. op.Push (Memory p)) m (λ n d. refl) e)
again (op.Push (Imm x)) at e = (_, refl, refl, number_again at (λ n. op.Push (Imm n)) x x refl (long_number at x e))
again (op.Exchange k m r) at e = by_operand at (λ m. op.Exchange k m r) m (two (fits_operand m) (nat_lt r 8) e).0
    (λ s. (_, refl, refl, refl))
    (λ p h. (_, refl, refl, place_again at (λ q. op.Exchange k (Memory q) r) p (λ n d. refl) h))
again (op.Bit k (Reg r) x) at e = (
  _,
  refl,
  refl,
  number_again at (λ n. op.Bit k (Reg r) n) x x refl (byte_number at x (two (nat_lt r 8) (nat_lt x 256) e).1),
)
again (op.Bit k (Memory m) x) at e = (
  _,
  refl,
  refl,
  both_again at (λ p n. op.Bit k (Memory p) n) m x x refl (λ n d. refl) (two (fits_mem m) (nat_lt x 256) e).0
      (byte_number at x (two (fits_mem m) (nat_lt x 256) e).1),
)
again (op.Bit k (Imm x) y) at e = absurd cc
again (op.Call d) at e =
    (_, refl, refl, number_again at (λ n. op.Call n) (jump_target at 5 d) d refl (near_number at 5 d e))
again (op.Jmp d) at e =
    (_, refl, refl, number_again at (λ n. op.Jmp n) (jump_target at 5 d) d refl (near_number at 5 d e))
again (op.Jcc c d) at e =
    (_, refl, refl, number_again at (λ n. op.Jcc c n) (jump_target at 6 d) d refl (near_number at 6 d e))
again (op.Xbegin d) at e =
    (_, refl, refl, number_again at (λ n. op.Xbegin n) (jump_target at 6 d) d refl (near_number at 6 d e))
again (op.JmpShort d) at e =
    (_, refl, refl, number_again at (λ n. op.JmpShort n) (jump_target at 2 d) d refl (short_number at 2 d e))
again (op.JccShort c d) at e =
    (_, refl, refl, number_again at (λ n. op.JccShort c n) (jump_target at 2 d) d refl (short_number at 2 d e))
again (op.LoopJump k d) at e =
    (_, refl, refl, number_again at (λ n. op.LoopJump k n) (jump_target at 2 d) d refl (short_number at 2 d e))
again (op.RetPop x) at e = (_, refl, refl, number_again at (λ n. op.RetPop n) x x refl (half_number at x e))
again (op.Xabort x) at e = (_, refl, refl, number_again at (λ n. op.Xabort n) x x refl (byte_number at x e))
again _ at e = (_, refl, refl, refl)
