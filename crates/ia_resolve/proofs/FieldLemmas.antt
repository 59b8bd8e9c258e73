-- An instruction stays encodable whatever its fields hold.
use Rattle.std.proofs.Common.{◌≡◌, ℕ, ◌^◌, ◌<◌, Bool, true, false, Option, Some, None, refl, sym, ◌∙◌, ap, IsTrue}
use Rattle.std.specs.Prelude.{◌&&◌, ◌||◌, not, nat_lt, option_map}
use Rattle.std.proofs.lemmas.Bool.{lt-ltb}
use Rattle.ia_word.specs.declared.width.Width.TheVariants.{B, D}
use Rattle.ia_word.specs.declared.operation.UnaryOp.TheVariants as unary
use Rattle.ia_insn.specs.declared.kinds.Count.TheVariants as count
use Rattle.ia_insn.specs.declared.op.Op.{Op}
use Rattle.ia_insn.specs.declared.op.Op.TheVariants as op
use Rattle.ia_insn.specs.declared.operand.Mem.{Mem}
use Rattle.ia_insn.specs.declared.operand.Operand.{Operand}
use Rattle.ia_insn.specs.declared.operand.Operand.TheVariants.{Reg, Imm, Mem as Memory}
use Rattle.ia_insn.specs.Spelling.{is_place, lockable}
use Rattle.ia_insn.specs.declared.argument.Argument.{Argument}
use Rattle.ia_insn.specs.declared.argument.Argument.TheVariants as argument
use Rattle.ia_insn.specs.declared.argument.Arguments.{Arguments}
use Rattle.ia_insn.specs.Arguments.{operands_of, fits_argument, fits_where_there, all_fit, may_meet}
use Rattle.ia_insn.specs.Writing.{fits_base, fits_index, fits_mem, fits_operand}
use Rattle.ia_insn.specs.Encoding.{encodable, is_encodable}
use Rattle.ia_insn.proofs.ByOperands.{by_operands}
use Rattle.ia_item.specs.declared.item.Field.TheVariants as field
use Rattle.ia_item.specs.Fields.{field_in, field_or, field_of, number_in, displacement_in, with_disp, with_number}
use Rattle.ia_item.specs.Fields.{with_displacement, Holds}

and2 : (a b : Bool) → a ≡ true → b ≡ true → (a && b) ≡ true
and2 true true p q = refl
and2 true false p q = q
and2 false b p q = p

both : (a b : Bool) → (a && b) ≡ true → (a ≡ true) × (b ≡ true)
both true b e = (refl, e)
both false b e = absurd cc

-- another second test
second : (a b c : Bool) → c ≡ true → (a && b) ≡ true → (a && c) ≡ true
second a b c h e = and2 a c (both a b e).0 h

below : (a b : ℕ) → a < b → nat_lt a b ≡ true
below a b h = lt-ltb a b h

-- ---- numbers

-- an operand with another number
abbrev numbered : Argument → ℕ → Argument
numbered (argument.Source w s) n = argument.Source w (number_in s n)
numbered (argument.Count (count.Imm x)) n = argument.Count (count.Imm n)
numbered (argument.Byte x) n = argument.Byte n
numbered (argument.Half x) n = argument.Half n
numbered (argument.Near long d) n = argument.Near long n
numbered (argument.Short d) n = argument.Short n
numbered x n = x

numbered_fits : (x : Argument) (n : ℕ) → Holds (field_in x) n → fits_argument x ≡ true
    → fits_argument (numbered x n) ≡ true
numbered_fits (argument.Source B (Imm x)) n h e = below n 256 h
numbered_fits (argument.Source D (Imm x)) n h e = below n (2 ^ 32) h
numbered_fits (argument.Source w (Reg r)) n h e = e
numbered_fits (argument.Source w (Memory m)) n h e = e
numbered_fits (argument.Count (count.Imm x)) n h e = below n 256 h
numbered_fits (argument.Count count.Cl) n h e = e
numbered_fits (argument.Byte x) n h e = below n 256 h
numbered_fits (argument.Half x) n h e = below n (2 ^ 16) h
numbered_fits (argument.Near long d) n h e = below n (2 ^ 32) h
numbered_fits (argument.Short d) n h e = h
numbered_fits (argument.Operand role w m) n h e = e
numbered_fits (argument.Address m) n h e = e

-- operands with another number in the last one
abbrev last_numbered : Option Argument → Option Argument → Option Argument → ℕ → Arguments
last_numbered x y (Some z) n = record { first = x; second = y; third = Some (numbered z n) }
last_numbered x (Some y) None n = record { first = x; second = Some (numbered y n); third = None }
last_numbered (Some x) None None n = record { first = Some (numbered x n); second = None; third = None }
last_numbered None None None n = record { first = None; second = None; third = None }

last_fits : (x y z : Option Argument) (n : ℕ) → Holds (field_or z (field_or y (field_or x field.Long))) n
    → all_fit (record { first = x; second = y; third = z }) ≡ true → all_fit (last_numbered x y z n) ≡ true
last_fits x y (Some z) n h e =
    let front : Bool = fits_where_there x && fits_where_there y in
    second front (fits_argument z) (fits_argument (numbered z n))
    (numbered_fits z n h (both front (fits_argument z) e).1) e
last_fits x (Some y) None n h e =
    let f = both (fits_where_there x && fits_argument y) true e in
    let g = both (fits_where_there x) (fits_argument y) f.0 in
    and2 (fits_where_there x && fits_argument (numbered y n)) true
    (and2 (fits_where_there x) (fits_argument (numbered y n)) g.0 (numbered_fits y n h g.1)) refl
last_fits (Some x) None None n h e =
    let f = both (fits_argument x && true) true e in
    let g = both (fits_argument x) true f.0 in
    and2 (fits_argument (numbered x n) && true) true
    (and2 (fits_argument (numbered x n)) true (numbered_fits x n h g.0) refl) refl
last_fits None None None n h e = e

number_operands : (o : Op) (n : ℕ) → operands_of (with_number o n)
    ≡ last_numbered (operands_of o).first (operands_of o).second (operands_of o).third n
number_operands (op.Shift k m count.Cl) n = refl
number_operands _ n = refl

same_kind : (s : Operand) (n : ℕ) → is_place (number_in s n) ≡ is_place s
same_kind (Reg r) n = refl
same_kind (Memory m) n = refl
same_kind (Imm x) n = refl

number_meets : (o : Op) (n : ℕ) → may_meet (with_number o n) ≡ may_meet o
number_meets (op.Alu k w m s) n = ap (λ b. not (is_place m && b)) (same_kind s n)
number_meets (op.Mov w m s) n = ap (λ b. not (is_place m && b)) (same_kind s n)
number_meets (op.Test w m s) n = ap not (same_kind s n)
number_meets (op.Shift k m count.Cl) n = refl
number_meets _ n = refl

-- by the operands of the one and of the other
encodable_again : (o p : Op) → (all_fit (operands_of o) ≡ true → all_fit (operands_of p) ≡ true)
    → may_meet p ≡ may_meet o
    → encodable o ≡ true → encodable p ≡ true
encodable_again o p fit meet e =
    let f = both (all_fit (operands_of o)) (may_meet o) (sym (by_operands o) ∙ e) in
    by_operands p ∙ and2 (all_fit (operands_of p)) (may_meet p) (fit f.0) (meet ∙ f.1)

pub number_encodable : (o : Op) (n : ℕ) → Holds (field_of o) n → IsTrue (encodable o)
    → IsTrue (encodable (with_number o n))
number_encodable o n h e =
    let x : Arguments = operands_of o in
    encodable_again o (with_number o n)
    (λ f. ap all_fit (number_operands o n) ∙ last_fits x.first x.second x.third n h f) (number_meets o n) e

pub number_lockable : (o : Op) (n : ℕ) → lockable (with_number o n) ≡ lockable o
number_lockable (op.Alu k w (Memory m) s) n = refl
number_lockable (op.Alu k w (Reg m) s) n = refl
number_lockable (op.Alu k w (Imm m) s) n = refl
number_lockable (op.Bit k (Memory m) s) n = refl
number_lockable (op.Bit k (Reg m) s) n = refl
number_lockable (op.Bit k (Imm m) s) n = refl
number_lockable (op.Shift k m (count.Imm x)) n = refl
number_lockable (op.Shift k m count.Cl) n = refl
number_lockable _ n = refl

-- ---- displacements

moved_fits : (m : Mem) (d : ℕ) → d < 2 ^ 32 → fits_mem m ≡ true → fits_mem (with_disp m d) ≡ true
moved_fits m d h e = second (fits_base m.base && fits_index m.index m.scale) (nat_lt m.disp (2 ^ 32))
    (nat_lt d (2 ^ 32)) (below d (2 ^ 32) h) e

operand_fits : (m : Operand) (d : ℕ) → d < 2 ^ 32 → fits_operand m ≡ true → fits_operand (displacement_in m d) ≡ true
operand_fits (Reg r) d h e = e
operand_fits (Memory m) d h e = moved_fits m d h e
operand_fits (Imm n) d h e = e

-- an operand with another displacement
abbrev placed : Argument → ℕ → Argument
placed (argument.Operand role w m) d = argument.Operand role w (displacement_in m d)
placed (argument.Source w s) d = argument.Source w (displacement_in s d)
placed (argument.Address m) d = argument.Address (with_disp m d)
placed x d = x

placed_fits : (x : Argument) (d : ℕ) → d < 2 ^ 32 → fits_argument x ≡ true → fits_argument (placed x d) ≡ true
placed_fits (argument.Operand role w m) d h e = operand_fits m d h e
placed_fits (argument.Source w (Reg r)) d h e = e
placed_fits (argument.Source w (Memory m)) d h e = moved_fits m d h e
placed_fits (argument.Source w (Imm n)) d h e = e
placed_fits (argument.Address m) d h e = moved_fits m d h e
placed_fits _ d h e = e

each_placed : (x : Option Argument) (d : ℕ) → d < 2 ^ 32 → fits_where_there x ≡ true
    → fits_where_there (option_map (λ y. placed y d) x) ≡ true
each_placed None d h e = e
each_placed (Some x) d h e = placed_fits x d h e

abbrev all_placed : Arguments → ℕ → Arguments
all_placed x d = record {
  first = option_map (λ y. placed y d) x.first;
  second = option_map (λ y. placed y d) x.second;
  third = option_map (λ y. placed y d) x.third;
}

all_placed_fit : (x : Arguments) (d : ℕ) → d < 2 ^ 32 → all_fit x ≡ true → all_fit (all_placed x d) ≡ true
all_placed_fit x d h e =
    let y : Arguments = all_placed x d in
    let f = both (fits_where_there x.first && fits_where_there x.second) (fits_where_there x.third) e in
    let g = both (fits_where_there x.first) (fits_where_there x.second) f.0 in
    and2 (fits_where_there y.first && fits_where_there y.second) (fits_where_there y.third)
    (and2 (fits_where_there y.first) (fits_where_there y.second) (each_placed x.first d h g.0)
    (each_placed x.second d h g.1))
    (each_placed x.third d h f.1)

place_operands : (o : Op) (d : ℕ) → operands_of (with_displacement o d) ≡ all_placed (operands_of o) d
place_operands (op.Lea r m) d = refl
place_operands _ d = refl

same_place : (m : Operand) (d : ℕ) → is_place (displacement_in m d) ≡ is_place m
same_place (Reg r) d = refl
same_place (Memory m) d = refl
same_place (Imm n) d = refl

both_places : (m s : Operand) (d : ℕ)
    → not (is_place (displacement_in m d) && is_place (displacement_in s d)) ≡ not (is_place m && is_place s)
both_places m s d =
    ap (λ b. not (b && is_place (displacement_in s d))) (same_place m d)
    ∙ ap (λ b. not (is_place m && b)) (same_place s d)

place_meets : (o : Op) (d : ℕ) → may_meet (with_displacement o d) ≡ may_meet o
place_meets (op.Alu k w m s) d = both_places m s d
place_meets (op.Mov w m s) d = both_places m s d
place_meets (op.Test w m s) d = ap not (same_place s d)
place_meets _ d = refl

pub place_encodable : (o : Op) (d : ℕ) → d < 2 ^ 32 → IsTrue (encodable o) → IsTrue (encodable (with_displacement o d))
place_encodable o d h e =
    encodable_again o (with_displacement o d)
    (λ f. ap all_fit (place_operands o d) ∙ all_placed_fit (operands_of o) d h f) (place_meets o d) e

pub place_lockable : (o : Op) (d : ℕ) → lockable (with_displacement o d) ≡ lockable o
place_lockable (op.Alu k w (Memory m) s) d = refl
place_lockable (op.Alu k w (Reg m) s) d = refl
place_lockable (op.Alu k w (Imm m) s) d = refl
place_lockable (op.IncDec k w m) d = same_place m d
place_lockable (op.Unary unary.Not m) d = same_place m d
place_lockable (op.Unary unary.Neg m) d = same_place m d
place_lockable (op.Xchg w m r) d = same_place m d
place_lockable (op.Exchange k m r) d = same_place m d
place_lockable (op.Bit k (Memory m) n) d = refl
place_lockable (op.Bit k (Reg m) n) d = refl
place_lockable (op.Bit k (Imm m) n) d = refl
place_lockable _ d = refl

-- ---- whole instructions

-- another operation that is encodable, and lockable where the first is
pub insn_encodable : (l : Bool) (o p : Op) → IsTrue (is_encodable (record { lock = l; op = o }))
    → (IsTrue (encodable o) → IsTrue (encodable p)) → lockable p ≡ lockable o
    → IsTrue (is_encodable (record { lock = l; op = p }))
insn_encodable l o p e h same =
    let terms = both (encodable o) (not l || lockable o) e in
    and2 (encodable p) (not l || lockable p) (h terms.0) (ap (λ t. not l || t) same ∙ terms.1)
