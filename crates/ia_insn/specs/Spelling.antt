-- The bytes of an instruction, with F0 or without; fronts of such bytes.
use Rattle.std.specs.Prelude.{◌≡◌, ℕ, Bool, true, false, List, ◌∷◌, ◌++◌, ◌⊎◌, IsTrue}
use Rattle.ia_word.specs.declared.operation.AluOp.{AluOp}
use Rattle.ia_word.specs.declared.operation.AluOp.TheVariants as alu
use Rattle.ia_word.specs.declared.operation.BitOp.{BitOp}
use Rattle.ia_word.specs.declared.operation.BitOp.TheVariants as bit
use Rattle.ia_word.specs.declared.operation.UnaryOp.TheVariants as unary
use Rattle.ia_insn.specs.declared.op.Op.{Op}
use Rattle.ia_insn.specs.declared.op.Op.TheVariants as op
use Rattle.ia_insn.specs.declared.op.Insn.{Insn}
use Rattle.ia_insn.specs.declared.operand.Operand.{Operand}
use Rattle.ia_insn.specs.declared.operand.Operand.TheVariants.{Mem as Memory}
use Rattle.ia_insn.specs.Table.{SpellsOp}

-- ADD OR ADC SBB AND SUB XOR
abbrev pub writes_destination : AluOp → Bool
writes_destination alu.Cmp = false
writes_destination _ = true

-- BTS BTR BTC
abbrev pub sets_bit : BitOp → Bool
sets_bit bit.Bt = false
sets_bit _ = true

abbrev pub is_place : Operand → Bool
is_place (Memory operand) = true
is_place _ = false

-- F0 may stand in front: SDM vol. 2A, "LOCK—Assert LOCK# Signal Prefix"
abbrev pub lockable : Op → Bool
lockable (op.Alu kind width (Memory operand) from) = writes_destination kind
lockable (op.IncDec kind width operand) = is_place operand
lockable (op.Unary unary.Not operand) = is_place operand
lockable (op.Unary unary.Neg operand) = is_place operand
lockable (op.Xchg width operand register) = is_place operand
lockable (op.Exchange kind operand register) = is_place operand
lockable (op.Bit kind (Memory operand) n) = sets_bit kind
lockable _ = false

-- the bytes of an instruction, with F0 once in front or without
pub data Spells : List ℕ → Insn → Type 0 where
  unlocked : {bytes : List ℕ} {i : Op} → SpellsOp bytes i → Spells bytes (record { lock = false; op = i })
  locked : {bytes : List ℕ} {i : Op} → SpellsOp bytes i → IsTrue (lockable i)
      → Spells (0xF0 ∷ bytes) (record { lock = true; op = i })

-- the bytes are a spelling's beginning, and not all of it
abbrev pub IsFront : List ℕ → Type 0
IsFront bytes = (x : ℕ) × (more : List ℕ) × (i : Insn) × Spells (bytes ++ x ∷ more) i

-- the bytes are F0 and a beginning of the bytes of an instruction without F0, lockable or not
abbrev pub IsLockedFront : List ℕ → Type 0
IsLockedFront bytes =
    (back : List ℕ) × (x : ℕ) × (more : List ℕ) × (i : Op) × (bytes ≡ 0xF0 ∷ back) × SpellsOp (back ++ x ∷ more) i

abbrev pub IsShort : List ℕ → Type 0
IsShort bytes = IsFront bytes ⊎ IsLockedFront bytes

-- F0 stands before an instruction that is not lockable
abbrev pub IsLockFault : List ℕ → Type 0
IsLockFault bytes =
    (front : List ℕ) × (rest : List ℕ) × (i : Op) × SpellsOp front i × (lockable i ≡ false)
    × (bytes ≡ 0xF0 ∷ (front ++ rest))

-- no spelling stands in front, and the bytes are none of the above
abbrev pub IsOther : List ℕ → Type 0
IsOther bytes =
    ((front rest : List ℕ) (i : Insn) → Spells front i → bytes ≡ front ++ rest → ⊥)
    × (IsShort bytes → ⊥) × (IsLockFault bytes → ⊥)
