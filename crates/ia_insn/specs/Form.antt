-- What may follow an opcode, and which instruction it then is.
use Rattle.std.specs.Prelude.{◌≡◌, ◌≢◌, ℕ, ◌^◌, ◌<◌, List, [], ◌∷◌, ◌++◌, Option, Some}
use Rattle.ia_word.specs.Bytes.{long_bytes, sign_extended}
use Rattle.ia_insn.specs.declared.op.Op.{Op}
use Rattle.ia_insn.specs.declared.operand.Mem.{Mem}
use Rattle.ia_insn.specs.declared.operand.Operand.{Operand}
use Rattle.ia_insn.specs.Operands.{Head, head_of, word, SpellsMem, SpellsOperand}

-- the immediate: none, ib, ib sign-extended, iw, id
pub data Tail : Type 0 where
  done : Op → Tail
  ib : (ℕ → Op) → Tail
  ibs : (ℕ → Op) → Tail
  iw : (ℕ → Op) → Tail
  id : (ℕ → Op) → Tail

-- no instruction; an immediate alone; a ModRM operand beside its reg field; a ModRM operand where the ModRM byte
-- is one of those allowed; a register and a place in memory
pub data Form : Type 0 where
  none : Form
  plain : Tail → Form
  modrm : (ℕ → Operand → Tail) → Form
  group : (Head → Option (Operand → Tail)) → Form
  r_memory : (ℕ → Mem → Op) → Form

pub data SpellsTail : Tail → List ℕ → Op → Type 0 where
  nothing : {op : Op} → SpellsTail (done op) [] op
  byte : {f : ℕ → Op} {b : ℕ} → b < 256 → SpellsTail (ib f) (b ∷ []) (f b)
  signed_byte : {f : ℕ → Op} {b : ℕ} → b < 256 → SpellsTail (ibs f) (b ∷ []) (f (sign_extended b))
  two_bytes : {f : ℕ → Op} {n : ℕ} → n < 2 ^ 16 → SpellsTail (iw f) (word n) (f n)
  four_bytes : {f : ℕ → Op} {n : ℕ} → n < 2 ^ 32 → SpellsTail (id f) (long_bytes n) (f n)

pub data SpellsForm : Form → List ℕ → Op → Type 0 where
  alone : {t : Tail} {bytes : List ℕ} {op : Op} → SpellsTail t bytes op → SpellsForm (plain t) bytes op
  operand : {f : ℕ → Operand → Tail} {b : ℕ} {m : Operand} {x y : List ℕ} {op : Op}
      → b < 256 → SpellsOperand (head_of b) x m → SpellsTail (f (head_of b).reg m) y op
      → SpellsForm (modrm f) (b ∷ (x ++ y)) op
  chosen : {next : Head → Option (Operand → Tail)} {f : Operand → Tail} {b : ℕ} {m : Operand} {x y : List ℕ} {op : Op}
      → b < 256 → next (head_of b) ≡ Some f → SpellsOperand (head_of b) x m → SpellsTail (f m) y op
      → SpellsForm (group next) (b ∷ (x ++ y)) op
  place : {f : ℕ → Mem → Op} {b : ℕ} {m : Mem} {bytes : List ℕ}
      → b < 256 → (head_of b).mode ≢ 3 → SpellsMem (head_of b).mode (head_of b).rm bytes m
      → SpellsForm (r_memory f) (b ∷ bytes) (f (head_of b).reg m)
