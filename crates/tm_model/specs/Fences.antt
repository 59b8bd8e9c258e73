-- The instructions that outside of transactions wait until no store of their core is pending: those behind LOCK, XCHG
-- with memory, which is always locked (SDM volume 3, 9.1.2), MFENCE (9.2.5), and CPUID, which is serializing (9.3).
-- LFENCE and SFENCE do not wait: they order loads among each other, and stores, which here never overtake each other.
-- Neither does XBEGIN, which "does not have fencing semantics" (SDM volume 1, 16.3.6).
use Rattle.std.specs.Prelude.{ℕ, ◌||◌, Bool, true, false, List}
use Rattle.ia_word.specs.declared.operation.BareOp.TheVariants as bare
use Rattle.ia_insn.specs.declared.op.Op.{Op}
use Rattle.ia_insn.specs.declared.op.Op.TheVariants as op
use Rattle.ia_insn.specs.Spelling.{is_place}
use Rattle.tm_rule.specs.Rule.{Fetched, Found, Missing, Undefined, Unknown, fetched}
use Rattle.tm_model.specs.Types.{Regs}

-- without LOCK
abbrev pub is_fence : Op → Bool
is_fence (op.Xchg width target register) = is_place target
is_fence (op.Bare bare.Mfence) = true
is_fence (op.Bare bare.Cpuid) = true
is_fence operation = false

abbrev pub is_fence_found : Fetched → Bool
is_fence_found (Found insn length) = insn.lock || is_fence insn.op
is_fence_found Missing = false
is_fence_found Unknown = false
is_fence_found Undefined = false

-- the same of the instruction that the code spells at EIP
abbrev pub is_fence_at : List ℕ → ℕ → Regs → Bool
is_fence_at code base regs = is_fence_found (fetched code base regs.eip)
