-- The bytes and the faults of instructions, by the values of the symbols.
use Rattle.std.specs.Prelude.{ℕ, Bool, false, if◌then◌else◌, Option, Some, None, List, ℤ}
use Rattle.ia_insn.specs.declared.op.Insn.{Insn}
use Rattle.ia_insn.specs.declared.op.Op.{Op}
use Rattle.ia_insn.specs.Encoding.{insn_bytes_with, fits_short}
use Rattle.ia_item.specs.declared.item.Field.{Field}
use Rattle.ia_item.specs.declared.item.Field.TheVariants as field
use Rattle.ia_item.specs.declared.item.Template.{Template}
use Rattle.ia_item.specs.declared.expression.ScopedExpression.{ScopedExpression}
use Rattle.ia_item.specs.Expressions.{Env, is_wide}
use Rattle.ia_item.specs.Fields.{field_of, low_of, high_of, modulo_long, distance, stored_number, with_number}
use Rattle.ia_item.specs.Fields.{with_displacement}
use Rattle.ia_resolve.specs.declared.place_fault.PlaceFault.{PlaceFault}
use Rattle.ia_resolve.specs.declared.place_fault.PlaceFault.TheVariants.{ShortJumpTooFar}
use Rattle.ia_resolve.specs.PlaceFaults.{first_of}
use Rattle.ia_resolve.specs.Values.{sum_fault, value_or_zero}

-- ---- what goes into a field at an address

abbrev pub field_value : Env → ℕ → Field → ScopedExpression → ℕ
field_value env at f s = stored_number f at (value_or_zero env (low_of f) (high_of f) s)

-- a distance of a short jump has to be from -128 to 127
abbrev pub far_fault : Field → ℕ → ℤ → Option PlaceFault
far_fault (field.Short long) at v = if fits_short (distance at long (modulo_long v)) then None else Some ShortJumpTooFar
far_fault _ at v = None

abbrev pub field_fault : Env → ℕ → Field → ScopedExpression → Option PlaceFault
field_fault env at f s = first_of (sum_fault env (low_of f) (high_of f) s) (far_fault f at (value_or_zero env
    (low_of f) (high_of f) s))

-- ---- instructions

abbrev pub op_with_number : Env → ℕ → Option ScopedExpression → Op → Op
op_with_number env at None o = o
op_with_number env at (Some s) o = with_number o (field_value env at (field_of o) s)

abbrev pub op_with_displacement : Env → ℕ → Option ScopedExpression → Op → Op
op_with_displacement env at None o = o
op_with_displacement env at (Some s) o = with_displacement o (field_value env at field.Long s)

-- the instruction with the symbols replaced by their values
unfoldable pub resolved_insn : Env → ℕ → Template → Insn
resolved_insn env at t = record {
  lock = t.insn.lock;
  op = op_with_displacement env at t.displacement
      (op_with_number env at t.number t.insn.op);
}

abbrev pub any_fault : Env → ℕ → Field → Option ScopedExpression → Option PlaceFault
any_fault env at f None = None
any_fault env at f (Some s) = field_fault env at f s

-- what is wrong with its expressions
unfoldable pub template_fault : Env → ℕ → Template → Option PlaceFault
template_fault env at t = first_of (any_fault env at (field_of t.insn.op) t.number)
    (any_fault env at field.Long t.displacement)

-- a field is wide where its expression has a symbol
abbrev pub wide : Option ScopedExpression → Bool
wide None = false
wide (Some s) = is_wide s

-- its bytes, in the form that is as short as its numbers allow, with a wide field for each symbol
unfoldable pub code_bytes : Env → ℕ → Template → List ℕ
code_bytes env at t = insn_bytes_with (wide t.number) (wide t.displacement) (resolved_insn env at t)
