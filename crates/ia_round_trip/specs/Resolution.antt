-- An instruction whose expressions have no symbol, with their values filled in at an address.
use Rattle.std.specs.Prelude.{ℕ, Bool, ◌&&◌, if◌then◌else◌, Option, Some, None, option_map, List, [], ◌∷◌, ℤ, pos, ◌+ℤ◌}
use Rattle.std.specs.Prelude.{◌-ℤ◌}
use Rattle.ia_insn.specs.declared.op.Op.{Op}
use Rattle.ia_insn.specs.declared.op.Insn.{Insn}
use Rattle.ia_insn.specs.Encoding.{fits_short}
use Rattle.ia_item.specs.declared.item.Field.{Field}
use Rattle.ia_item.specs.declared.item.Field.TheVariants as field
use Rattle.ia_item.specs.Fields.{field_of, with_number, with_displacement, within, low_of, high_of, modulo_long}
use Rattle.ia_item.specs.Fields.{distance, stored_number}
use Rattle.ia_lex.specs.Terms.{AtomContent, NumberAtom, SymbolAtom, TermContent}

-- ---- values

-- a number that is at most 2^64 - 1
abbrev pub known_number : AtomContent → Option ℤ
known_number (NumberAtom None) = None
known_number (NumberAtom (Some n)) = Some (pos n)
known_number (SymbolAtom name) = None

abbrev pub by_value : Option ℤ → (ℤ → Option ℤ) → Option ℤ
by_value None next = None
by_value (Some v) next = next v

-- what terms add up to, from a whole number on; none where one of them is no such number
abbrev pub sum_from : ℤ → List TermContent → Option ℤ
sum_from v [] = Some v
sum_from v (p ∷ ps) = by_value (known_number p.atom) (λ w. sum_from (if p.negative then v -ℤ w else v +ℤ w) ps)

-- ---- fields

-- a value in the field's range, and at a short jump a distance from -128 to 127
abbrev pub takes : Field → ℕ → ℤ → Bool
takes (field.Short long) at v = within (low_of (field.Short long)) (high_of (field.Short long)) v && fits_short
    (distance at long (modulo_long v))
takes f at v = within (low_of f) (high_of f) v

abbrev pub if_taken : Field → ℕ → Option ℤ → Option ℕ
if_taken f at None = None
if_taken f at (Some v) = if takes f at v then Some (stored_number f at v) else None

-- what goes into a field at an address for an expression, if it takes it
abbrev pub field_number : Field → ℕ → List TermContent → Option ℕ
field_number f at ps = if_taken f at (sum_from (pos 0) ps)

-- ---- instructions

abbrev pub op_with_number : ℕ → Option (List TermContent) → Op → Option Op
op_with_number at None o = Some o
op_with_number at (Some ps) o = option_map (with_number o) (field_number (field_of o) at ps)

abbrev pub op_with_displacement : ℕ → Option (List TermContent) → Op → Option Op
op_with_displacement at None o = Some o
op_with_displacement at (Some ps) o = option_map (with_displacement o) (field_number field.Long at ps)

abbrev pub by_op : Option Op → (Op → Option Op) → Option Op
by_op None next = None
by_op (Some o) next = next o

-- the instruction at an address with the values of its number's sum and of its displacement's; none where one does not
-- fit
unfoldable pub resolved_insn : ℕ → Insn → Option (List TermContent) → Option (List TermContent) → Option Insn
resolved_insn at i number place = option_map (λ o. record { lock = i.lock; op = o }) (by_op
    (op_with_number at number i.op) (op_with_displacement at place))
