-- Bytes are as many as the sizes say.
use Rattle.std.proofs.Common.{◌≡◌, ℕ, ◌+◌, [], cond, refl, ap, length, arith}
use Rattle.std.specs.Prelude.{ℤ}
use Rattle.std.proofs.lemmas.List.{length-replicate}
use Rattle.ia_item.specs.Expressions.{Env}
use Rattle.ia_item.specs.Fields.{modulo_long}
use Rattle.ia_item.specs.declared.item.Entry.{Entry}
use Rattle.ia_item.specs.declared.item.Section.{Section}
use Rattle.ia_item.specs.declared.item.Section.TheVariants.{Text as InText, Data as InData}
use Rattle.ia_item.specs.declared.item.Item.{Item}
use Rattle.ia_item.specs.declared.item.Item.TheVariants as item
use Rattle.ia_item.specs.declared.item.Field.TheVariants as field
use Rattle.ia_resolve.specs.Items.{field_value}
use Rattle.ia_resolve.proofs.Sizes.{code_length, long_length}
use Rattle.ia_layout.specs.Placement.{EntryPlace, LayoutState, bytes_at, critical_value, gap, in_section, item_bytes}
use Rattle.ia_layout.specs.Placement.{next, nowhere, pad, part_of, place_at, size_of, tail_next, text_next}

pub bytes_length : (env : Env) (at : ℕ) (v : ℤ) (s : Section) (i : Item)
    → length (bytes_at env at v s i) ≡ size_of at v i
unfolding bytes_at size_of
bytes_length env at v s (item.Label n) = refl
bytes_length env at v s (item.Equ n e) = refl
bytes_length env at v s (item.Code t) = code_length env nowhere at t
bytes_length env at v s (item.Byte e) = refl
bytes_length env at v s (item.Text b) = refl
bytes_length env at v s (item.Numbers b) = refl
bytes_length env at v s (item.Long e) = long_length (field_value env at field.Long e)
bytes_length env at v s (item.Reserve e) = length-replicate (modulo_long v) 0
bytes_length env at v s (item.Align n) = length-replicate (gap n at) (pad s)
bytes_length env at v s (item.Org n) = refl

pub part_length : (env : Env) (s : LayoutState) (e : Entry)
    → s.text + length (part_of InText env (place_at s e)) ≡ (next s e).text
part_length env s e = by e.section refl
  where
    p : EntryPlace
    p = place_at s e

    by : (x : Section) → e.section ≡ x
        → s.text + length (cond (in_section InText e.section) (item_bytes env p) []) ≡ text_next e.section s.text p.size
    by InText is = rw is (ap (λ n. s.text + n) (bytes_length env s.text (critical_value s.above e.item) InText e.item))
    by InData is = rw is (omega arith)

pub tail_length : (env : Env) (s : LayoutState) (e : Entry)
    → s.tail + length (part_of InData env (place_at s e)) ≡ (next s e).tail
tail_length env s e = by e.section refl
  where
    p : EntryPlace
    p = place_at s e

    by : (x : Section) → e.section ≡ x
        → s.tail + length (cond (in_section InData e.section) (item_bytes env p) []) ≡ tail_next e.section s.tail p.size
    by InData is = rw is (ap (λ n. s.tail + n) (bytes_length env s.tail (critical_value s.above e.item) InData e.item))
    by InText is = rw is (omega arith)
