use Rattle.std.proofs.Common.{◌∙◌, ap, sym, length, arith}
use Rattle.std.specs.Ordering.{nat_cmp}
use Rattle.std.specs.FinSet as set
use Rattle.tm_sets.specs.LineSet.{lines_of}
use Rattle.tm_sets.proofs.line_set.LineSet.with_room.Goals as goal

pub invariant_of-result : goal.invariant_of-result
invariant_of-result c = (
  ap (λ xs. set.len (lines_of xs)) c.in_ok-lines.ensures.items ∙ set.len-empty nat_cmp
      ∙ sym (ap length c.in_ok-lines.ensures.items),
  omega (arith, ap length c.in_ok-lines.ensures.items),
  omega (arith, c.in_ok-lines.ensures.capacity),
  c.requires,
)
