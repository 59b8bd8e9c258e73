use Rattle.std.proofs.Common.{◌∙◌, ap, sym, length, arith}
use Rattle.std.specs.Ordering.{nat_cmp}
use Rattle.std.specs.FinSet as set
use Rattle.tm_sets.specs.LineSet.{lines_of}
use Rattle.tm_sets.proofs.line_set.LineSet.clear.Goals as goal

pub invariant_of-self : goal.invariant_of-self
invariant_of-self c = (
  ap (λ xs. set.len (lines_of xs)) c.clear.ensures.items ∙ set.len-empty nat_cmp
      ∙ sym (ap length c.clear.ensures.items),
  omega (arith, ap length c.clear.ensures.items),
  omega (arith, c.clear.ensures.capacity, c.self.invariant.2),
  c.self.invariant.3,
)
