use Rattle.std.proofs.Common.{ap, sym, ◌∙◌}
use Rattle.std.specs.FinMap as bytes_map
use Rattle.tm_buffer.proofs.Alike.{all_same}
use Rattle.tm_buffer.proofs.stored.Buffer.is_same.Goals as goal

pub returns-then-is_within : goal.returns-then-is_within
returns-then-is_within c = (
  λ t. all_same c.args.self.now.order c.args.other.now.order c.args.self.now.bytes c.args.other.now.bytes
      c.is_within.ensures.rest c.has_no_line_beyond.ensures.rest (c.is_within.ensures.same.0 c.if-is_within.true)
      (c.has_no_line_beyond.ensures.beyond.0 t),
  λ same. c.has_no_line_beyond.ensures.beyond.1 (λ place below none address on.
      ap (λ m. bytes_map.get m address) (sym same) ∙ c.is_within.ensures.rest _ none address on),
)
