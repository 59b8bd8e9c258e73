use Rattle.std.proofs.Common.{sym, arith}
use Rattle.tm_buffer.proofs.Places.{place_found, place_none}
use Rattle.tm_buffer.proofs.slots.search.Goals as goal

pub returns-then-other-line : goal.returns-then-other-line
returns-then-other-line c =
    sym (place_found c.args.lines.now c.loop-place.place c.args.line (omega arith) c.if-other-line.true
    c.loop-place.invariant)

pub returns : goal.returns
returns c = sym (place_none c.args.lines.now c.args.line (λ i below. c.loop-place.invariant i (omega arith)))
