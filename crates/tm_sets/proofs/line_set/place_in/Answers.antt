use Rattle.std.proofs.Common.{sym, arith}
use Rattle.tm_sets.proofs.Lists.{present, absent}
use Rattle.tm_sets.proofs.Placing.{place_found, place_none}
use Rattle.tm_sets.proofs.line_set.place_in.Goals as goal

pub returns-then-other-line-clause-found : goal.returns-then-other-line-clause-found
returns-then-other-line-clause-found c =
    sym (present c.args.lines.now c.loop-place.place c.args.line (omega arith) c.if-other-line.true)

pub returns-clause-found : goal.returns-clause-found
returns-clause-found c = sym (absent c.args.lines.now c.args.line (λ i below. c.loop-place.invariant i (omega arith)))

pub returns-then-other-line-clause-place : goal.returns-then-other-line-clause-place
returns-then-other-line-clause-place c = sym (place_found c.args.lines.now c.loop-place.place c.args.line (omega arith)
    c.if-other-line.true c.loop-place.invariant)

pub returns-clause-place : goal.returns-clause-place
returns-clause-place c =
    sym (place_none c.args.lines.now c.args.line (λ i below. c.loop-place.invariant i (omega arith)))
