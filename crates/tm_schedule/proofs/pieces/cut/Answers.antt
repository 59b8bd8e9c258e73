use Rattle.std.proofs.Common.{length, ap, arith}
use Rattle.std.specs.Bool.{◌==◌}
use Rattle.tm_schedule.proofs.Cuts.{cut_at, cut_nowhere, cut_within, rest_at, shorter}
use Rattle.tm_schedule.proofs.pieces.cut.Goals as goal

pub returns-in-Some : goal.returns-in-Some
returns-in-Some c =
    let size = cut_within (λ b. b == c.args.byte) c.args.text.now c.in-Some.at c.in-Some.ensures in
    let rest = rest_at c.args.text.now c.in-Some.at size in
    let small = shorter c.args.text.now c.in-Some.at size in
    let same = ap length rest in (
      cut_at (λ b. b == c.args.byte) c.args.text.now _ c.in-Some.at c.in-Some.ensures rest,
      omega arith,
    )

pub returns-in-None : goal.returns-in-None
returns-in-None c = cut_nowhere (λ b. b == c.args.byte) c.args.text.now c.in-None.ensures
