use Rattle.std.proofs.Common.{rules, refl, ◌∙◌}
use Rattle.std.specs.Int.{w128}
use Rattle.std.specs.Int.RustNames.{FitsSigned}
use Rattle.std.proofs.lemmas.Int.{to_z-of_z}
use Rattle.ia_resolve.proofs.Integers.{part_by_part}
use Rattle.ia_resolve.proofs.exact.Exact.plus.Goals as goal

pub returns-clause-value : goal.returns-clause-value
returns-clause-value c =
    let high_fits : FitsSigned w128 c.plus.result = search rules in
    let low_fits : FitsSigned w128 c.plus-2.result = search rules in
    let self_high : FitsSigned w128 c.args.self.high = search rules in
    let self_low : FitsSigned w128 c.args.self.low = search rules in
    let more_high : FitsSigned w128 c.args.more.high = search rules in
    let more_low : FitsSigned w128 c.args.more.low = search rules in
    part_by_part c.args.negative c.args.self c.args.more _
    (to_z-of_z w128 c.plus.result high_fits ∙ c.plus.ensures.value
    ∙ rw (to_z-of_z w128 c.args.self.high self_high) (rw (to_z-of_z w128 c.args.more.high more_high) refl))
    (to_z-of_z w128 c.plus-2.result low_fits ∙ c.plus-2.ensures.value
    ∙ rw (to_z-of_z w128 c.args.self.low self_low) (rw (to_z-of_z w128 c.args.more.low more_low) refl))
