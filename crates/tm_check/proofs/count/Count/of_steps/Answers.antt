use Rattle.std.proofs.Common.{◌≡◌, ◌∙◌, Some, sym, arith}
use Rattle.std.specs.Prelude.{slice_get}
use Rattle.tm_hist.specs.History.{pairs_of}
use Rattle.tm_check.proofs.Counting.{counted, not_counted}
use Rattle.tm_check.proofs.count.Count.of_steps.Goals as goal
use Rattle.tm_check.proofs.count.Count.of_steps.Goals.{then-is_counted, else-is_counted}

pub steps-preserved : goal.steps-preserved
steps-preserved c =
    let history = pairs_of c.args.history in
    let index = c.steps.index in
    let before = c.steps.invariant in
    let at : slice_get history index ≡ Some (c.in-Some.core, c.in-Some.outcome) = cc in
    elim c.if-is_counted.branch [
      | then-is_counted w ↦
          let same = w.number-is in
          record {
            counted = w.number-is
                ∙ counted c.args.self history index c.steps.number (c.in-Some.core, c.in-Some.outcome) at
                (sym c.is_counted.ensures ∙ w.if-is_counted.true) before.counted;
            few = omega arith;
          }
      | else-is_counted w ↦
          let same = w.number-is in
          record {
            counted = w.number-is
                ∙ not_counted c.args.self history index c.steps.number (c.in-Some.core, c.in-Some.outcome) at
                (sym c.is_counted.ensures ∙ w.if-is_counted.false) before.counted;
            few = omega arith;
          }
    ]
