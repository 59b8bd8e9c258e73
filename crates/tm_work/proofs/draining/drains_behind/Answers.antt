use Rattle.std.proofs.Common.{◌+◌, ◌∙◌, arith, ap, sym}
use Rattle.std.specs.Prelude.{slice_get}
use Rattle.tm_work.proofs.Late.{drains_counted}
use Rattle.tm_work.proofs.draining.drains_behind.Goals as goal

-- one more of the steps is looked at
pub loop-index-preserved : goal.loop-index-preserved
loop-index-preserved c =
    let history = c.args.board.now.history in
    let index = c.loop-index.index in
    let few = c.drains_in-count.ensures.few in
    let before = c.loop-index.invariant.few in
    record {
      counted =
          ap (λ n. c.loop-index.count + n) c.drains_in-count.ensures.one
          ∙ drains_counted c.args.core c.args.from index c.loop-index.count history c.unwrap-own.result (omega arith)
          (ap (λ h. slice_get h index) (sym c.history.ensures) ∙ sym c.get.ensures ∙ c.unwrap-own.ensures)
          c.loop-index.invariant.counted;
      few = omega arith;
    }
