use Rattle.std.proofs.Common.{◌≡◌, ℕ, ◌+◌, ◌<◌, ◌≤◌, length, get_or, sym, ap, ◌∙◌, arith, length-set}
use Rattle.tm_why.specs.Watched.{outside}
use Rattle.tm_why.proofs.ChangedRows.{changed_next, kept_next, not_some, other_none, other_own}
use Rattle.tm_why.proofs.FilledRows.{rest_next}
use Rattle.tm_why.proofs.watch.take_hits.Goals.{then-core-own+then-is_some, else-core-own}
use Rattle.tm_why.proofs.watch.take_hits.Goals.{else-core-own-via-then-core-own+else-is_some}
use Rattle.tm_why.proofs.watch.take_hits.Goals.{else-core-own-via-else-core-own}
use Rattle.tm_why.proofs.watch.take_hits.Goals as goal

pub loop-core-preserved : goal.loop-core-preserved
loop-core-preserved c =
    let i = c.loop-core.invariant in
    elim c.if-core-own.branch [
      | then-core-own+then-is_some w ↦
          let within : c.loop-core.core < length c.loop-core.rows = omega arith in
          record {
            len = ap length w.rows-is ∙ length-set c.loop-core.rows c.loop-core.core w.row_after.result ∙ i.len;
            passed = λ k below.
                ap (λ rows. get_or rows k outside) w.rows-is
                ∙ changed_next c.args.asked.now c.args.outcome c.args.number c.args.by c.args.rows.now c.loop-core.rows
                c.loop-core.core w.row_after.result within w.if-core-own.true w.row_after.ensures i.passed i.rest k
                below;
            rest = λ k above.
                ap (λ rows. get_or rows k outside) w.rows-is
                ∙ rest_next c.loop-core.rows c.args.rows.now c.loop-core.core w.row_after.result outside i.rest k
                above;
          }
      | else-core-own w ↦
          let same : c.if-core-own.rows ≡ c.loop-core.rows = w.rows-is in
          let after : (k : ℕ) → c.loop-core.core + 1 ≤ k → c.loop-core.core ≤ k = λ k above. omega arith in
          record {
            len = ap length same ∙ i.len;
            passed = λ k below.
                ap (λ rows. get_or rows k outside) same
                ∙ kept_next c.args.asked.now c.args.outcome c.args.number c.args.by c.args.rows.now c.loop-core.rows
                c.loop-core.core (elim w.else-core-own.branch [
                  | else-core-own-via-then-core-own+else-is_some v ↦
                      other_none c.args.asked.now c.args.outcome c.args.number c.args.by c.loop-core.core
                      (get_or c.args.rows.now c.loop-core.core outside)
                      (sym v.hit_made.ensures
                      ∙ not_some _ (sym v.is_some.ensures ∙ v.if-is_some.false))
                  | else-core-own-via-else-core-own v ↦
                      other_own c.args.asked.now c.args.outcome c.args.number c.args.by c.loop-core.core
                      (get_or c.args.rows.now c.loop-core.core outside) v.if-core-own.false
                ]) i.passed i.rest k below;
            rest = λ k above. ap (λ rows. get_or rows k outside) same ∙ i.rest k (after k above);
          }
    ]
