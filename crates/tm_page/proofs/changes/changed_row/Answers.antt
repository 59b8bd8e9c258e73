use Rattle.std.proofs.Common.{ℕ, ◌<◌, length, arith, ◌∙◌, length-set, sym}
use Rattle.tm_page.proofs.Rows.{all_patched, filled_next}
use Rattle.tm_page.proofs.changes.changed_row.Goals as goal

pub loop-number-preserved : goal.loop-number-preserved
loop-number-preserved c =
    let within : c.loop-number.number < length c.loop-number.row =
    omega (arith, c.loop-number.invariant.len, c.loop-number-test.true) in
    record {
      len = length-set c.loop-number.row c.loop-number.number c.changed.result ∙ c.loop-number.invariant.len;
      filled = filled_next c.loop-number.row c.args.old.now c.args.new.now c.loop-number.number c.changed.result within
          c.loop-number.invariant.filled c.changed.ensures;
    }

pub returns : goal.returns
returns c =
    let all : (k : ℕ) → k < length c.loop-number.row → k < c.loop-number.number =
    λ k less. omega (arith, c.loop-number.invariant.len, c.loop-number-test.false) in
    all_patched c.loop-number.row c.args.old.now c.args.new.now
    (c.told-old ∙ sym c.loop-number.invariant.len) (c.told-new ∙ sym c.loop-number.invariant.len)
    (λ k less. c.loop-number.invariant.filled k (all k less))
