use Rattle.std.proofs.Common.{◌≡◌, ◌<◌, ◌^◌, ◌+◌, ◌&&◌, ◌||◌, not, nat_eq, ℕ, Bool, sym, ◌∙◌, arith}
use Rattle.tm_sets.specs.Content.{IsMaskOf}
use Rattle.std.proofs.lemmas.List.{get_or_read}
use Rattle.std.specs.FinSet as set
use Rattle.tm_sets.specs.LineSet.{no_line_set, lines_in_set}
use Rattle.tm_sets.specs.Plain.{is_other, line_set_at}
use Rattle.tm_sets.proofs.Masks.{mask_more, mask_same}
use Rattle.tm_sets.proofs.plain.others.Goals as goal
use Rattle.tm_sets.proofs.plain.others.Goals.{then-is_other, else-is_other}

pub loop-other-preserved : goal.loop-other-preserved
loop-other-preserved c =
    let i = c.loop-other.invariant in
    let few : c.loop-other.other < 64 = omega arith in
    let wanted : ℕ → Bool = is_other c.args.reads.now c.args.writes.now c.args.line c.args.core in
    let k : ℕ = c.loop-other.other in
    let reads : c.index-reads-other.result ≡ line_set_at c.args.reads.now k =
    get_or_read c.args.reads.now k c.index-reads-other.result c.loop-other-test.true
    c.index-reads-other.is no_line_set in
    let writes : c.index-writes-other.result ≡ line_set_at c.args.writes.now k =
    get_or_read c.args.writes.now k c.index-writes-other.result (omega arith) c.index-writes-other.is no_line_set in
    let value : c.is_other.result ≡ wanted k =
    c.is_other.ensures.value
    ∙ (λ i. not (nat_eq k c.args.core)
    && (set.contains (lines_in_set (reads i)) c.args.line || set.contains (lines_in_set (writes i)) c.args.line)) in
    let now : IsMaskOf c.if-is_other.others (k + 1) wanted × (c.if-is_other.others < 2 ^ (k + 1)) =
    elim c.if-is_other.branch [
      | then-is_other w ↦
          mask_more c.loop-other.others k wanted few i.mask i.below (sym value ∙ w.if-is_other.true) _ w.others-is
      | else-is_other w ↦
          mask_same c.loop-other.others k wanted i.mask i.below (sym value ∙ w.if-is_other.false) _ w.others-is
    ] in
    record { mask = now.0; below = now.1; visits = omega (arith, c.is_other.ensures.visits, i.visits) }
