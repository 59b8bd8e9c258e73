use Rattle.std.proofs.Common.{◌≡◌, ◌<◌, ◌^◌, ◌+◌, ◌&&◌, not, nat_eq, ℕ, Bool, sym, ap, ◌∙◌, arith}
use Rattle.tm_sets.specs.Content.{IsMaskOf}
use Rattle.std.proofs.lemmas.List.{get_or_read}
use Rattle.std.specs.FinSet as set
use Rattle.tm_sets.specs.LineSet.{no_line_set, lines_in_set}
use Rattle.tm_sets.specs.Plain.{is_writer, line_set_at}
use Rattle.tm_sets.proofs.Masks.{mask_more, mask_same}
use Rattle.tm_sets.proofs.plain.writers.Goals as goal
use Rattle.tm_sets.proofs.plain.writers.Goals.{then-is_writer, else-is_writer}

pub loop-other-preserved : goal.loop-other-preserved
loop-other-preserved c =
    let i = c.loop-other.invariant in
    let few : c.loop-other.other < 64 = omega arith in
    let wanted : ℕ → Bool = is_writer c.args.writes.now c.args.line c.args.core in
    let k : ℕ = c.loop-other.other in
    let writes : c.index-writes-other.result ≡ line_set_at c.args.writes.now k =
    get_or_read c.args.writes.now k c.index-writes-other.result c.loop-other-test.true
    c.index-writes-other.is no_line_set in
    let value : c.is_writer.result ≡ wanted k =
    c.is_writer.ensures.value
    ∙ ap (λ lines. not (nat_eq k c.args.core) && set.contains (lines_in_set lines) c.args.line) writes in
    let now : IsMaskOf c.if-is_writer.writers (k + 1) wanted × (c.if-is_writer.writers < 2 ^ (k + 1)) =
    elim c.if-is_writer.branch [
      | then-is_writer w ↦
          mask_more c.loop-other.writers k wanted few i.mask i.below (sym value ∙ w.if-is_writer.true) _ w.writers-is
      | else-is_writer w ↦
          mask_same c.loop-other.writers k wanted i.mask i.below (sym value ∙ w.if-is_writer.false) _ w.writers-is
    ] in
    record { mask = now.0; below = now.1; visits = omega (arith, c.is_writer.ensures.visits, i.visits) }
