use Rattle.std.proofs.Common.{◌≡◌, ◌∙◌, sym, Some}
use Rattle.std.specs.Prelude.{slice_get}
use Rattle.tm_stats.proofs.Spreads.{size_behind, size_here}
use Rattle.tm_stats.proofs.spread.size_at.Goals as goal

pub returns-then-left-many : goal.returns-then-left-many
returns-then-left-many c =
    let rows = c.args.sizes.now.entries in
    let at : slice_get rows c.loop-index.index ≡ Some (c.in_ok-key.key.now, c.in_ok-key.many.now) =
    sym c.in_ok-key.ensures.entry in
    sym (c.loop-index.invariant
    ∙ size_here rows c.loop-index.index c.loop-index.left (c.in_ok-key.key.now, c.in_ok-key.many.now) at
    c.if-left-many.true)

pub loop-index-preserved : goal.loop-index-preserved
loop-index-preserved c =
    let rows = c.args.sizes.now.entries in
    let at : slice_get rows c.loop-index.index ≡ Some (c.in_ok-key.key.now, c.in_ok-key.many.now) =
    sym c.in_ok-key.ensures.entry in
    c.loop-index.invariant
    ∙ size_behind rows c.loop-index.index c.loop-index.left (c.in_ok-key.key.now, c.in_ok-key.many.now) at
    c.if-left-many.false
