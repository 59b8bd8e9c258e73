use Rattle.std.proofs.Common.{◌≡◌, ap, arith, length, sym, Some}
use Rattle.std.specs.Prelude.{slice_get}
use Rattle.tm_stats.specs.Spread.{sizes_of}
use Rattle.tm_stats.proofs.Spreads.{rows_more, rows_stop, sizes_more}
use Rattle.tm_stats.proofs.spread.rows_of.Goals as goal

pub returns-then-key-place-clause-count : goal.returns-then-key-place-clause-count
returns-then-key-place-clause-count c =
    let rows = c.args.sizes.now.entries in
    let at : slice_get rows c.loop-index.index ≡ Some (c.in-Some.key.now, c.in-Some.many.now) =
    sym c.in-Some.ensures.entry in
    let none =
    rows_stop c.args.place rows c.loop-index.index (c.in-Some.key.now, c.in-Some.many.now) at c.if-key-place.true in
    let left = ap (λ l. length (sizes_of l)) none in
    λ few. let counted = c.loop-index.invariant.0 few in omega arith

pub returns-then-key-place-clause-behind : goal.returns-then-key-place-clause-behind
returns-then-key-place-clause-behind c =
    let rows = c.args.sizes.now.entries in
    let at : slice_get rows c.loop-index.index ≡ Some (c.in-Some.key.now, c.in-Some.many.now) =
    sym c.in-Some.ensures.entry in
    let none =
    rows_stop c.args.place rows c.loop-index.index (c.in-Some.key.now, c.in-Some.many.now) at c.if-key-place.true in
    let left = ap length none in
    let passed = c.loop-index.invariant.1 in
    λ within. omega arith

pub loop-index-preserved : goal.loop-index-preserved
loop-index-preserved c =
    let rows = c.args.sizes.now.entries in
    let at : slice_get rows c.loop-index.index ≡ Some (c.in-Some.key.now, c.in-Some.many.now) =
    sym c.in-Some.ensures.entry in
    let more =
    sizes_more c.args.place rows c.loop-index.index (c.in-Some.key.now, c.in-Some.many.now) at c.if-key-place.false in
    let next = ap length
    (rows_more c.args.place rows c.loop-index.index (c.in-Some.key.now, c.in-Some.many.now) at c.if-key-place.false) in
    let passed = c.loop-index.invariant.1 in
    (λ few. let counted = c.loop-index.invariant.0 few in omega arith, omega arith)
