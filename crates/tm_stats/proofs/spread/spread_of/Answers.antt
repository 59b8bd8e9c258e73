use Rattle.std.proofs.Common.{◌≡◌, ◌∙◌, ◌<◌, ◌-◌, ◌/◌, ap, arith, drop, length, refl}
use Rattle.std.specs.Prelude.{slice_get}
use Rattle.tm_stats.specs.Spread.{rows_of_place, sizes_of}
use Rattle.tm_stats.proofs.Spreads.{is_there, spread_is}
use Rattle.tm_stats.proofs.spread.spread_of.Goals as goal

pub returns-in_err-least : goal.returns-in_err-least
returns-in_err-least c = λ within order.
    absurd (is_there c.args.place (drop c.args.start c.args.sizes.now.entries) 0 order.some c.in_err-least.ensures)

pub returns-in_err-median : goal.returns-in_err-median
returns-in_err-median c = λ within order.
    let counted = c.rows_of-count.ensures.count order.few in
    let some = order.some in
    let half :
    c.rows_of-count.result.0 / 2
    < length (sizes_of (rows_of_place c.args.place (drop c.args.start c.args.sizes.now.entries))) =
    omega arith in
    absurd (is_there c.args.place (drop c.args.start c.args.sizes.now.entries) (c.rows_of-count.result.0 / 2) half
    c.in_err-median.ensures)

pub returns-in_err-most : goal.returns-in_err-most
returns-in_err-most c = λ within order.
    let counted = c.rows_of-count.ensures.count order.few in
    let some = order.some in
    let last :
    c.saturating_sub.result
    < length (sizes_of (rows_of_place c.args.place (drop c.args.start c.args.sizes.now.entries))) =
    omega arith in
    absurd (is_there c.args.place (drop c.args.start c.args.sizes.now.entries) c.saturating_sub.result last
    c.in_err-most.ensures)

pub returns : goal.returns
returns c = λ within order.
    let rows = drop c.args.start c.args.sizes.now.entries in
    let last : c.saturating_sub.result ≡ c.rows_of-count.result.0 - 1 = omega arith in
    spread_is c.args.place c.args.start c.rows_of-count.result.1 c.rows_of-count.result.0 rows
    (record {
      place = c.args.place;
      count = c.rows_of-count.result.0;
      least = c.in_ok-least.least;
      median = c.in_ok-median.median;
      most = c.in_ok-most.most;
    })
    order (c.rows_of-count.ensures.count order.few) (c.rows_of-count.ensures.behind within) refl refl
    c.in_ok-least.ensures c.in_ok-median.ensures (c.in_ok-most.ensures ∙ ap (λ n. slice_get (sizes_of rows) n) last)
