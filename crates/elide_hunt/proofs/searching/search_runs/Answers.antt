use Rattle.std.proofs.Common.{rules, ◌≡◌, ℕ, true, false, arith, refl}
use Rattle.std.specs.Prelude.{is_some}
use Rattle.tm_hist.specs.Board.{ShownBoard as Board}
use Rattle.tm_hunt.specs.Sources.{IsPlannedRun}
use Rattle.elide_hunt.proofs.Shares.{passed_all, passed_more, passed_none, search_behind, search_fits, search_within}
use Rattle.elide_hunt.proofs.searching.search_runs.Goals as goal

pub turns-init : goal.turns-init
turns-init g c =
    passed_none c.args.trial.now (IsPlannedRun c.args.plan) c.args.orders.now.first c.args.orders.now.end

pub overflow_add-ended : goal.overflow_add-ended
overflow_add-ended g c =
    let made : ℕ → Board → Type 0 = IsPlannedRun c.args.plan in
    let fits = search_fits c.args.trial.now made c.turns.first c.block_end-end.result c.in_ok-search.search
    (omega arith) c.in_ok-search.ensures.made in
    let before = c.turns.invariant.counted in
    omega arith

pub overflow_add-cut : goal.overflow_add-cut
overflow_add-cut g c =
    let made : ℕ → Board → Type 0 = IsPlannedRun c.args.plan in
    let fits = search_fits c.args.trial.now made c.turns.first c.block_end-end.result c.in_ok-search.search
    (omega arith) c.in_ok-search.ensures.made in
    let before = c.turns.invariant.counted in
    omega arith

pub returns-then-is_some-clause-made : goal.returns-then-is_some-clause-made
returns-then-is_some-clause-made g c =
    let made : ℕ → Board → Type 0 = IsPlannedRun c.args.plan in
    let trial = c.args.trial.now in
    let orders = c.args.orders.now in
    let one = c.in_ok-search.search in
    let some : is_some one.found ≡ true = search rules in
    search_within trial made orders.first c.block_end-end.result orders.end _ some c.block_end-end.ensures.within
    (search_behind trial made orders.first c.turns.first c.block_end-end.result c.turns.ended c.turns.cut one _
    c.turns.invariant.passed
    c.turns.invariant.counted (omega arith) c.in_ok-search.ensures.made refl refl refl)

pub turns-preserved : goal.turns-preserved
turns-preserved g c =
    let made : ℕ → Board → Type 0 = IsPlannedRun c.args.plan in
    let orders = c.args.orders.now in
    let one = c.in_ok-search.search in
    let none : is_some one.found ≡ false = search rules in
    passed_more c.args.trial.now made orders.first orders.end c.turns.first c.block_end-end.result c.turns.ended
    c.turns.cut one c.turns.invariant
    (omega arith) c.block_end-end.ensures.within c.in_ok-search.ensures.made none

pub returns-clause-made : goal.returns-clause-made
returns-clause-made g c =
    passed_all c.args.trial.now (IsPlannedRun c.args.plan) c.args.orders.now.first c.args.orders.now.end c.turns.first _
    c.turns.invariant c.turns-test.false refl
