use Rattle.std.proofs.Common.{◌≡◌, ◌+◌, suc, length, sym, ap, ◌∙◌, subst, arith, rules}
use Rattle.std.specs.Prelude.{slice_get, slice_index, vec_len}
use Rattle.tm_work.specs.Workers.{EachDone}
use Rattle.tm_work.proofs.Counts.{done_more}
use Rattle.tm_work.proofs.workers.join_all.Goals as goal

pub loop-handle-preserved : goal.loop-handle-preserved
loop-handle-preserved g c =
    let i = c.loop-handle.invariant in
    let s = c.in-Some.ensures.steps in
    let p = c.push_reserved.ensures in
    let count = i.count in
    let room = i.room in
    let fewer = s.1 in
    let kept = p.capacity in
    let longer = p.len in
    let len : vec_len c.loop-handle.done ≡ length c.loop-handle.done.items = search rules in
    let first = i.jobs 0 c.in-Some.handle (ap (λ l. slice_get l 0) s.0) in
    let here : vec_len c.loop-handle.done + 0 ≡ length c.loop-handle.done.items = omega (arith, len) in
    record {
      count = omega (arith, count, fewer, longer);
      jobs = λ k h is.
          let at = i.jobs (suc k) h (ap (λ l. slice_get l (suc k)) s.0 ∙ is) in
          let next : vec_len c.loop-handle.done + suc k ≡ vec_len c.push_reserved.new.self + k =
          omega (arith, longer) in
          (at.0 ∙ next, at.1 ∙ ap (slice_index c.args.budgets.now) next);
      done = subst (EachDone c.args.budgets.now) (sym p.items)
          (done_more c.args.budgets.now c.loop-handle.done.items c.join.result _ _ i.done c.join.ensures
          (first.0 ∙ here) (first.1 ∙ ap (slice_index c.args.budgets.now) here));
      room = omega (arith, room, kept);
    }
