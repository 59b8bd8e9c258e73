use Rattle.std.proofs.Common.{◌≡◌, ◌+◌, ◌++◌, length, sym, ap, ◌∙◌, subst, arith, rules}
use Rattle.std.specs.Option.{option_to_list}
use Rattle.std.specs.Prelude.{slice_get, slice_index, vec_len}
use Rattle.tm_work.specs.Workers.{AreLeft}
use Rattle.tm_work.proofs.Counts.{left_next, snoc_each}
use Rattle.tm_work.proofs.workers.start_all.Goals as goal

pub spawn_scoped_with-requires-clause-runs : goal.spawn_scoped_with-requires-clause-runs
spawn_scoped_with-requires-clause-runs g c κs within =
    let i = c.loop-core.invariant in
    let split = c.pop_front.ensures.items ∙ ap (λ o. option_to_list o ++ c.pop_front.new.self.items) c.in-Some.is in
    let n = left_next c.loop-core.seats.items c.pop_front.new.self.items c.in-Some.seat _ _ i.seats split in
    (ap (λ s. s.progress.steps) n.0, c.requires.events)

pub loop-core-preserved : goal.loop-core-preserved
loop-core-preserved g c =
    let i = c.loop-core.invariant in
    let p = c.push_reserved.ensures in
    let split = c.pop_front.ensures.items ∙ ap (λ o. option_to_list o ++ c.pop_front.new.self.items) c.in-Some.is in
    let n = left_next c.loop-core.seats.items c.pop_front.new.self.items c.in-Some.seat _ _ i.seats split in
    let count = i.count in
    let len : vec_len c.loop-core.handles ≡ length c.loop-core.handles.items = search rules in
    let room = i.room in
    let kept = p.capacity in
    let longer = p.len in
    record {
      count = omega (arith, count, longer);
      room = omega (arith, room, kept);
      jobs = λ k h is. snoc_each (λ j x. (x.promise.core ≡ j) × (x.promise.budget ≡ slice_index c.args.budgets.now j))
          c.loop-core.handles.items c.in-Ok.handle i.jobs (
            ap (λ p. p.core) c.in-Ok.ensures.ok ∙ c.core.ensures.is ∙ ap (λ s. s.core) n.0 ∙ sym count ∙ len,
            ap (λ p. p.budget) c.in-Ok.ensures.ok ∙ ap (λ j. slice_index c.args.budgets.now j) (sym count ∙ len),
          ) k h (ap (λ l. slice_get l k) (sym p.items) ∙ is);
      seats = n.1;
    }

pub returns-in-Err-clause-left : goal.returns-in-Err-clause-left
returns-in-Err-clause-left g c =
    let i = c.loop-core.invariant in
    let split = c.pop_front.ensures.items ∙ ap (λ o. option_to_list o ++ c.pop_front.new.self.items) c.in-Some.is in
    let n = left_next c.loop-core.seats.items c.pop_front.new.self.items c.in-Some.seat _ _ i.seats split in
    let below = c.loop-core-test.true in
    let count = i.count in (
      omega (arith, count, below),
      subst (λ (k : _). AreLeft c.pop_front.new.self.items (k + 1) (length c.args.budgets.now)) (sym count) n.1,
    )
