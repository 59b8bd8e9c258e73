use Rattle.std.proofs.Common.{rules, ◌+◌, take}
use Rattle.std.proofs.lemmas.List.{take_more}
use Rattle.tm_hunt.proofs.Cycles.{makes_more, same_more}
use Rattle.tm_hunt.proofs.walker.makes_all.Goals as goal

pub loop-pick-preserved : goal.loop-pick-preserved
loop-pick-preserved c =
    let picks = c.args.picks.now in
    let at = c.loop-pick.pick-index in
    record {
      same = same_more _ _ _ c.loop-pick.invariant.same c.makes.ensures.same;
      made =
          makes_more _ _ _ (take at picks) _ (take (at + 1) picks) (take_more picks at _ c.loop-pick-test.true)
          c.loop-pick.invariant.made (c.makes.ensures.made (search rules));
    }
