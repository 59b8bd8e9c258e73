use Rattle.std.proofs.Common.{◌<◌, ℕ, ◌++◌, arith}
use Rattle.std.proofs.lemmas.Result.{err_from_is_err_and}
use Rattle.elide_setup.specs.Schedules.{lone_pick}
use Rattle.elide_setup.proofs.StepsRefused.{next_alike}
use Rattle.elide_setup.proofs.Walks.{leads_more, picks_alike}
use Rattle.elide_setup.proofs.walk.walk_run.Goals as goal

pub loop-done-preserved : goal.loop-done-preserved
loop-done-preserved g c =
    let made = c.loop-done.invariant.made in
    let others = c.in_ok-made.ensures.steps in
    record {
      most = omega (arith, c.in_ok-made.ensures.most);
      made = (
        made.0 ++ others.0,
        picks_alike made.0 others.0 (lone_pick c.args.core) c.loop-done.done c.in_ok-made.made made.1 others.1,
        leads_more g.S.StepMaker.takes made.0 others.0 c.args.maker.now c.loop-done.maker c.make_run.new.self
            made.2 others.2,
      );
    }

pub returns-in_err-made-clause-refused : goal.returns-in_err-made-clause-refused
returns-in_err-made-clause-refused g c =
    let made = c.loop-done.invariant.made in
    let done : ℕ = c.loop-done.done in
    let few : done < c.args.count = omega arith in
    let p = err_from_is_err_and c.from_residual.result c.from_residual.ensures.1 in
    rw (p.1, p.2)
    (record {
      made = made.0;
      after = c.loop-done.maker;
      lead = made.2;
      pick = lone_pick c.args.core;
      due = next_alike (lone_pick c.args.core) c.args.count done made.0 few made.1;
      refused = c.in_err-made.ensures.refused;
    })
