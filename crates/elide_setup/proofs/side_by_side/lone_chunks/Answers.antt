use Rattle.std.proofs.Common.{◌≤◌, ◌+◌, length, arith}
use Rattle.elide_setup.specs.Schedules.{lone_pick}
use Rattle.elide_setup.proofs.AlikeChunks.{chunk_on}
use Rattle.elide_setup.proofs.side_by_side.lone_chunks.Goals as goal

pub loop-count-preserved : goal.loop-count-preserved
loop-count-preserved c =
    let count = c.loop-count.count in
    let steps = c.args.steps.now in
    let below : count + 64 ≤ length steps = omega (arith, c.loop-count.invariant.most, c.loop-count-test.true) in
    record {
      alike = chunk_on steps (lone_pick c.args.core) count 64 below c.loop-count.invariant.alike
          (c.are_lone.ensures c.if-are_lone.true);
      most = below;
    }
