use Rattle.tm_hunt.specs.Sources.{IsPlannedRun}
use Rattle.elide_hunt.proofs.Shares.{Joined}
use Rattle.elide_hunt.proofs.block.Block.join.Given as goal

-- the runs of the threads so far passed
abbrev pub invariant-loop-share : goal.invariant-loop-share
invariant-loop-share l =
    Joined l.self.trial (IsPlannedRun l.self.plan) l.self.first l.self.end l.self.jobs l.share-index l.all
