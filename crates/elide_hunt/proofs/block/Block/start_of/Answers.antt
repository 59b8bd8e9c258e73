use Rattle.std.proofs.Common.{arith, sym}
use Rattle.elide_hunt.proofs.Shares.{behind, within}
use Rattle.elide_hunt.proofs.block.Block.start_of.Goals as goal

pub returns-then-job-jobs : goal.returns-then-job-jobs
returns-then-job-jobs c =
    sym (behind c.args.self.now.first c.args.self.now.end c.args.self.now.jobs c.args.job (omega arith))

pub returns : goal.returns
returns c =
    let runs = c.from-runs.ensures in
    let jobs = c.from.ensures in
    let is = within c.args.self.now.first c.args.self.now.end c.args.self.now.jobs c.args.job (omega arith) in
    cc
