use Rattle.std.proofs.Common.{sym}
use Rattle.elide_run.proofs.Running.{told_running, told_stopped}
use Rattle.elide_run.proofs.halting.ending_of.Goals.{then-not-has_stopped+in_ok-write_running, else-not-has_stopped}
use Rattle.elide_run.proofs.halting.ending_of.Goals as goal

pub loop-core-preserved : goal.loop-core-preserved
loop-core-preserved g c =
    let device = g.O.Out.device in
    let machine = c.args.machine.now in
    let before = c.loop-core.invariant in
    elim c.if-not-has_stopped.branch [
      | then-not-has_stopped+in_ok-write_running w ↦
          rw (w.ending-is, w.out-is)
          (told_running machine c.loop-core.core c.loop-core.ending (device c.args.out.now) (device c.loop-core.out) _
          before (sym w.if-not-has_stopped.ensures) w.in_ok-write_running.ensures)
      | else-not-has_stopped w ↦
          rw (w.ending-is, w.out-is)
          (told_stopped machine c.loop-core.core c.loop-core.ending (device c.args.out.now) (device c.loop-core.out)
          before (sym w.if-not-has_stopped.ensures))
    ]
