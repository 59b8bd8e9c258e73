use Rattle.std.proofs.Common.{ap, ◌∙◌, ◌++◌, ◌∷◌, []}
use Rattle.tm_hist.specs.declared.serial_core.SerialCore.TheVariants.{Closed}
use Rattle.tm_hist.proofs.Runs.{cores_more}
use Rattle.tm_hist.proofs.one_memory.first_cores.Goals as goal

pub cores-preserved : goal.cores-preserved
cores-preserved c = cores_more c.args.program.now c.cores.core c.cores.cores.items _ c.cores.invariant
    (c.in_ok-push.ensures.items ∙ ap (λ regs. c.cores.cores.items ++ Closed regs ∷ []) c.start_regs.ensures)
