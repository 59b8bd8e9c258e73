use Rattle.std.proofs.Common.{set, subst}
use Rattle.std.proofs.lemmas.List.{get_or_default}
use Rattle.tm_model.specs.Access.{loaded_addresses}
use Rattle.tm_core.specs.declared.cpu.Cpu.{Cpu}
use Rattle.tm_core.specs.Representation.{no_cpu}
use Rattle.tm_core.specs.StepRefinement.{addresses_touched}
use Rattle.tm_core.specs.Stepping.{HitsOthers}
use Rattle.tm_core.specs.Types.{Read, Running}
use Rattle.tm_core.proofs.store_buffer.pend.Goals as goal

pub returns-clause-hits : goal.returns-clause-hits
returns-clause-hits g c =
    subst (λ (z : Cpu). HitsOthers (addresses_touched Read (loaded_addresses c.args.step.access)) c.args.c
    (g.S.Sets.content c.args.sets.now) (g.S.Sets.content c.hit_load.new.sets)
    (set c.args.cpus.now c.args.c (record z { base = c.args.step.regs; state = Running })) c.hit_load.new.cpus)
    (get_or_default c.args.cpus.now c.args.c c.index-cpus-c.result no_cpu c.requires.core.exists) c.hit_load.ensures
