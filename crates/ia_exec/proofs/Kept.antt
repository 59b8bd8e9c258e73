-- Registers that nothing changed are kept, whatever an instruction comes to.
use Rattle.std.proofs.Common.{refl}
use Rattle.ia_regs.specs.declared.Regs.{Regs}
use Rattle.ia_exec.specs.declared.done.Finished.{Finished}
use Rattle.ia_exec.specs.declared.done.Finished.TheVariants as finished
use Rattle.ia_exec.specs.Finished.{IsKept}

pub same_is_kept : (x : Finished) (r : Regs) → IsKept x r r
same_is_kept finished.Goes r = tt
same_is_kept (finished.Stores w) r = tt
same_is_kept (finished.Faults e) r = refl
same_is_kept finished.Halts r = refl
same_is_kept (finished.Begins f) r = refl
same_is_kept finished.Ends r = refl
same_is_kept (finished.Aborts k) r = refl
