use Rattle.std.proofs.Common.{◌<◌, ◌∙◌, ap, length, subst, sym}
use Rattle.tm_core.proofs.OtherCores.{length-seen}
use Rattle.tm_core.proofs.machine.Machine.seen.Goals as goal

pub byte-requires : goal.byte-requires
byte-requires g c =
    subst (λ n. c.args.address < n)
    (sym (ap length c.of-memory.ensures ∙ length-seen c.view.result.now c.pending_of.result.now
    ∙ ap length c.view.ensures)) c.requires
