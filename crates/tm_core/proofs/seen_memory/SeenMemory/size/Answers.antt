use Rattle.std.proofs.Common.{◌∙◌, ◌^◌, ◌<◌, ap, length, subst, sym}
use Rattle.tm_core.proofs.OtherCores.{length-seen}
use Rattle.tm_core.proofs.seen_memory.SeenMemory.size.Goals as goal

pub size_of-requires : goal.size_of-requires
size_of-requires c =
    subst (λ n. n < 2 ^ 32)
    (ap length (sym c.self.view_is) ∙ length-seen c.self.inside.memory.now c.self.inside.pending.now) c.requires

pub returns : goal.returns
returns c =
    c.size_of.ensures ∙ sym (length-seen c.self.inside.memory.now c.self.inside.pending.now) ∙ ap length c.self.view_is
