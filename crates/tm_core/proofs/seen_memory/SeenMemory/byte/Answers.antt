use Rattle.std.proofs.Common.{◌∙◌, ◌<◌, ℕ, List, ap, get_or, length, subst, sym}
use Rattle.tm_core.proofs.OtherCores.{length-seen}
use Rattle.tm_core.proofs.seen_memory.SeenMemory.byte.Goals as goal

pub byte_under-requires-clause-within : goal.byte_under-requires-clause-within
byte_under-requires-clause-within c =
    subst (λ n. c.args.address < n)
    (ap length (sym c.self.view_is) ∙ length-seen c.self.inside.memory.now c.self.inside.pending.now) c.requires

pub returns : goal.returns
returns c = c.byte_under.ensures ∙ ap (λ (l : List ℕ). get_or l c.args.address 0) c.self.view_is
