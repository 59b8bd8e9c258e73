use Rattle.std.proofs.Common.{◌∙◌, ◌<◌, ℕ, List, ap, get_or, length, subst, sym, take}
use Rattle.tm_model.specs.State.{Pending, seen_memory}
use Rattle.tm_core.proofs.LaidOver.{laid_more, nothing}
use Rattle.tm_core.proofs.OtherCores.{length-seen}
use Rattle.tm_core.proofs.seen_memory.byte_under.Goals as goal

pub loop-store-preserved : goal.loop-store-preserved
loop-store-preserved c =
    let m : List ℕ = c.args.memory.now in
    let stores : Pending = c.args.stores.now in
    let at : ℕ = c.loop-store.store-index in
    let sees : List ℕ = seen_memory m (take at stores) in
    let within : c.args.address < length sees =
    subst (λ n. c.args.address < n) (sym (length-seen m (take at stores))) c.requires.within in
    c.byte_behind-byte.ensures sees within c.loop-store.invariant
    ∙ ap (λ (l : List ℕ). get_or l c.args.address 0) (sym (laid_more m stores at nothing c.loop-store-test.true))
