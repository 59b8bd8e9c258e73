use Rattle.std.proofs.Common.{◌-◌, ◌<◌, ◌∙◌, ℕ, List, get_or, length, reverse, take, sym, ap, arith}
use Rattle.std.proofs.lemmas.List.{get_or-reverse, length-reverse}
use Rattle.tm_model.specs.State.{seen_memory, with_store}
use Rattle.tm_core.specs.Types.{Store}
use Rattle.tm_core.proofs.LaidOver.{laid_more, nothing}
use Rattle.tm_core.proofs.laid.take_off.Goals as goal

pub loop-taken-preserved : goal.loop-taken-preserved
loop-taken-preserved c =
    let m : List ℕ = c.args.memory.now in
    let under : List Store = c.args.under.now in
    let at : ℕ = c.loop-taken.taken in
    let item : Store = get_or under (length under - 1 - at) nothing in
    let below : at < length under = omega (arith, c.loop-taken-test.true) in
    c.write.ensures
    ∙ ap (λ (l : List ℕ). with_store l item) c.loop-taken.invariant
    ∙ ap (with_store (seen_memory m (take at (reverse under)))) (sym (get_or-reverse under at nothing below))
    ∙ sym (laid_more m (reverse under) at nothing (omega (arith, length-reverse under)))
