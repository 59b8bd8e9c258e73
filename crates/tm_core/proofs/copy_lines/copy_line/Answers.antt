use Rattle.std.proofs.Common.{◌≡◌, ◌≤◌, ℕ, Some, length, get_or, sym, ap, ◌∙◌, subst, arith}
use Rattle.tm_buffer.specs.Buffer.{IsSlotOf}
use Rattle.tm_sets.specs.Content.{Content}
use Rattle.tm_core.proofs.Copies.{as_long}
use Rattle.tm_core.proofs.Slotted.{written_slot}
use Rattle.tm_core.proofs.copy_lines.copy_line.Goals as goal

pub copy_next-requires-clause-slot : goal.copy_next-requires-clause-slot
copy_next-requires-clause-slot g c =
    let b : Content = g.S.Sets.content c.args.sets.now in
    let l : ℕ = get_or c.args.twin.now.order c.args.place 0 in
    let below : c.args.place ≤ length c.args.twin.now.order = omega (arith, c.requires.place) in
    let long : length c.args.buffer.now.order ≡ c.args.place =
    as_long c.args.place c.args.buffer.now.order c.args.twin.now.order c.requires.order below in
    let at : b.slots c.args.core l ≡ Some c.in-Some.slot =
    ap (b.slots c.args.core) (sym c.line_at.ensures) ∙ sym c.slot.ensures.value ∙ c.in-Some.is in
    subst (λ n. IsSlotOf c.args.buffer.now (get_or c.args.twin.now.order n 0) (Some c.in-Some.slot)) (sym long)
    (subst (IsSlotOf c.args.buffer.now l) at
    (written_slot b c.args.core c.requires.core c.slot.ensures.all c.args.buffer.now c.requires.room c.requires.slots l
    c.requires.line.1))
