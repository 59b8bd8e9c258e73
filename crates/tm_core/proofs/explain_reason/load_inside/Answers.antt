use Rattle.std.proofs.Common.{None, cond, sym, ap, ◌∙◌, subst}
use Rattle.std.proofs.lemmas.Bool.{ne_eqb}
use Rattle.ia_word.specs.Line.{line, last_line}
use Rattle.tm_buffer.specs.Buffer.{IsSlotOrNone}
use Rattle.tm_sets.specs.Content.{Content}
use Rattle.tm_core.proofs.Slotted.{any_slot}
use Rattle.tm_core.proofs.explain_reason.load_inside.Goals as goal

pub overlay_at-requires-clause-first : goal.overlay_at-requires-clause-first
overlay_at-requires-clause-first g c =
    let a : Content = g.S.Sets.content c.args.sets.now in
    let b = c.args.cpu.now.buffer in
    subst (IsSlotOrNone b (line c.in-Some.a.addr)) (sym c.slots_of-slots.ensures.first)
    (any_slot a c.args.c c.requires.core c.slots_of-slots.ensures.all b c.requires.held.same_room
    c.requires.held.slotted (line c.in-Some.a.addr) (c.requires.held.same (line c.in-Some.a.addr)))

pub overlay_at-requires-clause-last : goal.overlay_at-requires-clause-last
overlay_at-requires-clause-last g c apart =
    let a : Content = g.S.Sets.content c.args.sets.now in
    let b = c.args.cpu.now.buffer in
    let l = last_line c.in-Some.a.addr c.in-Some.a.width in
    subst (IsSlotOrNone b l) (sym (c.slots_of-slots.ensures.last
    ∙ ap (λ t. cond t None (a.slots c.args.c l)) (ne_eqb l (line c.in-Some.a.addr) apart)))
    (any_slot a c.args.c c.requires.core c.slots_of-slots.ensures.all b c.requires.held.same_room
    c.requires.held.slotted l (c.requires.held.same l))
