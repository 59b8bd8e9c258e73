use Rattle.std.proofs.Common.{◌≡◌, ◌<◌, ◌+◌, ◌*◌, length, get_or, refl, ap, ◌∙◌, arith}
use Rattle.std.proofs.lemmas.Grind.{common_steps}
use Rattle.tm_buffer.proofs.Drain.{drain_next, drain_all, slot_fits, memory_with_below}
use Rattle.tm_buffer.proofs.slots.drain.Goals as goal

pub drain_slot-requires-clause-below : goal.drain_slot-requires-clause-below
drain_slot-requires-clause-below c = λ k small bit.
    let below : get_or c.args.lines.now c.loop-place.place 0 * 64 + k < length c.args.memory.now =
    slot_fits c.args.lines.now c.args.masks.now c.args.bytes.now (length c.args.memory.now) c.loop-place.place k _ _
    c.requires.fits c.requires.places c.loop-place-test.true refl refl small bit in
    omega (arith, below, c.loop-place.auto.memory)

pub loop-place-preserved : goal.loop-place-preserved
loop-place-preserved c =
    drain_next c.args.lines.now c.args.masks.now c.args.bytes.now c.args.memory.now _ c.loop-place.memory
    c.drain_slot.new.memory c.loop-place.place _ _
    c.requires.places c.loop-place-test.true refl refl (λ i small. grind (arith, common_steps)) c.loop-place.invariant
    c.drain_slot.ensures

pub returns : goal.returns
returns c =
    let end : c.loop-place.place ≡ length c.args.lines.now = omega arith in
    drain_all c.args.lines.now c.args.masks.now c.args.bytes.now c.args.memory.now c.loop-place.memory
    c.loop-place.auto.memory
    (λ q. c.loop-place.invariant q
    ∙ ap (λ n. memory_with_below c.args.lines.now c.args.masks.now c.args.bytes.now c.args.memory.now n q) end)
