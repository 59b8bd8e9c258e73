use Rattle.std.proofs.Common.{◌≤◌, length, sym, ap, ◌∙◌, arith}
use Rattle.tm_buffer.specs.Buffer.{place_of}
use Rattle.tm_buffer.proofs.Holding.{one_free}
use Rattle.tm_buffer.proofs.stored.Buffer.first_free.Goals as goal

pub unreachable-requires : goal.unreachable-requires
unreachable-requires c =
    let full : c.self.inside.room ≤ length c.self.inside.slots.items =
    one_free c.self.inside.slots.items c.self.inside.places.items c.self.inside.room
    (λ slot low none. c.loop-slot.invariant slot (omega (arith, low, c.loop-slot-test.false))
    (ap (λ h. place_of h.slots slot) (sym c.self.view_is) ∙ none)) in
    omega (
      arith,
      full,
      c.self.invariant.0.each,
      ap (λ h. length h.order) c.self.view_is,
      ap (λ h. h.room) c.self.view_is,
      c.requires,
    )
