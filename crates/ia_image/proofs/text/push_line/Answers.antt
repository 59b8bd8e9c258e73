use Rattle.std.proofs.Common.{◌*◌, ◌/◌, length, append-nil, arith, sym, ap, ◌∙◌, Ok, []}
use Rattle.ia_image.specs.ImageText.{bytes_of_line}
use Rattle.ia_image.proofs.Lending.{half, lent_back, line_decoded, room_is}
use Rattle.ia_image.proofs.text.push_line.Goals as goal

pub returns-in-Ok : goal.returns-in-Ok
returns-in-Ok c =
    let start = length c.as_slice-start.result.now in
    let n = length c.args.line.now / 2 in
    let twice = half (length c.args.line.now) (omega arith) in
    let room = room_is c.deref_mut.result.now start n (c.deref_mut.ensures.len ∙ c.in_ok-resize.ensures.len) in
    let decoded = line_decoded c.args.line.now c.decode_to_slice.new.out _ _ (twice ∙ ap (λ k. 2 * k) (sym room))
    c.decode_to_slice.ensures.value c.in-Ok.is in (
      c.decode_to_slice.new.out,
      ap (λ d. bytes_of_line d c.args.number (Ok [])) decoded ∙ ap Ok (append-nil c.decode_to_slice.new.out),
      lent_back c.args.bytes.now.items c.deref_mut.result.now c.decode_to_slice.new.out c.resize.new.self.items start _
          c.resize.new.self.len n
          (ap length c.as_slice-start.ensures.value) c.as_slice-start.ensures.len c.in_ok-resize.ensures.items
          c.deref_mut.ensures.value
          (sym c.deref_mut.ensures.len ∙ ap length c.deref_mut.ensures.value) (c.decode_to_slice.auto.out ∙ room),
    )
