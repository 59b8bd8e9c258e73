use Rattle.std.proofs.Common.{rules, ◌+◌, ◌≤◌, ◌<◌, length, arith, sym, refl, ◌∷◌, [], ◌++◌, ◌∙◌, ap, drop}
use Rattle.hex.specs.Hex.{encode_lower}
use Rattle.text_out.proofs.Writing.{making_more, making_none, making_room, making_stopped, writes_err}
use Rattle.page_text.specs.Escaped.{hex_text}
use Rattle.page_text.proofs.Writing.{hex_end, hex_step, making_writes}
use Rattle.page_text.proofs.number.write_hex.Goals as goal

pub returns-in_err-make_room : goal.returns-in_err-make_room
returns-in_err-make_room g c =
    writes_err (hex_text c.args.bytes.now) c.from_residual.result (search rules)
    (making_stopped c.chunks.invariant.1 c.in_err-make_room.ensures.put)

pub chunks-preserved : goal.chunks-preserved
chunks-preserved g c =
    let bytes = c.args.bytes.now in
    let place = c.chunks.place in
    let end = c.min-end.result in
    let inside : place < length bytes = c.chunks-test.true in
    let within : end ≤ length bytes = omega (arith, c.min-end.ensures) in
    let forward : place ≤ end = omega (arith, c.min-end.ensures) in
    let making = making_room c.chunks.invariant.1 c.in_ok-make_room.ensures.put in (
      within,
      making_more c.push_bytes.new.page.items _ _ making
          (hex_step bytes place end forward within) c.push_bytes.ensures.text,
    )

pub returns : goal.returns
returns g c =
    let same = hex_end c.args.bytes.now c.chunks.place c.chunks-test.false in
    making_writes (g.O.Out.device c.put_last.new.out) c.put_last.result c.chunks.invariant.1
    (rw same c.put_last.ensures)
