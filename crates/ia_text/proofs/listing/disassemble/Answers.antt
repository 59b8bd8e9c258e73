use Rattle.std.proofs.Common.{◌<◌, length, arith}
use Rattle.ia_text.specs.Listing.{listing}
use Rattle.ia_text.proofs.Lines.{listing_step, listing_end, place_inside}
use Rattle.text_out.proofs.Writing.{making_more, making_room, making_stopped, making_done, writes_err}
use Rattle.ia_text.proofs.listing.disassemble.Goals as goal

pub returns-in_err-make_room : goal.returns-in_err-make_room
returns-in_err-make_room g c =
    writes_err (listing c.args.code.now c.args.base) c.from_residual.result c.from_residual.ensures.0
    (making_stopped c.lines.invariant.2 c.in_err-make_room.ensures.put)

pub lines-preserved : goal.lines-preserved
lines-preserved g c =
    let making = making_room c.lines.invariant.2 c.in_ok-make_room.ensures.put in
    let inside : c.lines.place < length c.args.code.now = c.lines-test.true in
    let line = listing_step c.args.code.now c.lines.place c.lines.at c.push_line-shown.result c.from-place.result
    c.from-at.result inside c.lines.invariant.1
    c.push_line-shown.ensures.count c.push_line-shown.ensures.some c.from-place.ensures c.from-at.ensures in (
      place_inside c.args.code.now c.lines.place c.push_line-shown.result c.from-place.result inside
          c.push_line-shown.ensures.within c.from-place.ensures,
      omega arith,
      making_more c.push_line-shown.new.page.items _ _ making line c.push_line-shown.ensures.text,
    )

pub returns-in_err-put : goal.returns-in_err-put
returns-in_err-put g c =
    let stopped = rw c.as_slice.ensures.value at c.in_err-put.ensures in
    writes_err (listing c.args.code.now c.args.base) c.from_residual-in_err-put.result
    c.from_residual-in_err-put.ensures.0 (making_stopped c.lines.invariant.2 stopped)

pub returns : goal.returns
returns g c =
    let wrote = rw c.as_slice.ensures.value at c.in_ok-put.ensures in
    making_done c.lines.invariant.2 (listing_end c.args.code.now c.lines.at c.lines.place c.lines-test.false) wrote
