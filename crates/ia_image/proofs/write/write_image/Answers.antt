use Rattle.std.proofs.Common.{◌<◌, length, arith}
use Rattle.ia_image.specs.ImageText.{image_text}
use Rattle.text_out.proofs.Writing.{making_more, making_room, making_stopped, making_done, writes_err}
use Rattle.ia_image.proofs.Rows.{rows_step, rows_end}
use Rattle.ia_image.proofs.write.write_image.Goals as goal

pub returns-in_err-make_room-clause-text : goal.returns-in_err-make_room-clause-text
returns-in_err-make_room-clause-text g c =
    writes_err (image_text c.args.bytes.now c.args.base c.args.code_len) c.from_residual.result
    c.from_residual.ensures.0 (making_stopped c.rows.invariant.1 c.in_err-make_room.ensures.put)

pub rows-preserved : goal.rows-preserved
rows-preserved g c =
    let making = making_room c.rows.invariant.1 c.in_ok-make_room.ensures.put in
    let inside : c.rows.place < length c.args.bytes.now = c.rows-test.true in
    let row = rows_step c.args.bytes.now c.rows.place c.min-count.result inside c.min-count.ensures in
    (omega (arith, c.min-count.ensures), making_more c.push_row.new.page.items _ _ making row c.push_row.ensures)

pub returns-in_err-put-clause-text : goal.returns-in_err-put-clause-text
returns-in_err-put-clause-text g c =
    let stopped = rw c.as_slice.ensures.value at c.in_err-put.ensures in
    writes_err (image_text c.args.bytes.now c.args.base c.args.code_len) c.from_residual-in_err-put.result
    c.from_residual-in_err-put.ensures.0 (making_stopped c.rows.invariant.1 stopped)

pub returns-clause-text : goal.returns-clause-text
returns-clause-text g c =
    let wrote = rw c.as_slice.ensures.value at c.in_ok-put.ensures in
    making_done c.rows.invariant.1 (rows_end c.args.bytes.now c.rows.place c.rows-test.false) wrote
