use Rattle.std.proofs.Common.{rules, ◌++◌, [], refl, sym, append-nil}
use Rattle.text_out.proofs.Writing.{making_done, making_more, making_room, making_stopped, writes_err, writes_stopped}
use Rattle.page_text.proofs.Writing.{making_start}
use Rattle.page_text.proofs.text.put_last.Goals as goal

pub returns-in_err-make_room : goal.returns-in_err-make_room
returns-in_err-make_room g c =
    writes_stopped c.args.last.now c.from_residual.result (search rules) c.in_err-make_room.ensures.put

pub returns-in_err-put : goal.returns-in_err-put
returns-in_err-put g c =
    let old = c.args.page.now.items in
    let last = c.args.last.now in
    let room = making_room (making_start (g.O.Out.device c.args.out.now) old last) c.in_ok-make_room.ensures.put in
    let stopped = rw c.as_slice.ensures.value at c.in_err-put.ensures in
    writes_err (old ++ last) c.from_residual-in_err-put.result (search rules)
    (making_stopped (making_more c.push.new.page.items last [] room (sym
    (append-nil last)) c.push.ensures.text) stopped)

pub returns : goal.returns
returns g c =
    let old = c.args.page.now.items in
    let last = c.args.last.now in
    let room = making_room (making_start (g.O.Out.device c.args.out.now) old last) c.in_ok-make_room.ensures.put in
    let wrote = rw c.as_slice.ensures.value at c.in_ok-put.ensures in
    making_done (making_more c.push.new.page.items last [] room (sym (append-nil last)) c.push.ensures.text) refl wrote
