use Rattle.std.proofs.Common.{rules, ◌++◌}
use Rattle.text_out.proofs.Writing.{wrote_then, writes_stopped, writes_then}
use Rattle.page_text.specs.Escaped.{title_text}
use Rattle.page_template.specs.declared.template.TheConstants.{HEAD, MIDDLE}
use Rattle.page_template.proofs.write_head.Goals as goal

pub returns-in_err-put : goal.returns-in_err-put
returns-in_err-put g c =
    let stopped = rw c.as_bytes.ensures.value at c.in_err-put.ensures in
    writes_stopped (title_text c.args.title.now 200 ++ MIDDLE.now) c.from_residual.result (search rules) stopped

pub returns-in_err-write_title : goal.returns-in_err-write_title
returns-in_err-write_title g c =
    let r = c.from_residual-in_err-write_title.result in
    let head = rw c.as_bytes.ensures.value at c.in_ok-put.ensures in
    writes_then _ (title_text c.args.title.now 200 ++ MIDDLE.now) r head
    (writes_stopped MIDDLE.now r (search rules) c.in_err-write_title.ensures.text)

pub returns-in_err-put-2 : goal.returns-in_err-put-2
returns-in_err-put-2 g c =
    let r = c.from_residual-in_err-put-2.result in
    let head = rw c.as_bytes.ensures.value at c.in_ok-put.ensures in
    let stopped = rw c.as_bytes-2.ensures.value at c.in_err-put-2.ensures in
    writes_then _ (title_text c.args.title.now 200 ++ MIDDLE.now) r head
    (writes_then _ MIDDLE.now r c.in_ok-write_title.ensures.text (search (rules, stopped)))

pub returns : goal.returns
returns g c =
    let head = rw c.as_bytes.ensures.value at c.in_ok-put.ensures in
    let middle = rw c.as_bytes-2.ensures.value at c.in_ok-put-2.ensures in
    wrote_then head (wrote_then c.in_ok-write_title.ensures.text middle)
