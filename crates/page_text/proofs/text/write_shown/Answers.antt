use Rattle.std.proofs.Common.{rules, ◌≡◌, ◌+◌, ◌-◌, ◌≤◌, ◌<◌, ◌⊎◌, inl, inr, length, arith, ◌∙◌, ap, sym, ◌++◌, drop}
use Rattle.std.specs.Prelude.{nat_lt}
use Rattle.bstr.specs.Utf8.{lossy_chars}
use Rattle.text_out.proofs.Writing.{making_more, making_room, making_stopped, writes_err}
use Rattle.page_text.specs.Escaped.{escaped}
use Rattle.page_text.specs.Shown.{dots_if, shown, shown_char, shown_chars}
use Rattle.page_text.proofs.Writing.{making_writes, shown_end, shown_step, step_within}
use Rattle.page_text.proofs.text.write_shown.Goals.{then-characters-test+else-left-gt0, else-characters-test}
use Rattle.page_text.proofs.text.write_shown.Goals as goal

pub returns-in_err-make_room : goal.returns-in_err-make_room
returns-in_err-make_room g c =
    writes_err (escaped c.args.escape (shown c.args.most c.args.text.now)) c.from_residual.result (search rules)
    (making_stopped c.characters.invariant.2 c.in_err-make_room.ensures.put)

pub overflow_add-place : goal.overflow_add-place
overflow_add-place g c =
    let step = step_within c.args.text.now c.characters.place c.decode_lossy-character.result.1 c.characters-test.true
    c.decode_lossy-character.ensures.size in
    search (rules, step.1)

pub characters-smaller : goal.characters-smaller
characters-smaller g c =
    let step = step_within c.args.text.now c.characters.place c.decode_lossy-character.result.1 c.characters-test.true
    c.decode_lossy-character.ensures.size in
    let inside : c.characters.place < length c.args.text.now = c.characters-test.true in
    omega (arith, step.0, step.1, inside)

pub characters-preserved : goal.characters-preserved
characters-preserved g c =
    let text = c.args.text.now in
    let place = c.characters.place in
    let size = c.decode_lossy-character.result.1 in
    let code = c.decode_lossy-character.result.0 in
    let inside : place < length text = c.characters-test.true in
    let step = step_within text place size inside c.decode_lossy-character.ensures.size in
    let making = making_room c.characters.invariant.2 c.in_ok-make_room.ensures.put in
    let less : c.characters.left ≤ c.args.most = c.characters.invariant.1 in
    let part = shown_step c.args.escape text place c.characters.left code size inside c.if-left-gt0.true
    c.decode_lossy-character.ensures.char c.decode_lossy-character.ensures.size in
    (step.1, omega (arith, less), making_more c.push_shown.new.page.items _ _ making part c.push_shown.ensures.text)

pub returns : goal.returns
returns g c =
    let text = c.args.text.now in
    let rest = escaped c.args.escape (shown_chars c.characters.left (lossy_chars (drop c.characters.place text))) in
    let ends : (length text ≤ c.characters.place) ⊎ (c.characters.left ≡ 0) = elim c.characters-test.branch [
      | then-characters-test+else-left-gt0 w ↦ inr (omega (arith, w.if-left-gt0.false))
      | else-characters-test w ↦ inl w.characters-test.false
    ] in
    let same : rest ≡ c.dots.result.now = shown_end c.args.escape text c.characters.place c.characters.left ends
    ∙ sym c.dots.ensures.text in
    making_writes (g.O.Out.device c.put_last.new.out) c.put_last.result c.characters.invariant.2
    (rw same c.put_last.ensures)
