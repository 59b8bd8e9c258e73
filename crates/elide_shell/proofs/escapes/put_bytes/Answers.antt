use Rattle.std.proofs.Common.{◌∙◌, ◌+◌, ◌++◌, ap, append_assoc, drop, get_or}
use Rattle.std.proofs.lemmas.List.{drop_more, take_rest}
use Rattle.text_out.proofs.Writing.{wrote_then}
use Rattle.elide_shell.specs.Controls.{escaped_behind, first_escaped}
use Rattle.elide_shell.proofs.Escaping.{one_more}
use Rattle.elide_shell.proofs.escapes.put_bytes.Goals as goal

pub bytes-preserved : goal.bytes-preserved
bytes-preserved g c =
    let text = c.args.text.now in
    let mark = c.args.mark in
    let at = c.bytes.at in
    let before = c.bytes.before in
    let rest = drop (at + 1) text in
    let byte = get_or text at 0 in
    let done = c.bytes.invariant.0 in
    let first = first_escaped mark before (drop at text) in
    let wrote = rw (take_rest text at) at c.in_ok-put_first.ensures in (
      done ++ first,
      wrote_then c.bytes.invariant.1 wrote,
      append_assoc done first (escaped_behind mark byte rest)
          ∙ ap (λ l. done ++ l) (one_more mark before byte (drop at text) rest (drop_more text at 0 c.bytes-test.true))
          ∙ c.bytes.invariant.2,
    )
