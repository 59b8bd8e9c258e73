use Rattle.std.proofs.Common.{rules, sym}
use Rattle.text_out.proofs.Writing.{writes_stopped, writes_then}
use Rattle.elide_program.specs.declared.parts.Dump.{Dump}
use Rattle.elide_setup.specs.Shown.{dumps_text}
use Rattle.elide_setup.proofs.ShownTexts.{first_dump, others_of, writes_same}
use Rattle.elide_setup.proofs.shown.+show_dumps.Goals as goal

abbrev none : Dump
none = record { address = 0; length = 0 }

pub returns-in_err-show_dump : goal.returns-in_err-show_dump
returns-in_err-show_dump g t c =
    writes_same _ _ _ _ c.from_residual.result
    (sym (first_dump c.args.bytes.now c.args.dumps.now none c.in-len1-up.len_at_least))
    (writes_stopped (dumps_text c.args.bytes.now (others_of c.args.dumps.now)) c.from_residual.result (search rules)
    c.in_err-show_dump.ensures)

pub returns : goal.returns
returns g t c =
    writes_same _ _ _ _ c.show_dumps.result
    (sym (first_dump c.args.bytes.now c.args.dumps.now none c.in-len1-up.len_at_least))
    (writes_then _ (dumps_text c.args.bytes.now (others_of c.args.dumps.now)) c.show_dumps.result
    c.in_ok-show_dump.ensures c.show_dumps.ensures)
