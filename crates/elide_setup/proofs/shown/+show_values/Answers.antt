use Rattle.std.proofs.Common.{ℕ, List, [], Bor, sym}
use Rattle.text_out.proofs.Writing.{writes_then}
use Rattle.elide_setup.specs.Shown.{values_text}
use Rattle.elide_setup.proofs.ShownTexts.{first_value, others_of, writes_same}
use Rattle.elide_setup.proofs.shown.+show_values.Goals as goal

abbrev none : Bor (List ℕ)
none = record { ref_ptr = (0, 0); now = [] }

pub returns : goal.returns
returns g t c =
    writes_same _ _ _ _ c.show_values.result
    (sym (first_value c.args.bytes.now c.args.sums.now c.args.values.now none c.in-len1-up.len_at_least
    c.in-len1-up-values.len_at_least))
    (writes_then _ (values_text c.args.bytes.now (others_of c.args.sums.now) (others_of c.args.values.now))
    c.show_values.result
    c.in_ok-show_value.ensures c.show_values.ensures)
