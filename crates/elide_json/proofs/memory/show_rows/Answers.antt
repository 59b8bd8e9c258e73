use Rattle.std.proofs.Common.{rules, ◌∙◌, ap, arith, map, take_all, ℕ, List, [], Bor}
use Rattle.std.specs.List.{zip}
use Rattle.std.proofs.lemmas.Slice.Zip.{length-zip}
use Rattle.elide_json.specs.Memory.{show_at, show_row}
use Rattle.elide_json.proofs.Lists.{rows_zip}
use Rattle.elide_json.proofs.memory.show_rows.Goals as goal

abbrev none : Bor (List ℕ)
none = record { ref_ptr = (0, 0); now = [] }

pub loop-index-preserved : goal.loop-index-preserved
loop-index-preserved c =
    let index = c.loop-index.index in
    let texts = c.args.texts.now in
    let addresses = c.args.addresses.now in
    ap (map show_row) c.in_ok-add.ensures
    ∙ rows_zip show_row (show_at c.args.memory.now) c.loop-index.rows.items c.in_ok-row.row texts addresses index none 0
    (search rules) (search rules) c.in_ok-row.ensures.row c.loop-index.invariant

pub returns-clause-rows : goal.returns-clause-rows
returns-clause-rows c =
    let texts = c.args.texts.now in
    let addresses = c.args.addresses.now in
    let count = length-zip texts addresses in
    c.loop-index.invariant
    ∙ ap (map (show_at c.args.memory.now)) (take_all c.loop-index.index (zip texts addresses)
    (omega (arith, count, c.loop-index-test.false, c.min-index-end.ensures)))
