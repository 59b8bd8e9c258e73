use Rattle.std.proofs.Common.{rules, ◌∙◌, ap, map}
use Rattle.elide_json.specs.Memory.{dump_at, dump_row}
use Rattle.elide_json.proofs.Lists.{rows_more}
use Rattle.elide_json.proofs.memory.dump_rows.Goals as goal

pub loop-dump-preserved : goal.loop-dump-preserved
loop-dump-preserved c =
    ap (map dump_row) c.in_ok-add.ensures
    ∙ rows_more dump_row (dump_at c.args.memory.now) _ _ _ _ _ (search rules) (search rules) c.in_ok-row.ensures.row
    c.loop-dump.invariant
