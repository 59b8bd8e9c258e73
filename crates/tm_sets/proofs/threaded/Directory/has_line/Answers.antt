use Rattle.std.proofs.Common.{◌≡◌, false, nat_lt, rules, sym, ◌∙◌}
use Rattle.tm_sets.specs.DirectoryRows.{rows_of}
use Rattle.tm_sets.proofs.Within.{past}
use Rattle.tm_sets.proofs.threaded.Directory.has_line.Goals as goal

pub returns-else-line-self : goal.returns-else-line-self
returns-else-line-self c =
    let not_below : nat_lt c.args.line c.args.self.now.line_count ≡ false = search (rules, c.if-line-self.false) in
    not_below ∙ sym (past (rows_of c.args.self.now) c.args.self.now.counted c.args.core c.args.kind c.args.line
    (omega (Rattle.std.proofs.Common.arith, c.if-line-self.false)))
