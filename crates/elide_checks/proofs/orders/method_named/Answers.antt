use Rattle.std.proofs.Common.{false, codes}
use Rattle.std.specs.Cmp.Lexicographic.{told_text}
use Rattle.elide_checks.proofs.Reasons.{no_method}
use Rattle.elide_checks.proofs.orders.method_named.Goals as goal

pub returns : goal.returns
returns c =
    no_method c.args.word.now
    (told_text c.args.word.now (codes "mix") false c.if-eq.ensures)
    (told_text c.args.word.now (codes "uniform") false c.if-eq-2.ensures)
    (told_text c.args.word.now (codes "bursts") false c.if-eq-3.ensures)
    (told_text c.args.word.now (codes "pct") false c.if-eq-4.ensures)
    (told_text c.args.word.now (codes "seen") false c.if-eq-5.ensures)
