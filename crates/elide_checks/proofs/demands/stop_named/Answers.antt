use Rattle.std.proofs.Common.{false, codes}
use Rattle.std.specs.Cmp.Lexicographic.{told_text}
use Rattle.elide_checks.proofs.Reasons.{no_stop}
use Rattle.elide_checks.proofs.demands.stop_named.Goals as goal

pub returns : goal.returns
returns c =
    no_stop c.args.word.now
    (told_text c.args.word.now (codes "#DE") false c.if-eq.ensures)
    (told_text c.args.word.now (codes "#BP") false c.if-eq-2.ensures)
    (told_text c.args.word.now (codes "#UD") false c.if-eq-3.ensures)
    (told_text c.args.word.now (codes "#GP") false c.if-eq-4.ensures)
    (told_text c.args.word.now (codes "HLT") false c.if-eq-5.ensures)
    (told_text c.args.word.now (codes "range") false c.if-eq-6.ensures)
    (told_text c.args.word.now (codes "code-store") false c.if-eq-7.ensures)
    (told_text c.args.word.now (codes "fetch") false c.if-eq-8.ensures)
    (told_text c.args.word.now (codes "not-in-subset") false c.if-eq-9.ensures)
