use Rattle.std.proofs.Common.{get_or, inl, refl}
use Rattle.std.proofs.lemmas.List.Elements.{Contains-get_or}
use Rattle.std.proofs.lemmas.Result.{err_from_is_err_and}
use Rattle.tm_check.specs.declared.check.Check.TheVariants.{NoStop}
use Rattle.elide_checks.specs.Checks.{IsStopCheck}
use Rattle.elide_checks.proofs.Zips.{no_text, one_added}
use Rattle.elide_checks.proofs.demands.add_stops.Goals as goal

pub loop-word-preserved : goal.loop-word-preserved
loop-word-preserved c =
    one_added IsStopCheck
    c.args.words.now c.loop-word.word-index c.args.checks.now.items _ _
    (NoStop c.in_ok-why.why) c.loop-word-test.true c.loop-word.invariant c.in_ok-add.ensures
    (c.in_ok-why.why, refl, c.in_ok-why.ensures)

pub returns-in_err-why : goal.returns-in_err-why
returns-in_err-why c =
    let p = err_from_is_err_and c.from_residual.result c.from_residual.ensures.1 in
    let words = c.args.words.now in
    rw (p.1, p.2) (inl (record {
      word = get_or words c.loop-word.word-index no_text;
      among = Contains-get_or words c.loop-word.word-index no_text c.loop-word-test.true;
      other = c.in_err-why.ensures.0;
      named = c.in_err-why.ensures.1;
    }))
