use Rattle.std.proofs.Common.{◌≡◌, ◌+◌, inl, ℕ, List, [], get_or, refl, sym, subst, take}
use Rattle.std.proofs.lemmas.List.Elements.{Contains-get_or}
use Rattle.std.proofs.lemmas.Result.{err_from_is_err_and}
use Rattle.tm_hist.specs.Lines.{stop_word}
use Rattle.tm_rule.specs.declared.kinds.Stop.{Stop}
use Rattle.elide_checks.proofs.Zips.{no_text, one_added}
use Rattle.elide_outcomes.specs.Stops.{AreStops}
use Rattle.elide_outcomes.proofs.stops.stops_of.Goals as goal

pub loop-word-preserved : goal.loop-word-preserved
loop-word-preserved c =
    let says : List ℕ → Stop → Type 0 = λ word why. stop_word why ≡ word in
    let words = c.args.words.now in
    let more = one_added says words c.loop-word.word-index [] c.loop-word.stops.items _
    c.in_ok-why.why c.loop-word-test.true (c.loop-word.stops.items, refl, c.loop-word.invariant) c.in_ok-add.ensures
    c.in_ok-why.ensures in
    subst (AreStops (take (c.loop-word.word-index + 1) words)) (sym more.1) more.2

pub returns-in_err-why : goal.returns-in_err-why
returns-in_err-why c =
    let p = err_from_is_err_and c.from_residual.result c.from_residual.ensures.1 in
    let words = c.args.words.now in
    rw (p.1, p.2) (inl (record {
      word = get_or words c.loop-word.word-index no_text;
      among = Contains-get_or words c.loop-word.word-index no_text c.loop-word-test.true;
      other = c.in_err-why.ensures.0;
      named = c.in_err-why.ensures.1;
    }))
