-- Neither what begins nor what is kept of a step changes the bars, so the bar of the end is added to those that were
-- there.
use Rattle.std.proofs.Common.{◌≡◌, ◌≤◌, ◌<◌, ◌∷◌, ◌++◌, [], Some, ap, sym, subst, ◌∙◌}
use Rattle.std.proofs.lemmas.Result.{on_ok_weaker}
use Rattle.tm_timeline.specs.Told.{IsEnded, bars, is_few}
use Rattle.tm_timeline.proofs.timeline.Timeline.note.Goals as goal

pub returns-in-Some-clause-bar : goal.returns-in-Some-clause-bar
returns-in-Some-clause-bar c =
    let began = c.begin.ensures.picture in
    let window = c.keep.ensures.window ∙ c.begin.ensures.window in
    let same = c.keep.ensures.bars ∙ ap bars began in
    on_ok_weaker c.end.result
    (λ bar what ends few from to.
    let added = bar (c.keep.ensures.kind ∙ ap is_few began ∙ few)
    (subst (λ w. w.from ≤ c.args.self.now.next) (sym window) from)
    (subst (λ w. c.args.self.now.next < w.to) (sym window) to) in
    let told : Some c.in-Some.fate ≡ Some what = sym c.in-Some.is ∙ c.fate_at.ensures ∙ ends in
    let own : c.in-Some.fate ≡ what = cc in
    record {
      span = added.span;
      ended = subst (λ f. IsEnded added.span c.args.core c.args.self.now.next f) own added.ended;
      added = added.added ∙ ap (λ b. b ++ added.span ∷ []) same;
    })
    c.end.ensures.bar
