-- The bar that is added is the transaction that ended, which is drawn: it ends behind this step, and begins no later.
use Rattle.std.proofs.Common.{◌≡◌, ◌∷◌, ◌++◌, [], true, false, ap, sym, ◌∙◌, arith}
use Rattle.std.proofs.lemmas.Result.{on_ok_weaker}
use Rattle.tm_timeline.specs.Told.{bars, is_few}
use Rattle.tm_timeline.proofs.timeline.Timeline.end.Goals as goal

pub returns-then-is_drawn-clause-bar : goal.returns-then-is_drawn-clause-bar
returns-then-is_drawn-clause-bar c =
    let same = c.set.ensures.picture in
    on_ok_weaker c.add.result
    (λ added few from to. record {
      span = c.ended-span.result;
      ended = c.ended-span.ensures.ended (omega arith);
      added = added (ap is_few same ∙ few) ∙ ap (λ p. bars p ++ c.ended-span.result ∷ []) same;
    })
    c.add.ensures.bars

pub returns-else-is_drawn-clause-bar : goal.returns-else-is_drawn-clause-bar
returns-else-is_drawn-clause-bar c = λ few from to.
    let ended = c.ended-span.ensures.ended (omega arith) in
    let begin = c.ended-span.ensures.begin in
    let end = ended.end in
    let drawn = c.is_drawn.ensures.1 (omega arith, omega arith) in
    let both : true ≡ false = sym drawn ∙ c.if-is_drawn.false in
    cc
