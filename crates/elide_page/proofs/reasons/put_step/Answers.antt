use Rattle.std.proofs.Common.{◌∙◌, ◌-◌, ap, sym}
use Rattle.elide_page.proofs.Explaining.{none_told, one_told, or_false, or_true}
use Rattle.elide_page.proofs.reasons.put_step.Goals as goal

pub returns-in-None-clause-piece : goal.returns-in-None-clause-piece
returns-in-None-clause-piece g c =
    let standing = c.args.standing in
    none_told standing.window standing.made standing.some c.args.step.now.outcome (g.O.Out.device c.args.out.now)
    (sym c.in-None.ensures)

pub returns-in-None-clause-some : goal.returns-in-None-clause-some
returns-in-None-clause-some g c = or_false c.args.standing.some _ (sym c.in-None.ensures)

pub returns-in_ok-put_reason-in-Some-clause-piece : goal.returns-in_ok-put_reason-in-Some-clause-piece
returns-in_ok-put_reason-in-Some-clause-piece g c =
    let standing = c.args.standing in
    let window = standing.window in
    let step = c.saturating_sub-place.ensures ∙ ap (λ n. n - window.from) c.requires in
    one_told window standing.made _ standing.some c.args.step.now.outcome c.behind_words-reason.result.now
    (g.O.Out.device c.args.out.now) (g.O.Out.device c.put_reason.new.out) (sym c.in-Some.ensures) step
    c.in_ok-put_reason-in-Some.ensures.plain c.in_ok-put_reason-in-Some.ensures.text

pub returns-in_ok-put_reason-in-Some-clause-some : goal.returns-in_ok-put_reason-in-Some-clause-some
returns-in_ok-put_reason-in-Some-clause-some g c = or_true c.args.standing.some _ (sym c.in-Some.ensures)
