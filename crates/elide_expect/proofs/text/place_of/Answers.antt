use Rattle.std.proofs.Common.{sym, ◌∙◌, ap, arith, nat_eq}
use Rattle.std.proofs.lemmas.List.{take_rest}
use Rattle.std.specs.List.{starts_with}
use Rattle.elide_expect.proofs.Behind.{place_more}
use Rattle.elide_expect.proofs.text.place_of.Goals as goal

pub loop-at-preserved : goal.loop-at-preserved
loop-at-preserved c =
    let rest = take_rest c.args.text.now c.loop-at.at in
    c.loop-at.invariant ∙ place_more c.args.piece.now c.args.text.now c.loop-at.at (omega arith)
    (ap (λ l. starts_with nat_eq l c.args.piece.now) (sym rest) ∙ sym c.starts_with.ensures.value
    ∙ c.if-starts_with.false)
