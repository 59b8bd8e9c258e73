use Rattle.std.proofs.Common.{rules, ◌∙◌, sym, arith}
use Rattle.std.proofs.lemmas.List.{take_all, take_more_same}
use Rattle.tm_hunt.proofs.rounds.are_same.Goals as goal

pub loop-index-preserved : goal.loop-index-preserved
loop-index-preserved c =
    take_more_same c.args.picks.now c.args.others.now c.loop-index.index _ (omega arith) (omega arith)
    c.loop-index.invariant (c.is_same.ensures (search rules))

pub returns : goal.returns
returns c = λ is.
    let index = c.loop-index.index in
    sym (take_all index c.args.picks.now (omega arith))
    ∙ (c.loop-index.invariant ∙ take_all index c.args.others.now (omega arith))
