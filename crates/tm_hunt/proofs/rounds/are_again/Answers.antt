use Rattle.std.proofs.Common.{rules}
use Rattle.tm_hunt.proofs.Cycles.{again_more, cut_again}
use Rattle.tm_hunt.proofs.rounds.are_again.Goals as goal

pub rounds-preserved : goal.rounds-preserved
rounds-preserved c =
    again_more c.rounds.invariant.0 c.args.picks.now c.args.round.now c.rounds.left.now c.split_at.result.0.now
    c.split_at.result.1.now c.rounds.invariant.1
    (cut_again c.rounds.left.now c.split_at.result.0.now c.split_at.result.1.now _ c.split_at.ensures.front
    c.split_at.ensures.back)
    (c.are_same.ensures (search rules))
