use Rattle.tm_hist.specs.Back.{IsFirst}
use Rattle.tm_hist.proofs.back.follow.Given as goal

-- the steps so far are the first of the history
abbrev pub invariant-steps : goal.invariant-steps
invariant-steps l = IsFirst l.board l.made l.first
