use Rattle.tm_hist.specs.Back.{IsFirst}
use Rattle.tm_why.specs.History.{IsWatchOf}
use Rattle.tm_why.proofs.history.follow.Given as goal

-- the steps so far are the first of the history, and the watch was told of them
abbrev pub invariant-steps : goal.invariant-steps
invariant-steps l = IsFirst l.board l.made l.first × IsWatchOf l.board l.made l.watch
