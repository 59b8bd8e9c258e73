use Rattle.std.proofs.Common.{◌≡◌, take}
use Rattle.tm_hist.specs.History.{pairs_of}
use Rattle.tm_model.specs.Runs.{picks_of}
use Rattle.tm_hist.proofs.history.History.fill.Given as goal

-- the picks so far are there
abbrev pub invariant-loop-index : goal.invariant-loop-index
invariant-loop-index l = l.picks.items ≡ take l.index (picks_of (pairs_of l.fn.self))
