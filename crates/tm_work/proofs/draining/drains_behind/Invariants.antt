use Rattle.std.proofs.Common.{◌≡◌, ◌≤◌, drop, take}
use Rattle.tm_work.specs.Late.{drains_of}
use Rattle.tm_work.proofs.draining.drains_behind.Given as goal

-- so many among the steps up to this one
abbrev pub invariant-loop-index : goal.invariant-loop-index
invariant-loop-index l = record {
  counted : l.count ≡ drains_of l.fn.core (drop l.fn.from (take l.index l.fn.board.history));
  few : l.count ≤ l.index;
}
