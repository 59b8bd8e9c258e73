use Rattle.std.proofs.Common.{◌≡◌, ◌+◌, ◌≤◌, length}
use Rattle.tm_pick.specs.Begun.{falls_among}
use Rattle.tm_pick.specs.Chances.{below, words_of}
use Rattle.tm_pick.proofs.priorities.falls_drawn.Given as goal

abbrev pub invariant-falls : goal.invariant-falls
invariant-falls l = record {
  drawn : (l.falls.items, words_of l.chance) ≡ falls_among l.made l.length (below 3 (words_of l.fn.chance)).1;
  counted : l.count ≡ 1 + (below 3 (words_of l.fn.chance)).0;
  few : l.count ≤ 3;
  room : length l.falls.items ≡ l.made;
}
