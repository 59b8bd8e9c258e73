use Rattle.std.proofs.Common.{ℕ, ◌<◌, List, length}
use Rattle.rand_core.specs.Stream.{Stream}
use Rattle.tm_pick.specs.Chances.{words_of}
use Rattle.tm_pick.specs.Choices.{IsOfRound}
use Rattle.tm_pick.proofs.rounds.Rounds.next.Given as goal

abbrev pub invariant-left : goal.invariant-left
invariant-left l = record {
  some : 0 < length l.going;
  drawn : (core : ℕ) (after : List ℕ) (behind : Stream) →
      IsOfRound l.going (words_of l.fn.chance) l.self.left.items core after behind →
      IsOfRound l.going (words_of l.fn.chance) l.fn.self.left.items core after behind;
}

abbrev pub decreases-left : goal.decreases-left
decreases-left l = length l.self.left.items
