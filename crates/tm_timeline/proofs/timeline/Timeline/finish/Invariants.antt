use Rattle.std.proofs.Common.{◌≡◌}
use Rattle.tm_timeline.specs.Told.{Grows}
use Rattle.tm_timeline.proofs.timeline.Timeline.finish.Given as goal

abbrev pub invariant-loop-core : goal.invariant-loop-core
invariant-loop-core l = record {
  next : l.self.next ≡ l.fn.self.next;
  grows : Grows l.fn.self l.self;
}
