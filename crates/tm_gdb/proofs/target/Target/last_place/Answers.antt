use Rattle.tm_gdb.specs.Values.{value_of}
use Rattle.tm_gdb.proofs.Retraced.{begins_at}
use Rattle.tm_gdb.proofs.target.Target.last_place.Goals as goal

pub steps-init : goal.steps-init
steps-init c = record {
  first = c.in_ok-board.ensures.first;
  law = c.in_ok-board.ensures.law;
  ends = begins_at (value_of c.args.self.now) c.moved_core.result c.moved_core.ensures.core;
}
