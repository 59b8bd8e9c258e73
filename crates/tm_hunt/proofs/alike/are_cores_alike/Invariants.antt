use Rattle.std.proofs.Common.{◌≡◌, length}
use Rattle.tm_hunt.specs.Cycle.{AreCoresAlike, ArePendingAlike}
use Rattle.tm_hunt.proofs.alike.are_cores_alike.Given as goal

abbrev pub invariant-loop-core : goal.invariant-loop-core
invariant-loop-core l = record {
  count : length l.a.views ≡ length l.b.views;
  each : AreCoresAlike l.a l.b l.core;
  pending : ArePendingAlike l.a l.b l.core;
}
