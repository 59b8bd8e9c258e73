use Rattle.std.proofs.Common.{ℕ, take}
use Rattle.std.specs.Prelude.{Contains}
use Rattle.tm_outcomes.specs.Written.{HasMore, KeepsNoted}
use Rattle.tm_outcomes.proofs.written.Written.add_all.Given as goal

abbrev pub invariant-loop-line : goal.invariant-loop-line
invariant-loop-line l = record {
  keeps : KeepsNoted l.initial.self l.self;
  grown : HasMore l.initial.self.lines.items l.self.lines.items;
  all : (line : ℕ) → Contains (take l.line-index l.lines) line → Contains l.self.lines.items line;
}
