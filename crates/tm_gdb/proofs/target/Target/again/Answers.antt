use Rattle.std.proofs.Common.{sym, ◌∙◌}
use Rattle.tm_gdb.specs.Values.{value_of}
use Rattle.tm_gdb.proofs.Retraced.{ends_more, passes_more}
use Rattle.tm_gdb.proofs.target.Target.again.Goals as goal

pub told_again-requires-clause-own : goal.told_again-requires-clause-own
told_again-requires-clause-own c = (c.in-Some._outcome, sym c.step_at.ensures.step ∙ c.in-Some.is)

pub returns-in-Some-told_again-clause-ends : goal.returns-in-Some-told_again-clause-ends
returns-in-Some-told_again-clause-ends c =
    ends_more (value_of c.args.self.now) c.args.made c.in-Some.core c.in-Some-told_again.stop c.args.board.now
    c.told_again.new.board c.told_again.ensures.again (sym c.told_again.ensures.told ∙ c.in-Some-told_again.is)

pub returns-in-None-clause-ends : goal.returns-in-None-clause-ends
returns-in-None-clause-ends c =
    passes_more (value_of c.args.self.now) c.args.made c.in-Some.core c.args.place c.args.board.now
    c.told_again.new.board c.told_again.result c.told_again.ensures.again c.told_again.ensures.told c.in-None.is
    c.requires.ends
