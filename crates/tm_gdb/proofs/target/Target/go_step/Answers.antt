use Rattle.tm_gdb.specs.Values.{value_of}
use Rattle.tm_gdb.proofs.Runs.{run_ends, run_stands}
use Rattle.tm_gdb.proofs.target.Target.go_step.Goals as goal

pub returns-in-End-clause-ends : goal.returns-in-End-clause-ends
returns-in-End-clause-ends c e =
    run_ends c.args.goers.now (value_of c.args.self.now) (value_of c.end.new.self) c.check.result c.check.ensures.check
    c.in-End.is c.end.ensures.value

pub returns-in-Break-clause-ends : goal.returns-in-Break-clause-ends
returns-in-Break-clause-ends c e =
    run_stands c.args.goers.now (value_of c.args.self.now) (value_of c.stand.new.self) c.in-Break.core c.check.result
    c.check.ensures.check c.in-Break.is c.stand.ensures.value
