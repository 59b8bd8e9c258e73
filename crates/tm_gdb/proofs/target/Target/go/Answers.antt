use Rattle.std.proofs.Common.{refl}
use Rattle.tm_gdb.specs.Values.{value_of}
use Rattle.tm_gdb.proofs.Runs.{run_goes, run_tells}
use Rattle.tm_gdb.proofs.target.Target.go.Goals as goal

pub returns-in-Some-clause-ends : goal.returns-in-Some-clause-ends
returns-in-Some-clause-ends c e =
    run_tells c.args.goers.now (value_of c.args.self.now) (value_of c.advance.new.self) _ c.args.pick c.advance.result
    c.in-Some.stop c.requires.turn c.advance.ensures c.in-Some.is refl

pub returns-in-None-clause-goes : goal.returns-in-None-clause-goes
returns-in-None-clause-goes c e to run =
    run_goes c.args.goers.now (value_of c.args.self.now) (value_of c.advance.new.self) to c.args.pick c.advance.result
    c.requires.turn c.advance.ensures c.in-None.is run
