use Rattle.std.proofs.Common.{subst}
use Rattle.tm_gdb.specs.Back.{StepsBack}
use Rattle.tm_gdb.specs.Back.StepsBack.{takes}
use Rattle.tm_gdb.specs.Values.{value_of}
use Rattle.tm_gdb.proofs.Runs.{does_more}
use Rattle.tm_gdb.proofs.target.Target.step_back.Goals as goal

pub returns-in-Some : goal.returns-in-Some
returns-in-Some c =
    let from = value_of c.args.self.now in
    let to = value_of c.take_back.new.self in
    does_more c.take_back.result c.take_back.ensures
    (λ back. subst (λ n. StepsBack n from to) c.moved_core-core.ensures.core (takes back))
