use Rattle.std.proofs.Common.{subst}
use Rattle.std.proofs.lemmas.Result.{IfErr-weaker}
use Rattle.elide_json.specs.Refused.{IsUnsent}
use Rattle.tm_core.specs.Theorem.{ShownMachine as Machine}
use Rattle.elide_threads.proofs.Refusing.{of_object}
use Rattle.elide_threads.specs.Refused.{IsNotTold}
use Rattle.elide_threads.proofs.workers.tell_asked.Goals as goal

pub returns-then-options-clause-refused : goal.returns-then-options-clause-refused
returns-then-options-clause-refused g c =
    let setup = c.args.setup.now in
    let board = c.args.board.now in
    IfErr-weaker c.put_threads.result (IsUnsent c.machine.result.now.memory setup.parts) (IsNotTold setup board)
    (λ why h. of_object setup board why
    (subst (λ (m : Machine). IsUnsent m.memory setup.parts why) c.machine.ensures h))
    c.put_threads.ensures.unsent
