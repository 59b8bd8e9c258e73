use Rattle.std.proofs.lemmas.Result.{IfErr-weaker}
use Rattle.elide_why.specs.Refused.{IsUntoldStep}
use Rattle.elide_page.proofs.Refusing.{unreasoned}
use Rattle.elide_page.specs.Refused.{IsUnreasoned}
use Rattle.elide_page.proofs.reasons.TellerReasoner.reason.Goals as goal

pub returns-clause-refused : goal.returns-clause-refused
returns-clause-refused c =
    let machine = c.args.machine.now in
    let pick = c.args.pick in
    IfErr-weaker c.step.result (IsUntoldStep machine pick) (IsUnreasoned machine pick)
    (λ why h. unreasoned machine pick why h) c.step.ensures.refused
