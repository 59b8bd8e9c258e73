use Rattle.std.proofs.Common.{◌≡◌, ap, ◌∙◌, rules}
use Rattle.std.proofs.lemmas.Result.{IfErr-weaker}
use Rattle.std.specs.Prelude.{IfErr}
use Rattle.tm_work.specs.Events.{TellDrawn}
use Rattle.tm_work.specs.Faults.{board_in}
use Rattle.tm_work.specs.Seats.{new_part}
use Rattle.tm_work.proofs.Disturbed.{fresh_disturbed}
use Rattle.tm_work.proofs.workers.run_steadily.Goals as goal

pub returns-in_err-opening-clause-fault_events : goal.returns-in_err-opening-clause-fault_events
returns-in_err-opening-clause-fault_events g c =
    let fault = c.in_err-opening.field-0.0 in
    let events = c.args.plan.events in
    let given = c.args.board in
    let is : IfErr c.from_residual.result (λ e. e ≡ fault) = search rules in
    IfErr-weaker c.from_residual.result (λ e. e ≡ fault) (λ e. TellDrawn events (new_part given (board_in e)))
    (λ e same. fresh_disturbed events given (board_in e) (ap board_in same ∙ c.in_err-opening.ensures.refused.1)) is
