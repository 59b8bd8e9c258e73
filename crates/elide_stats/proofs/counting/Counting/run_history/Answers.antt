use Rattle.std.proofs.Common.{◌≡◌, Bool, List}
use Rattle.std.proofs.lemmas.Result.{IfErr-weaker, IfOk-weaker}
use Rattle.elide_setup.specs.Refused.{IsAnyWant, IsNextMade, IsStepRefused}
use Rattle.elide_setup.specs.Schedules.{picks_made}
use Rattle.elide_setup.specs.Walks.{Leads}
use Rattle.elide_setup.specs.declared.fault.Refusal.{Refusal}
use Rattle.tm_model.specs.Runs.{picks_of}
use Rattle.tm_model.specs.declared.outcome.Outcome.{Outcome}
use Rattle.tm_model.specs.declared.outcome.Pick.{Pick}
use Rattle.tm_stats.specs.contracts.cause.AbortCausePartialEq.TheImpl as causes
use Rattle.tm_stats.specs.declared.cause.AbortCause.{AbortCause}
use Rattle.elide_stats.specs.Counted.{GoOn}
use Rattle.elide_stats.specs.Refused.{IsUncountedStep}
use Rattle.elide_stats.specs.declared.counting.Counting.{Counting}
use Rattle.elide_stats.proofs.Refusing.{of_history}
use Rattle.elide_stats.proofs.Steps.{Counts, walk_counted}
use Rattle.elide_stats.proofs.counting.Counting.run_history.Goals as goal

pub returns-clause-ran : goal.returns-clause-ran
returns-clause-ran g c =
    let same : AbortCause → AbortCause → Bool = (causes.ghosts).eq in
    let picks : List Pick = picks_of c.args.board.now.history in
    let first = c.args.self.now in
    let last = c.walk_history.new.maker in
    IfOk-weaker c.walk_history.result
    (λ _. (made : List (Pick × Outcome)) × (picks_made made ≡ picks) × Leads (Counts same) first made last)
    (λ _. (made : List (Pick × Outcome)) × (picks_made made ≡ picks) × GoOn same first made last)
    (λ _ h. (h.0, h.1, (walk_counted same h.0 first last h.2).1))
    c.walk_history.ensures.walked

pub returns-clause-refused : goal.returns-clause-refused
returns-clause-refused g c =
    let same : AbortCause → AbortCause → Bool = (causes.ghosts).eq in
    let board = c.args.board.now in
    let first = c.args.self.now in
    let refuses : Counting → Pick → Refusal → Type 0 = λ counting pick why. IsUncountedStep counting.machine pick why in
    IfErr-weaker c.walk_history.result
    (λ (why : Refusal). IsStepRefused (Counts same) refuses (IsNextMade board) first why)
    IsAnyWant
    (λ why h. of_history same board first why c.requires h)
    c.walk_history.ensures.refused
