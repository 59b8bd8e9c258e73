use Rattle.std.proofs.Common.{◌⊎◌, ℕ, Bool, List, length, subst}
use Rattle.std.proofs.lemmas.Result.{IfErr-weaker, IfOk-weaker, err_from_is_err_and}
use Rattle.elide_setup.specs.Recorded.{IsRecorded}
use Rattle.elide_setup.specs.Runs.{AreMachineSteps}
use Rattle.elide_setup.specs.Rounds.{IsOut}
use Rattle.elide_setup.specs.Refused.{IsNoWalk, IsUnrecorded, NamesNoCore}
use Rattle.elide_setup.specs.declared.fault.Refusal.{Refusal}
use Rattle.elide_setup.specs.Schedules.{AreOf, listed_in, picks_made, picks_told, schedule_made}
use Rattle.elide_setup.specs.Walks.{Leads}
use Rattle.tm_model.specs.declared.outcome.Outcome.{Outcome}
use Rattle.tm_model.specs.declared.outcome.Pick.{Pick}
use Rattle.tm_stats.specs.contracts.cause.AbortCausePartialEq.TheImpl as causes
use Rattle.tm_stats.specs.declared.cause.AbortCause.{AbortCause}
use Rattle.elide_stats.specs.Counted.{GoOn}
use Rattle.elide_stats.specs.declared.counting.Counting.{Counting}
use Rattle.elide_stats.proofs.Refusing.{of_walk}
use Rattle.elide_stats.specs.Refused.{IsUncounted, IsUncountedStep, beyond}
use Rattle.elide_stats.proofs.Steps.{Counts, walk_counted}
use Rattle.elide_stats.proofs.counting.Counting.run_course.Goals as goal

pub returns-clause-ran : goal.returns-clause-ran
returns-clause-ran g c =
    let same : AbortCause → AbortCause → Bool = (causes.ghosts).eq in
    let course = c.args.recorded.course.now in
    let first = c.args.self.now in
    let last = c.walk_recorded.new.maker in
    let left = g.P.Paths.content c.walk_recorded.new.paths in
    let Kept : List (Pick × Outcome) → Type 0 =
    λ made. IsRecorded left c.args.recorded.path (schedule_made course (picks_told made)) in
    IfOk-weaker c.walk_recorded.result
    (λ _. (made : List (Pick × Outcome)) × AreOf course (picks_made made) × Leads (Counts same) first made last
    × Kept made × IsOut course c.cores-cores.result made)
    (λ _. (made : List (Pick × Outcome)) × AreOf course (picks_made made)
    × Leads AreMachineSteps first.machine made last.machine × GoOn same first made last × Kept made)
    (λ _ h. let all = walk_counted same h.0 first last h.2 in (h.0, h.1, all.0, all.1, h.3))
    c.walk_recorded.ensures.walked

pub returns-clause-refused : goal.returns-clause-refused
returns-clause-refused g c =
    let same : AbortCause → AbortCause → Bool = (causes.ghosts).eq in
    let course = c.args.recorded.course.now in
    let first = c.args.self.now in
    let refuses : Counting → Pick → Refusal → Type 0 = λ counting pick why. IsUncountedStep counting.machine pick why in
    IfErr-weaker c.walk_recorded.result
    (λ (why : Refusal). IsNoWalk (Counts same) refuses course c.cores-cores.result first why
    ⊎ IsUnrecorded c.args.recorded.path why)
    (IsUncounted course (length first.machine.views) c.args.recorded.path)
    (λ why h. of_walk same course c.cores-cores.result c.args.recorded.path first why c.cores-cores.ensures.count
    c.in_ok-check_cores.ensures.fit h)
    c.walk_recorded.ensures.refused

pub returns-in_err-check_cores-clause-refused : goal.returns-in_err-check_cores-clause-refused
returns-in_err-check_cores-clause-refused g c =
    let why = c.in_err-check_cores.field-0.0 in
    let p = err_from_is_err_and c.from_residual.result c.from_residual.ensures.1 in
    rw (p.1, p.2)
    (beyond (subst (λ (cores : ℕ). NamesNoCore (listed_in c.args.recorded.course.now) cores why)
    c.cores-cores.ensures.count c.in_err-check_cores.ensures.none))
