-- What a schedule states, where no file has changed.
use Rattle.std.proofs.Common.{◌≡◌, ℕ, Bool, List, Option, None, Some, subst}
use Rattle.std.specs.Borrow.{Bor}
use Rattle.std.specs.Prelude.{IfSome, Ok}
use Rattle.elide_args.specs.declared.subcommand.ScheduleOptions.{ScheduleOptions}
use Rattle.tm_model.specs.declared.outcome.Pick.{Pick}
use Rattle.tm_schedule.specs.Schedule.{schedule_of}
use Rattle.elide_setup.specs.Schedules.{AreAsked, ArePlanned}
use Rattle.elide_setup.specs.declared.plan.Plan.{Plan}
use Rattle.elide_setup.specs.declared.plan.Plan.TheVariants as plan

pub planned_before : (before after : List ℕ → Option (List ℕ)) (asked : Plan) (picks : List Pick)
    → ((path : List ℕ) → after path ≡ before path) →
    ArePlanned after asked picks → ArePlanned before asked picks
planned_before before after (plan.Steps listed) picks kept h = h
planned_before before after (plan.File path) picks kept h =
    subst (λ (content : Option (List ℕ)). IfSome content (λ text. schedule_of text ≡ Ok picks)) (kept path.now) h
planned_before before after (plan.Drawn drawn) picks kept h = h

file_before : (before after : List ℕ → Option (List ℕ)) (path : Option (Bor (List ℕ))) (picks : List Pick)
    → ((other : List ℕ) → after other ≡ before other) →
    IfSome path (λ p. IfSome (after p.now) (λ text. schedule_of text ≡ Ok picks))
    → IfSome path (λ p. IfSome (before p.now) (λ text. schedule_of text ≡ Ok picks))
file_before before after None picks kept h = tt
file_before before after (Some path) picks kept h =
    subst (λ (content : Option (List ℕ)). IfSome content (λ text. schedule_of text ≡ Ok picks)) (kept path.now) h

pub asked_before : (drains : Bool) (before after : List ℕ → Option (List ℕ)) (options : ScheduleOptions)
    (picks : List Pick) → ((other : List ℕ) → after other ≡ before other) →
    AreAsked drains after options picks → AreAsked drains before options picks
asked_before drains before after options picks kept h =
    record { steps = h.steps; file = file_before before after options.path picks kept h.file; drawn = h.drawn }
