-- Why a run is refused, from what one call tells up to what the command is asked.
use Rattle.std.proofs.Common.{◌≡◌, ◌<◌, ℕ, Bool, List, Option, length, ◌⊎◌, subst, inl, inr}
use Rattle.std.specs.Borrow.{Bor}
use Rattle.std.specs.Prelude.{All}
use Rattle.elide_args.specs.declared.subcommand.RunOptions.{RunOptions}
use Rattle.elide_program.specs.Settings.{has_store_buffer}
use Rattle.tm_model.specs.declared.outcome.Outcome.{Outcome}
use Rattle.tm_model.specs.declared.outcome.Pick.{Pick}
use Rattle.elide_json.specs.Refused.{IsUnsaid, IsUnsent}
use Rattle.elide_setup.specs.Refused.{IsCourseOf, IsDue, IsNoWalk, IsNotScheduled, IsUnrecorded, IsUnwritten}
use Rattle.elide_setup.specs.Runs.{IsRunOf}
use Rattle.elide_setup.specs.Schedules.{listed_in}
use Rattle.elide_setup.specs.Setup.{IsAsked}
use Rattle.tm_core.specs.Theorem.{ShownMachine as Machine}
use Rattle.elide_setup.specs.Walks.{Leads}
use Rattle.elide_setup.specs.declared.fault.Refusal.{Refusal}
use Rattle.elide_setup.specs.declared.machine.Setup.{Setup}
use Rattle.elide_setup.specs.declared.plan.Course.{Course}
use Rattle.elide_setup.proofs.DueCores.{due_core, has_core}
use Rattle.elide_why.proofs.Refusing.{scheduled_before}
use Rattle.elide_why.specs.Refused.{IsUntoldStep}
use Rattle.elide_run.specs.Refused.{HasNotAll, IsNoRun, IsRefused, IsUnexplained, no_room, not_run, not_shown}
use Rattle.elide_run.specs.Refused.{unrecorded, unscheduled, untold, unwritten}

-- a step whose line is written is refused
pub of_told : (machine : Machine) (pick : Pick) (why : Refusal) → IsUntoldStep machine pick why
    → IsUnexplained machine pick why
of_told machine pick why (inl none) = inl none
of_told machine pick why (inr h) = inr (inl h)

-- the text that a run's object begins with is not written
pub of_front : (setup : Setup) (asked : Course) (path : Option (Bor (List ℕ))) (why : Refusal) → IsUnsaid why
    → IsNoRun setup asked path why
of_front setup asked path why (inl h) = untold (inl h)
of_front setup asked path why (inr none) = untold (inr (inl none))

-- a step of a core of the program is not told
of_step : (setup : Setup) (asked : Course) (path : Option (Bor (List ℕ))) (made : List (Pick × Outcome))
    (machine : Machine) (pick : Pick) (why : Refusal) →
    IsRunOf setup.program setup.limits made machine → pick.core < length setup.program.entries
    → IsUnexplained machine pick why →
    IsNoRun setup asked path why
of_step setup asked path made machine pick why ran below (inl none) =
    absurd (has_core setup.program setup.limits made machine pick why ran below none)
of_step setup asked path made machine pick why ran below (inr h) = untold h

-- the steps of a walk are not made, or its schedule is not written
pub of_walk : {Maker : Type 0} (takes : Maker → List (Pick × Outcome) → Maker → Type 0)
    (refuses : Maker → Pick → Refusal → Type 0)
    (machine : Maker → Machine) (setup : Setup) (asked : Course) (cores : ℕ) (path : Option (Bor (List ℕ)))
    (before : Maker) (why : Refusal) →
    cores ≡ length setup.program.entries
    → All (λ (pick : Pick). pick.core < length setup.program.entries) (listed_in asked) →
    ((made : List (Pick × Outcome)) (after : Maker) → Leads takes before made after
    → IsRunOf setup.program setup.limits made (machine after)) →
    ((after : Maker) (pick : Pick) → refuses after pick why → IsUnexplained (machine after) pick why) →
    IsNoWalk takes refuses asked cores before why ⊎ IsUnrecorded path why → IsNoRun setup asked path why
of_walk takes refuses machine setup asked cores path before why same fit ran told (inl (inl h)) =
    let due : IsDue asked (length setup.program.entries) h.made h.pick =
    subst (λ (n : ℕ). IsDue asked n h.made h.pick) same h.due in
    of_step setup asked path h.made (machine h.after) h.pick why (ran h.made h.after h.lead)
    (due_core asked (length setup.program.entries) h.made h.pick fit due) (told h.after h.pick h.refused)
of_walk takes refuses machine setup asked cores path before why same fit ran told (inl (inr none)) =
    untold (inr (inr none))
of_walk takes refuses machine setup asked cores path before why same fit ran told (inr h) = unrecorded h

-- there is no program or no schedule
pub of_opening : (content after : List ℕ → Option (List ℕ)) (are_one : List ℕ → List ℕ → Option Bool)
    (options : RunOptions) (why : Refusal) →
    ((other : List ℕ) → after other ≡ content other)
    → IsNotScheduled after options.machine options.schedule why → IsRefused content are_one options why
of_opening content after are_one options why kept h =
    unscheduled (scheduled_before content after options.machine options.schedule why kept h)

-- there is no run along a course
pub of_run : (content : List ℕ → Option (List ℕ)) (are_one : List ℕ → List ℕ → Option Bool) (options : RunOptions)
    (setup : Setup) (asked : Course) (path : Option (Bor (List ℕ))) (why : Refusal) →
    IsAsked (content options.machine.file.now) options.machine setup →
    IsCourseOf (has_store_buffer options.machine) content options.schedule asked →
    path ≡ options.record → IsNoRun setup asked path why → IsRefused content are_one options why
of_run content are_one options setup asked path why is are given h =
    not_run setup asked is are (subst (λ (p : Option (Bor (List ℕ))). IsNoRun setup asked p why) given h)

-- what is printed below its steps is not there, or not written
pub of_end : (content : List ℕ → Option (List ℕ)) (are_one : List ℕ → List ℕ → Option Bool) (options : RunOptions)
    (setup : Setup) (machine : Machine) (made : List (Pick × Outcome)) (why : Refusal) →
    IsAsked (content options.machine.file.now) options.machine setup → IsRunOf setup.program setup.limits made machine →
    HasNotAll setup machine why ⊎ IsUnwritten why → IsRefused content are_one options why
of_end content are_one options setup machine made why is ran (inl h) = not_shown setup made machine is ran h
of_end content are_one options setup machine made why is ran (inr h) = unwritten h

-- the object of its end is not told
pub of_object : (content : List ℕ → Option (List ℕ)) (are_one : List ℕ → List ℕ → Option Bool) (options : RunOptions)
    (setup : Setup) (machine : Machine) (made : List (Pick × Outcome)) (why : Refusal) →
    IsAsked (content options.machine.file.now) options.machine setup → IsRunOf setup.program setup.limits made machine →
    IsUnsent machine.memory setup.parts why → IsRefused content are_one options why
of_object content are_one options setup machine made why is ran (inl (inl h)) =
    not_shown setup made machine is ran (record { tells = h.0; not_held = h.1 })
of_object content are_one options setup machine made why is ran (inl (inr none)) = no_room (inl none)
of_object content are_one options setup machine made why is ran (inr (inl h)) = unwritten h
of_object content are_one options setup machine made why is ran (inr (inr none)) = no_room (inl none)
