-- Why a command has no program or no schedule, where no file has changed.
use Rattle.std.proofs.Common.{◌≡◌, ℕ, List, Option, subst}
use Rattle.elide_args.specs.declared.subcommand.MachineOptions.{MachineOptions}
use Rattle.elide_args.specs.declared.subcommand.ScheduleOptions.{ScheduleOptions}
use Rattle.elide_setup.specs.Refused.{HasNoProgram, HasNoSchedule, IsNotScheduled, misplanned, no_file, no_setup}
use Rattle.elide_setup.specs.declared.fault.Refusal.{Refusal}

-- what a program is not had for is the same of each content of FILE that is the same
pub scheduled_before : (content after : List ℕ → Option (List ℕ)) (options : MachineOptions)
    (schedule : ScheduleOptions) (why : Refusal) →
    ((other : List ℕ) → after other ≡ content other) → IsNotScheduled after options schedule why
    → IsNotScheduled content options schedule why
scheduled_before content after options schedule why kept (no_setup cause h e) =
    no_setup cause (subst (λ (text : Option (List ℕ)). HasNoProgram text options cause) (kept options.file.now) h) e
scheduled_before content after options schedule why kept (misplanned h) = misplanned h
scheduled_before content after options schedule why kept (no_file path said h) =
    no_file path said (subst (λ (text : Option (List ℕ)). HasNoSchedule text why) (kept path.now) h)
