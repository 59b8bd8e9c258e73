-- Why a session is not opened, and why it ends early (docs/FAULTS.md).
use Rattle.std.specs.Prelude.{◌≡◌, ℕ, ◌⊎◌, true, List, Option, length}
use Rattle.tm_debug.specs.declared.session.SessionFault.{SessionFault}
use Rattle.tm_debug.specs.declared.session.SessionFault.TheVariants.{Read, Write, NoMemory}
use Rattle.elide_args.specs.declared.subcommand.MachineOptions.{MachineOptions}
use Rattle.elide_args.specs.declared.subcommand.ScheduleOptions.{ScheduleOptions}
use Rattle.elide_program.specs.Settings.{has_store_buffer}
use Rattle.elide_setup.specs.Refused.{HasNoSetup, IsAnyWant, IsCourseOf, IsNoBoard, IsNoMachine, IsNotScheduled}
use Rattle.elide_setup.specs.Refused.{NamesNoCore}
use Rattle.elide_setup.specs.Schedules.{listed_in}
use Rattle.elide_setup.specs.Setup.{IsAsked}
use Rattle.elide_setup.specs.declared.fault.Fault.{Fault}
use Rattle.elide_setup.specs.declared.fault.Fault.TheVariants as fault
use Rattle.elide_setup.specs.declared.fault.Refusal.{Refusal}
use Rattle.elide_setup.specs.declared.machine.Setup.{Setup}
use Rattle.elide_setup.specs.declared.plan.Course.{Course}
use Rattle.elide_session.specs.Opened.{is_scheduled}

-- a schedule is not drawn: no machine with the program's limits is made, or there is no memory for its picks
abbrev pub IsUndrawn : Setup → Refusal → Type 0
IsUndrawn setup why = IsNoMachine setup.limits why ⊎ IsAnyWant why

-- there is no program, no schedule where one is asked for, no board with room for 1,000,000 steps, or no memory; a
-- listed step is of a core that the machine has not, or the schedule is not drawn
pub data IsNotOpened (content : List ℕ → Option (List ℕ)) (machine : MachineOptions) (schedule : ScheduleOptions)
    (why : Refusal) : Type 0 where
  without_program : HasNoSetup content machine why → IsNotOpened content machine schedule why
  unscheduled : is_scheduled schedule ≡ true → IsNotScheduled content machine schedule why
      → IsNotOpened content machine schedule why
  beyond : (setup : Setup) (asked : Course) → IsAsked (content machine.file.now) machine setup
      → IsCourseOf (has_store_buffer machine) content schedule asked
      → NamesNoCore (listed_in asked) (length setup.program.entries) why → IsNotOpened content machine schedule why
  boardless : (setup : Setup) → IsAsked (content machine.file.now) machine setup → IsNoBoard setup 1000000 why
      → IsNotOpened content machine schedule why
  undrawn : (setup : Setup) → IsAsked (content machine.file.now) machine setup → IsUndrawn setup why
      → IsNotOpened content machine schedule why
  unnamed : IsAnyWant why → IsNotOpened content machine schedule why

-- the fault that is told where one ended a session early: its input or its output failed, or it had no memory
abbrev pub session_fault : SessionFault → Fault
session_fault (Read board) = fault.SessionRead
session_fault (Write board) = fault.SessionWrite
session_fault (NoMemory board) = fault.NoSession
