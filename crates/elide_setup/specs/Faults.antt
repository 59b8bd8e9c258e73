-- The numbers and lines of the program's faults (docs/FORMATS.md), and the exit statuses.
use Rattle.std.specs.Prelude.{ℕ, Option, Some, None}
use Rattle.elide_program.specs.Faults.{program_line, program_number}
use Rattle.tm_core.specs.Faults.{machine_number, run_number}
use Rattle.tm_hist.specs.BoardFaults.{board_code, step_code}
use Rattle.tm_schedule.specs.Schedule.{fault_code}
use Rattle.tm_hist.specs.Serial.{serial_code}
use Rattle.tm_schedule.specs.declared.schedule.ScheduleFault.{ScheduleFault}
use Rattle.tm_schedule.specs.declared.schedule.ScheduleFault.TheVariants.{BadSchedule, NoMemory, TooManySteps}
use Rattle.elide_program.specs.declared.fault.ProgramFault.TheVariants as program_fault
use Rattle.elide_program.specs.declared.fault.ProgramRefusal.{ProgramRefusal}
use Rattle.elide_program.specs.declared.fault.ProgramRefusal.TheVariants as program
use Rattle.ia_image.specs.declared.fault.LoadFault.TheVariants as load
use Rattle.text_out.specs.declared.out.WriteFault.{WriteFault}
use Rattle.elide_setup.specs.declared.fault.Fault.{Fault}
use Rattle.elide_setup.specs.declared.fault.Fault.TheVariants as fault
use Rattle.elide_setup.specs.declared.fault.Refusal.{Refusal}
use Rattle.elide_setup.specs.declared.fault.Refusal.TheVariants as refusal

abbrev pub fault_number : Fault → ℕ
fault_number (fault.Program why) = program_number why
fault_number (fault.Machine why) = machine_number why
fault_number (fault.Run why) = run_number why
fault_number (fault.Schedule why) = fault_code why
fault_number (fault.Board why) = board_code why
fault_number (fault.Step why) = step_code why
fault_number (fault.Serial why) = serial_code why
fault_number fault.SpawnRefused = 60
fault_number fault.NoWorkers = 61
fault_number fault.SessionRead = 76
fault_number fault.SessionWrite = 77
fault_number fault.NoSession = 78
fault_number fault.OutOfRange = 73
fault_number fault.Output = 81
fault_number fault.NoWords = 83
fault_number (fault.BadTest line) = 84
fault_number fault.PageTooLong = 85

-- the line of a schedule that is told
abbrev pub schedule_line : ScheduleFault → Option ℕ
schedule_line (BadSchedule line) = Some line
schedule_line NoMemory = None
schedule_line (TooManySteps line) = Some line

abbrev pub fault_line : Fault → Option ℕ
fault_line (fault.Program why) = program_line why
fault_line (fault.Machine why) = None
fault_line (fault.Run why) = None
fault_line (fault.Schedule why) = schedule_line why
fault_line (fault.Board why) = None
fault_line (fault.Step why) = None
fault_line (fault.Serial why) = None
fault_line fault.SpawnRefused = None
fault_line fault.NoWorkers = None
fault_line fault.SessionRead = None
fault_line fault.SessionWrite = None
fault_line fault.NoSession = None
fault_line fault.OutOfRange = None
fault_line fault.Output = None
fault_line fault.NoWords = None
fault_line (fault.BadTest line) = Some line
fault_line fault.PageTooLong = None

-- 1 for a fault, 2 for a misuse
abbrev pub refusal_status : Refusal → ℕ
refusal_status (refusal.Fault why) = 1
refusal_status (refusal.Usage name) = 2

-- a program's refusal as that of a command
abbrev pub refusal_of : ProgramRefusal → Refusal
refusal_of (program.Fault why) = refusal.Fault (fault.Program why)
refusal_of (program.Usage name) = refusal.Usage name

-- memory is wanting, and an output device failed
abbrev pub want : Refusal
want = refusal.Fault (fault.Program (program_fault.Load load.NoMemory))

abbrev pub not_written : WriteFault → Refusal
not_written why = refusal.Fault (fault.Program (program_fault.Write why))
