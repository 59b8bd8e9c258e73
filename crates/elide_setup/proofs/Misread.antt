-- Why what the options say of a schedule is no plan, and why a plan gives no schedule.
use Rattle.std.proofs.Common.{◌≡◌, ◌≢◌, ◌⊎◌, ◌∙◌, ℕ, List, Option, None, Some, ap, codes, inl, inr, refl, subst, sym}
use Rattle.std.specs.Borrow.{Bor}
use Rattle.std.specs.Option.{option_copied}
use Rattle.std.specs.Prelude.{Err}
use Rattle.elide_args.specs.declared.subcommand.ScheduleOptions.{ScheduleOptions}
use Rattle.elide_program.specs.Faults.{unread}
use Rattle.elide_program.specs.Files.{Gives, most_bytes}
use Rattle.elide_program.specs.Settings.{number_said}
use Rattle.elide_program.specs.declared.fault.ProgramFault.{ProgramFault}
use Rattle.elide_program.specs.declared.fault.ProgramRefusal.{ProgramRefusal}
use Rattle.elide_program.specs.declared.fault.ProgramRefusal.TheVariants as program
use Rattle.elide_program.specs.declared.paths.ReadFault.{ReadFault}
use Rattle.elide_program.specs.declared.paths.ReadFault.TheVariants as read
use Rattle.tm_schedule.specs.Schedule.{schedule_of, steps_of}
use Rattle.tm_schedule.specs.declared.schedule.ScheduleFault.{ScheduleFault}
use Rattle.tm_schedule.specs.declared.schedule.ScheduleFault.TheVariants as no_steps
use Rattle.elide_setup.specs.Faults.{refusal_of}
use Rattle.elide_setup.specs.Misuse.{IsMisuse}
use Rattle.elide_setup.specs.Refused.{HasNoSchedule, IsMisplanned, bad_seed, bad_steps, no_list, no_room, no_schedule}
use Rattle.elide_setup.specs.Refused.{other_steps, unread_schedule}
use Rattle.elide_setup.specs.declared.fault.Fault.TheVariants as fault
use Rattle.elide_setup.specs.declared.fault.Refusal.{Refusal}
use Rattle.elide_setup.specs.declared.fault.Refusal.TheVariants as refusal

-- `--seed` is no number
pub seed_misread : (options : ScheduleOptions) (text name : Bor (List ℕ)) (cause : ProgramRefusal) (why : Refusal)
    → options.seed ≡ Some text →
    number_said (option_copied options.seed) ≡ None → cause ≡ program.Usage name → why ≡ refusal_of cause
    → name.now ≡ codes "--seed" → IsMisplanned options why
seed_misread options text name cause why said none named told is =
    bad_seed text.now (ap option_copied said)
    (subst (λ (seed : Option (Bor (List ℕ))). number_said (option_copied seed) ≡ None) said none)
    (subst (λ (w : Refusal). IsMisuse (codes "--seed") w) (sym (told ∙ ap refusal_of named)) is)

-- `--steps` is no list
pub list_misread : (options : ScheduleOptions) (text read : List ℕ) (line : ℕ) (f : ScheduleFault) (why : Refusal)
    → option_copied options.steps ≡ Some text → read ≡ text →
    f ≡ no_steps.BadSchedule line → (f ≡ no_steps.NoMemory) ⊎ (steps_of read ≡ Err f) → IsMisuse (codes "--steps") why
    → IsMisplanned options why
list_misread options text read line f why said same is (inl want) misuse = absurd (cc)
list_misread options text read line f why said same is (inr h) misuse =
    bad_steps text line said (ap steps_of (sym same) ∙ h ∙ ap (λ (g : ScheduleFault). Err g) is) misuse

pub list_refused : (options : ScheduleOptions) (text read : List ℕ) (f : ScheduleFault)
    → option_copied options.steps ≡ Some text → read ≡ text →
    (f ≡ no_steps.NoMemory) ⊎ (steps_of read ≡ Err f) → IsMisplanned options (refusal.Fault (fault.Schedule f))
list_refused options text read f said same (inl want) =
    no_list (ap (λ (g : ScheduleFault). refusal.Fault (fault.Schedule g)) want)
list_refused options text read f said same (inr h) = other_steps text f said (ap steps_of (sym same) ∙ h) refl

-- ---- a schedule's file

-- it is not read, and memory was not wanting
pub unread_as : (f : ReadFault) (given : ProgramFault) → f ≢ read.NoMemory → given ≡ unread f
    → refusal.Fault (fault.Program given) ≡ unread_schedule f
unread_as (read.Failed obstacle) given other is = ap (λ (g : ProgramFault). refusal.Fault (fault.Program g)) is
unread_as read.TooLong given other is = ap (λ (g : ProgramFault). refusal.Fault (fault.Program g)) is
unread_as read.NoMemory given other is = absurd (other refl)

pub no_schedule_in : (content : Option (List ℕ)) (text : List ℕ) (f : ScheduleFault) → Gives content most_bytes text
    → (f ≡ no_steps.NoMemory) ⊎ (schedule_of text ≡ Err f) →
    HasNoSchedule content (refusal.Fault (fault.Schedule f))
no_schedule_in content text f gives (inl want) =
    no_room (ap (λ (g : ScheduleFault). refusal.Fault (fault.Schedule g)) want)
no_schedule_in content text f gives (inr h) = no_schedule text f gives h refl
