-- Why a program, its machine or its schedule is not had, from what one call tells up to what a command is asked.
use Rattle.std.proofs.Common.{◌≡◌, ◌<◌, ◌≤◌, ℕ, Bool, true, List, Option, None, Some, length, subst, refl}
use Rattle.std.specs.Borrow.{Bor}
use Rattle.std.specs.Prelude.{IfSome, is_some, not, ◌||◌}
use Rattle.elide_args.specs.declared.subcommand.MachineOptions.{MachineOptions}
use Rattle.elide_args.specs.declared.subcommand.ScheduleOptions.{ScheduleOptions}
use Rattle.elide_program.specs.Entries.{AreStarts}
use Rattle.elide_program.specs.Files.{Gives, most_bytes}
use Rattle.elide_program.specs.ProgramFile.{IsRead, TellsLoad}
use Rattle.elide_program.specs.Settings.{AreSettings}
use Rattle.elide_program.specs.declared.fault.ProgramRefusal.{ProgramRefusal}
use Rattle.elide_program.specs.declared.file.ProgramFile.{ProgramFile}
use Rattle.elide_program.specs.declared.settings.Settings.{Settings}
use Rattle.elide_setup.specs.Refused.{GivesNoProgram, HasNoSchedule, IsNotLoaded, IsNotPlanned, IsNotScheduled}
use Rattle.elide_setup.specs.Refused.{is_none, is_not_loaded, no_file, no_program, no_setup, not_loaded, plan_path}
use Rattle.elide_setup.specs.Refused.{refused, uncharted, unloaded}
use Rattle.elide_setup.specs.declared.fault.Refusal.{Refusal}
use Rattle.elide_setup.specs.declared.plan.Plan.{Plan}

-- the loader refuses a file with these starts, which are in a list that was lent
pub not_loaded_with : (file : ProgramFile) (settings : Settings) (starts lent : List ℕ) (why : ProgramRefusal)
    → lent ≡ starts →
    (length starts ≤ 64 → length starts ≡ settings.cores) → (64 < length starts → 64 < settings.cores) →
    (length starts ≤ 64 → AreStarts file settings.entries settings.cores starts)
    → TellsLoad file settings.memory lent why → IsNotLoaded file settings why
not_loaded_with file settings starts lent why same few many are told =
    refused starts (record { few = few; many = many }) are
    (subst (λ (l : List ℕ). TellsLoad file settings.memory l why) same told)

-- the plan is that of a command's options, the file FILE, and no file has changed before
pub not_scheduled : (content after : List ℕ → Option (List ℕ)) (options : MachineOptions) (schedule : ScheduleOptions)
    (file : ProgramFile) (settings : Settings) (asked : Plan) (why : Refusal) →
    ((other : List ℕ) → after other ≡ content other) → IsRead (content options.file.now) file
    → AreSettings options settings →
    IfSome (plan_path asked) (λ path. schedule.path ≡ Some path) → IsNotPlanned after file settings asked why
    → IsNotScheduled content options schedule why
not_scheduled content after options schedule file settings asked why kept read said path (unloaded cause h e) =
    no_setup cause (not_loaded file settings read said h) e
not_scheduled content after options schedule file settings asked why kept read said path (uncharted h) =
    no_file h.path
    (subst (λ (p : Option (Bor (List ℕ))). IfSome p (λ (path : Bor (List ℕ)). schedule.path ≡ Some path)) h.planned
    path)
    (subst (λ (text : Option (List ℕ)). HasNoSchedule text why) (kept h.path.now) h.none)

-- a text that FILE gives is no program, or is not loaded
pub no_program_given : (content : List ℕ → Option (List ℕ)) (options : MachineOptions) (schedule : ScheduleOptions)
    (text : List ℕ) (settings : Settings) (why : Refusal) → Gives (content options.file.now) most_bytes text →
    AreSettings options settings → GivesNoProgram text settings why → IsNotScheduled content options schedule why
no_program_given content options schedule text settings why given said (is_none cause none told) =
    no_setup cause (no_program text given none) told
no_program_given content options schedule text settings why given said (is_not_loaded file cause read none told) =
    no_setup cause
    (not_loaded file settings (record { text = text; given = given; read = read }) said none) told

-- ---- ways to say a schedule

pub none_or : (Choice : Type 0) (choice : Option Choice) (rest : Bool)
    → not (is_some choice || rest) ≡ true → choice ≡ None
none_or Choice None rest h = refl
none_or Choice (Some one) rest h = absurd (cc)
