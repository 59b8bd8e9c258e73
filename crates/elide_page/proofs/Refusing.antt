-- Why a page is not written, from what one call tells up to what a command is told.
use Rattle.std.proofs.Common.{◌≡◌, ◌∙◌, ◌⊎◌, ℕ, List, Option, None, Some, ap, inl, inr, length, subst, sym}
use Rattle.std.specs.Prelude.{IfSome}
use Rattle.elide_args.specs.declared.subcommand.MachineOptions.{MachineOptions}
use Rattle.tm_model.specs.declared.outcome.Pick.{Pick}
use Rattle.elide_program.specs.Files.{IsNotWritten, broken, lost, untold}
use Rattle.elide_program.specs.ProgramFile.{IsFile}
use Rattle.elide_program.specs.declared.file.ProgramFile.{ProgramFile}
use Rattle.elide_program.specs.Settings.{AreSettings}
use Rattle.elide_program.specs.declared.settings.Settings.{Settings}
use Rattle.elide_setup.specs.Refused.{GivesNoProgram, IsNotPaged, IsUnwritten, NamesNoCore, is_none, is_not_loaded}
use Rattle.elide_setup.specs.Schedules.{listed_in}
use Rattle.elide_setup.specs.Setup.{IsSetup}
use Rattle.tm_core.specs.Theorem.{ShownMachine as Machine}
use Rattle.elide_setup.specs.declared.fault.Fault.TheVariants as fault
use Rattle.elide_setup.specs.declared.fault.Refusal.{Refusal}
use Rattle.elide_setup.specs.declared.fault.Refusal.TheVariants as refusal
use Rattle.elide_setup.specs.declared.machine.Setup.{Setup}
use Rattle.elide_setup.specs.declared.plan.Course.{Course}
use Rattle.elide_why.specs.Refused.{IsUntoldStep}
use Rattle.page_run.specs.Refused.{IsNotMade, IsNotSurveyed, IsNotTold}
use Rattle.page_run.specs.declared.stretch.Stretch.{Stretch}
use Rattle.elide_page.specs.Pages.{IsPageOf}
use Rattle.elide_page.specs.Refused.{IsNoPage, IsUnreasoned}
use Rattle.elide_page.specs.declared.output.PageFile.{PageFile}

-- ---- a step

-- a line in memory that is not written
pub unreasoned : (machine : Machine) (pick : Pick) (why : Refusal) → IsUntoldStep machine pick why →
    IsUnreasoned machine pick why
unreasoned machine pick why (inl none) = inl none
unreasoned machine pick why (inr text) = inr (inl text)

-- ---- a page on its way to a file

-- what refuses its run, but for a device that failed
no_page_of : (stretch : Stretch) (why : Refusal) → ¬ IsUnwritten why → IsNotTold stretch why →
    IsNoPage stretch.setup.now stretch.course.now why
no_page_of stretch why told (IsNotTold.not_made h) = inl (IsNotSurveyed.not_made h)
no_page_of stretch why told (IsNotTold.untold (inl h)) = absurd (told h)
no_page_of stretch why told (IsNotTold.untold (inr h)) = inl (IsNotSurveyed.no_room h)

none_told : (refused : Option Refusal) (why : Refusal) → refused ≡ None → refused ≡ Some why → ⊥
none_told refused why none some = let e : None ≡ Some why = sym none ∙ some in absurd (cc e)

-- what refused it as it was made, which nothing did before, or the file
pub file_refused : (before after : PageFile) (why : Refusal) → before.refused ≡ None →
    IsNotWritten (λ (a b : PageFile) (bytes : List ℕ). (b.refused ≡ a.refused) × IsPageOf a.job bytes)
    (λ (a b : PageFile). IfSome b.refused (IsNotTold a.job.stretch)) before after →
    (why ≡ refusal.Fault fault.Output) ⊎ ((after.refused ≡ Some why) × ¬ IsUnwritten why) →
    IsNoPage before.job.stretch.setup.now before.job.stretch.course.now why
file_refused before after why none h (inl out) = inr out
file_refused before after why none (untold same) (inr told) =
    absurd (none_told after.refused why (ap (λ (f : PageFile). f.refused) same ∙ none) told.0)
file_refused before after why none (broken refused) (inr told) =
    no_page_of before.job.stretch why told.1
    (subst (λ (o : Option Refusal). IfSome o (IsNotTold before.job.stretch)) told.0 refused)
file_refused before after why none (lost bytes told_all) (inr told) =
    absurd (none_told after.refused why (told_all.0 ∙ none) told.0)

-- ---- the page of a run that was found

pub no_program_of : (text : List ℕ) (options : MachineOptions) (picks : List Pick) (settings : Settings)
    (why : Refusal) →
    AreSettings options settings → GivesNoProgram text settings why → IsNotPaged text options picks why
no_program_of text options picks settings why said (is_none cause h told) = IsNotPaged.no_program cause h told
no_program_of text options picks settings why said (is_not_loaded file cause read h told) =
    IsNotPaged.not_loaded file settings cause read said h told

pub not_paged_of : (text : List ℕ) (options : MachineOptions) (picks : List Pick) (settings : Settings)
    (file : ProgramFile) (setup : Setup) (asked : Course) (why : Refusal) → AreSettings options settings →
    IsFile text file → IsSetup file settings setup → listed_in asked ≡ picks → IsNoPage setup asked why →
    IsNotPaged text options picks why
not_paged_of text options picks settings file setup asked why said read made same
    (inl (IsNotSurveyed.not_made (IsNotMade.no_machine h))) =
    IsNotPaged.no_machine file settings setup read said made h
not_paged_of text options picks settings file setup asked why said read made same
    (inl (IsNotSurveyed.not_made (IsNotMade.no_core h))) =
    IsNotPaged.no_core file settings setup read said made
    (subst (λ (l : List Pick). NamesNoCore l (length setup.program.entries) why) same h)
not_paged_of text options picks settings file setup asked why said read made same (inl (IsNotSurveyed.not_held h)) =
    IsNotPaged.not_held file settings setup h.machine read said made h.new h.none h.tells
not_paged_of text options picks settings file setup asked why said read made same (inl (IsNotSurveyed.no_room h)) =
    IsNotPaged.no_room h
not_paged_of text options picks settings file setup asked why said read made same (inr out) = IsNotPaged.no_file out
