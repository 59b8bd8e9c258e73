-- What a command has of one reading of FILE.
use Rattle.std.specs.Prelude.{◌≡◌, ℕ, true, List, Option}
use Rattle.elide_args.specs.declared.subcommand.MachineOptions.{MachineOptions}
use Rattle.elide_args.specs.declared.subcommand.ScheduleOptions.{ScheduleOptions}
use Rattle.elide_places.specs.FileSymbols.{AreSymbolsOf}
use Rattle.elide_places.specs.declared.file_names.Wants.{Wants}
use Rattle.elide_program.specs.ProgramFile.{IsFile, file_form}
use Rattle.elide_program.specs.Settings.{has_store_buffer}
use Rattle.elide_program.specs.declared.file.ProgramFile.{ProgramFile}
use Rattle.elide_program.specs.declared.settings.Settings.{Settings}
use Rattle.elide_setup.specs.Drawing.{IsCourseDraw}
use Rattle.elide_setup.specs.Refused.{IsCourseOf}
use Rattle.elide_setup.specs.Rounds.{IsAskedOut, IsOut}
use Rattle.elide_setup.specs.Schedules.{form_asked, form_of}
use Rattle.elide_setup.specs.Setup.{IsAsked, IsSetup}
use Rattle.elide_setup.specs.declared.loaded.LoadedFile.{LoadedFile}
use Rattle.elide_setup.specs.declared.plan.Course.{Course}
use Rattle.tm_model.specs.declared.outcome.Outcome.{Outcome}
use Rattle.tm_model.specs.declared.outcome.Pick.{Pick}

-- it is the program that this text is read as, loaded as the settings say, with its symbols, where they are wanted
pub record IsLoaded (text : List ℕ) (settings : Settings) (wants : Wants) (loaded : LoadedFile) : Type 0 where
  pub file : ProgramFile
  pub read : IsFile text file
  pub form : loaded.form ≡ file_form file
  pub setup : IsSetup file settings loaded.setup
  pub named : wants.symbols ≡ true → AreSymbolsOf file loaded.names.symbols.items

-- it is the program that FILE's content is read as, loaded by the options, with its symbols, where they are wanted; and
-- the course is that of the schedule that the options ask for
pub record IsLoadedWith (content : List ℕ → Option (List ℕ)) (options : MachineOptions) (schedule : ScheduleOptions)
    (wants : Wants) (loaded : LoadedFile) (asked : Course) : Type 0 where
  pub setup : IsAsked (content options.file.now) options loaded.setup
  pub named : wants.symbols ≡ true → AreSymbolsOf setup.file loaded.names.symbols.items
  pub course : IsCourseOf (has_store_buffer options) content schedule asked
  pub draw : IsCourseDraw (has_store_buffer options) schedule asked
  pub listed : form_of asked ≡ form_asked (has_store_buffer options) schedule
  pub out : (cores : ℕ) (steps : List (Pick × Outcome)) → IsOut asked cores steps → IsAskedOut schedule cores steps
