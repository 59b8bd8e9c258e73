-- A program and its machine's settings, as the options say.
use Rattle.std.specs.Prelude.{◌≡◌, ℕ, List, Option, length}
use Rattle.elide_args.specs.declared.subcommand.MachineOptions.{MachineOptions}
use Rattle.elide_program.specs.Entries.{AreStarts}
use Rattle.elide_program.specs.Parts.{AreParts}
use Rattle.elide_program.specs.ProgramFile.{IsRead, loaded}
use Rattle.elide_program.specs.Settings.{AreSettings}
use Rattle.elide_program.specs.declared.file.ProgramFile.{ProgramFile}
use Rattle.elide_program.specs.declared.settings.Settings.{Settings}
use Rattle.elide_setup.specs.declared.machine.Setup.{Setup}

-- the machine is that of a file with the cores, the memory and the limits of the settings, each core begins where they
-- say, and what is printed of memory is what they ask for
pub record IsSetup (file : ProgramFile) (settings : Settings) (setup : Setup) : Type 0 where
  pub cores : length setup.program.entries ≡ settings.cores
  pub starts : AreStarts file settings.entries settings.cores setup.program.entries
  pub program : setup.program ≡ loaded file settings.memory setup.program.entries
  pub reads : setup.limits.read_lines ≡ settings.reads
  pub writes : setup.limits.write_lines ≡ settings.writes
  pub stores : setup.limits.stores ≡ settings.stores
  pub parts : AreParts file settings.dumps.now settings.shows.now setup.parts

-- the machine is that of the options and of the program that the content of FILE is read as
pub record IsAsked (content : Option (List ℕ)) (options : MachineOptions) (setup : Setup) : Type 0 where
  pub file : ProgramFile
  pub read : IsRead content file
  pub settings : Settings
  pub said : AreSettings options settings
  pub made : IsSetup file settings setup
