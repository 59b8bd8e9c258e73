-- How many threads `--jobs` says (docs/FORMATS.md, "Options of the command line").
use Rattle.std.specs.Prelude.{◌≡◌, ℕ, ◌<◌, ◌≤◌, ◌⊎◌, List, Option, Some, None}
use Rattle.elide_program.specs.Settings.{word32}

-- 1 to 1024: as many as the option says; how many a machine has processors is the host's to say
pub record AreJobs (option : Option (List ℕ)) (jobs : ℕ) : Type 0 where
  pub some : 1 ≤ jobs
  pub few : jobs ≤ 1024
  pub said : (text : List ℕ) → option ≡ Some text → word32 text ≡ Some jobs

-- no number from 1 to 1024
abbrev pub AreNoJobs : Option (List ℕ) → Type 0
AreNoJobs None = ⊥
AreNoJobs (Some text) = (jobs : ℕ) → word32 text ≡ Some jobs → (jobs ≡ 0) ⊎ (1024 < jobs)
