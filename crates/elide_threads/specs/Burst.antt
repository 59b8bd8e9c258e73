-- How many steps a core makes under one lock, as an option says.
use Rattle.std.specs.Prelude.{◌==◌, ℕ, List, if◌then◌else◌, Option, Some, None, option_and_then}
use Rattle.elide_program.specs.Settings.{word32}
use Rattle.tm_work.specs.declared.manner.Burst.{Burst}
use Rattle.tm_work.specs.declared.manner.Burst.TheVariants.{Fixed, Varying}

abbrev pub fixed_burst : ℕ → Option Burst
fixed_burst steps = if steps == 0 then None else Some (Fixed steps)

-- never 0, and varying where the option is not given
abbrev pub burst_said : Option (List ℕ) → Option Burst
burst_said None = Some Varying
burst_said (Some word) = option_and_then fixed_burst (word32 word)
