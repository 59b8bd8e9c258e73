-- A machine that becomes as another one is.
use Rattle.std.specs.Prelude.{◌≡◌, ℕ, ◌<◌, true}
use Rattle.std.specs.FinSet as set
use Rattle.tm_sets.specs.Content.{Content}
use Rattle.tm_core.specs.Types.{Write}

-- the sets know the line, and the core has written it
abbrev pub IsWritten : Content → ℕ → ℕ → Type 0
IsWritten content core line =
    (line < content.fixed.line_count) × (set.contains (content.lines core Write) line ≡ true)
