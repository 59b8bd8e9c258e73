-- How long a core goes on while others wait.
use Rattle.std.specs.Prelude.{ℕ, ◌*◌, min, max}

-- in a run that takes about so many steps: twice as many, so that no core gives way before it has come to its end where
-- nobody lets it fall, and 400 at least
abbrev pub longest_row : ℕ → ℕ
longest_row length = max 400 (min (2 * length) 4294967295)
