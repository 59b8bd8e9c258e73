use Rattle.std.proofs.Common.{◌≡◌, ◌<◌, ◌/◌, ℕ, get_or}
use Rattle.std.specs.Prelude.{slice_index}
use Rattle.tm_outcomes.proofs.digest.are_same.Given as goal

-- the bytes of the lines so far are the same
abbrev pub invariant-loop-line : goal.invariant-loop-line
invariant-loop-line l =
    (index address : ℕ) → index < l.line-index → get_or l.lines index (address / 64) ≡ address / 64 →
    slice_index l.these address ≡ slice_index l.those address
