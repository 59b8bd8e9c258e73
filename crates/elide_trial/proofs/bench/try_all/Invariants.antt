use Rattle.std.proofs.Common.{◌≡◌, ◌-◌, ◌≤◌, length, vec_len}
use Rattle.std.specs.List.{All}
use Rattle.elide_test.specs.Tried.{IsTried}
use Rattle.elide_trial.specs.Came.{CameTo}
use Rattle.elide_trial.proofs.bench.try_all.Given as goal

-- the files so far were tried
abbrev pub invariant-turns : goal.invariant-turns
invariant-turns g l =
    (l.first ≤ length l.names) × (vec_len l.files ≡ l.first) ×
    All (IsTried (g.S.SharedPaths.holds l.paths) (CameTo (goal.C-post g l.call) l.paths)) l.files.items

abbrev pub decreases-turns : goal.decreases-turns
decreases-turns g l = length l.names - l.first
