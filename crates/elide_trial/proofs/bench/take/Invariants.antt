use Rattle.std.proofs.Common.{◌≡◌, ◌+◌, length, vec_len}
use Rattle.std.specs.List.{All}
use Rattle.std.specs.Prelude.{IfOk}
use Rattle.elide_test.specs.Tried.{IsTried}
use Rattle.elide_trial.specs.Came.{CameTo}
use Rattle.elide_trial.proofs.bench.take.Given as goal

-- each file that is left was tried or stopped, and those so far were tried
abbrev pub invariant-files : goal.invariant-files
invariant-files g l =
    All (λ file. IfOk file (IsTried (g.S.SharedPaths.holds l._paths) (CameTo (goal.C-post g l._call) l._paths)))
    l.rest.items ×
    All (IsTried (g.S.SharedPaths.holds l._paths) (CameTo (goal.C-post g l._call) l._paths)) l.files.items ×
    (vec_len l.files + vec_len l.rest ≡ vec_len l.initial.files + vec_len l.initial.rest)

abbrev pub decreases-files : goal.decreases-files
decreases-files g l = vec_len l.rest
