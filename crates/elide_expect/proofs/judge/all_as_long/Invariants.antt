use Rattle.std.proofs.Common.{◌≡◌, drop}
use Rattle.std.specs.List.{list_all}
use Rattle.elide_expect.specs.Judged.{are_as_long}
use Rattle.elide_expect.specs.Words.{texts}
use Rattle.elide_expect.proofs.judge.all_as_long.Given as goal

abbrev pub invariant-loop-front : goal.invariant-loop-front
invariant-loop-front l = list_all (are_as_long l.lines) (texts (drop l.front-index l.fronts))
    ≡ list_all (are_as_long l.lines) (texts l.fronts)
