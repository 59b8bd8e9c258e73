use Rattle.std.proofs.Common.{◌≡◌, drop}
use Rattle.std.specs.List.{list_any}
use Rattle.elide_expect.specs.Judged.{is_found}
use Rattle.elide_expect.specs.Words.{texts}
use Rattle.elide_expect.proofs.judge.one_found.Given as goal

abbrev pub invariant-loop-front : goal.invariant-loop-front
invariant-loop-front l =
    list_any (is_found l.lines) (texts (drop l.front-index l.fronts)) ≡ list_any (is_found l.lines) (texts l.fronts)
