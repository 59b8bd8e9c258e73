use Rattle.std.proofs.Common.{◌≡◌, drop}
use Rattle.std.specs.List.{list_any}
use Rattle.elide_expect.specs.Judged.{shows}
use Rattle.elide_expect.specs.Words.{texts}
use Rattle.elide_expect.proofs.judge.shows_one.Given as goal

abbrev pub invariant-loop-front : goal.invariant-loop-front
invariant-loop-front l = list_any (λ front. shows front l.line) (texts (drop l.front-index l.fronts))
    ≡ list_any (λ front. shows front l.line) (texts l.fronts)
