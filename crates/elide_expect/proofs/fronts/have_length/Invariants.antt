use Rattle.std.proofs.Common.{◌≡◌, drop, length}
use Rattle.std.specs.Prelude.{◌==◌}
use Rattle.std.specs.List.{list_all}
use Rattle.elide_expect.specs.Words.{texts}
use Rattle.elide_expect.proofs.fronts.have_length.Given as goal

abbrev pub invariant-loop-front : goal.invariant-loop-front
invariant-loop-front l = list_all (λ front. length front == l.size) (texts (drop l.front-index l.fronts))
    ≡ list_all (λ front. length front == l.size) (texts l.fronts)
