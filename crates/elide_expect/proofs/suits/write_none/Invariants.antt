use Rattle.std.proofs.Common.{◌≡◌, drop}
use Rattle.std.specs.Prelude.{not}
use Rattle.std.specs.List.{list_all}
use Rattle.elide_expect.specs.Tests.{writes}
use Rattle.elide_expect.specs.Words.{texts}
use Rattle.elide_expect.proofs.suits.write_none.Given as goal

abbrev pub invariant-loop-word : goal.invariant-loop-word
invariant-loop-word l = list_all (λ word. not (writes word)) (texts (drop l.word-index l.words))
    ≡ list_all (λ word. not (writes word)) (texts l.words)
