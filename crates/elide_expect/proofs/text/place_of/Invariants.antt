use Rattle.std.proofs.Common.{◌≡◌, ◌+◌, drop}
use Rattle.std.specs.Prelude.{option_map}
use Rattle.elide_expect.specs.Patterns.{place_of}
use Rattle.elide_expect.proofs.text.place_of.Given as goal

abbrev pub invariant-loop-at : goal.invariant-loop-at
invariant-loop-at l = place_of l.piece l.text ≡ option_map (λ k. l.at + k) (place_of l.piece (drop l.at l.text))
