use Rattle.std.proofs.Common.{◌≡◌, drop, map}
use Rattle.std.specs.Prelude.{option_map}
use Rattle.elide_expect.specs.Outcomes.{front_of, fronts_with, lists_of}
use Rattle.elide_expect.specs.Words.{texts}
use Rattle.elide_expect.proofs.fronts.fronts_in.Given as goal

abbrev pub invariant-loop-word : goal.invariant-loop-word
invariant-loop-word l =
    fronts_with l.reader (texts (drop l.word-index l.words)) ≡ option_map (map front_of) (lists_of (texts l.words))
