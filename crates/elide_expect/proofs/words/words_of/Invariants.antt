use Rattle.std.proofs.Common.{◌≡◌, drop}
use Rattle.elide_expect.specs.Words.{words_of, words_with}
use Rattle.elide_expect.proofs.words.words_of.Given as goal

abbrev pub invariant-loop-byte : goal.invariant-loop-byte
invariant-loop-byte l = words_with l.reader (drop l.byte-index l.text) ≡ words_of l.text
