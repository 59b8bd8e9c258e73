use Rattle.std.proofs.Common.{◌≡◌, ◌*◌}
use Rattle.tm_outcomes.specs.Digests.{mixed_words}
use Rattle.tm_outcomes.proofs.digest.Digest.add_line.Given as goal

-- the words so far are added
abbrev pub invariant-loop-word : goal.invariant-loop-word
invariant-loop-word l = l.self.value ≡ mixed_words l.memory l.other l.initial.self.value (l.line * 64) l.word
