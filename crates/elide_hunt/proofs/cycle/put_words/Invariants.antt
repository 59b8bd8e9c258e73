use Rattle.std.proofs.Common.{take}
use Rattle.std.specs.List.{flat_map}
use Rattle.text_out.specs.Writing.{Wrote}
use Rattle.elide_hunt.specs.Cycles.{word_text}
use Rattle.elide_hunt.proofs.cycle.put_words.Given as goal

-- the words so far were written
abbrev pub invariant-loop-pick : goal.invariant-loop-pick
invariant-loop-pick g l =
    Wrote (g.O.Out.device l.initial.out) (g.O.Out.device l.out) (flat_map word_text (take l.pick-index l.steps))
