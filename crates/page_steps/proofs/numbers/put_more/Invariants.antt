use Rattle.std.proofs.Common.{take}
use Rattle.std.specs.List.{flat_map}
use Rattle.text_out.specs.Writing.{Wrote}
use Rattle.page_steps.specs.Numbers.{behind_comma}
use Rattle.page_steps.proofs.numbers.put_more.Given as goal

-- the numbers so far were written
abbrev pub invariant-loop-number : goal.invariant-loop-number
invariant-loop-number g l =
    Wrote (g.O.Out.device l.initial.out) (g.O.Out.device l.out) (flat_map behind_comma (take l.number-index l.numbers))
