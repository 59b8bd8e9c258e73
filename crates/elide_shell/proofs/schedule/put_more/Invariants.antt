use Rattle.std.proofs.Common.{take, ◌∷◌}
use Rattle.std.specs.List.{flat_map}
use Rattle.tm_schedule.specs.Picks.{pick_word}
use Rattle.text_out.specs.Writing.{Wrote}
use Rattle.elide_shell.proofs.schedule.put_more.Given as goal

-- the steps so far were written
abbrev pub invariant-loop-pick : goal.invariant-loop-pick
invariant-loop-pick g l = Wrote (g.O.Out.device l.initial.out) (g.O.Out.device l.out)
    (flat_map (λ pick. 32 ∷ pick_word pick) (take l.pick-index l.picks))
