use Rattle.std.proofs.Common.{ℕ, List, Bor, ◌++◌, codes, take}
use Rattle.std.specs.List.{flat_map}
use Rattle.text_out.specs.Writing.{Wrote}
use Rattle.elide_outcomes.proofs.naming.tell_more.Given as goal

-- the words so far were told
abbrev pub invariant-loop-word : goal.invariant-loop-word
invariant-loop-word g l =
    Wrote (g.O.Out.device l.initial.out) (g.O.Out.device l.out)
    (flat_map (λ (word : Bor (List ℕ)). codes " " ++ word.now) (take l.word-index l.words))
