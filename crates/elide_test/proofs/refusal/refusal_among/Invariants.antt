use Rattle.std.proofs.Common.{◌≡◌, drop, map}
use Rattle.std.specs.List.{find}
use Rattle.elide_test.specs.Refusals.{is_refusal}
use Rattle.elide_test.proofs.refusal.refusal_among.Given as goal

-- what is to come decides
abbrev pub invariant-loop-line : goal.invariant-loop-line
invariant-loop-line l =
    find is_refusal (map (λ line. line.now) l.lines)
    ≡ find is_refusal (map (λ line. line.now) (drop l.line-index l.lines))
