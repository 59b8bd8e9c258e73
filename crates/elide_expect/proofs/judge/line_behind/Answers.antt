use Rattle.std.proofs.Common.{◌≡◌, ℕ, ◌+◌, List, Some, None, sym, ◌∙◌, ap, drop, arith}
use Rattle.std.proofs.lemmas.List.{drop-drop, take_rest}
use Rattle.std.specs.Prelude.{position}
use denote.Bor.{Bor}
use Rattle.elide_expect.specs.Judged.{in_order}
use Rattle.elide_expect.specs.Patterns.{meets}
use Rattle.elide_expect.proofs.Behind.{nows}
use Rattle.elide_expect.proofs.InOrder.{followed_none, followed_some}
use Rattle.elide_expect.proofs.Lists.{position_none, position_some, position_within}
use Rattle.elide_expect.proofs.judge.line_behind.Goals as goal

pub returns-in-Some-clause-some : goal.returns-in-Some-clause-some
returns-in-Some-clause-some c = λ patterns.
    let from = c.args.from in
    let at = c.in-Some.at in
    let lines = c.args.lines.now in
    let test = λ (line : Bor (List ℕ)). meets (nows c.args.pieces.now) line.now in
    let found : position test (drop from lines) ≡ Some at =
    ap (position test) (sym (take_rest lines from)) ∙ sym c.in-Some.ensures in
    let next : from + (at + 1) ≡ from + at + 1 = omega arith in
    followed_some test patterns (drop from lines) (position_within test (drop from lines) at found)
    ∙ ap (λ n. in_order patterns (drop (n + 1) (drop from lines))) (position_some test (drop from lines) at found)
    ∙ ap (in_order patterns) (drop-drop (at + 1) from lines) ∙ ap (λ n. in_order patterns (drop n lines)) next

pub returns-in-None-clause-none : goal.returns-in-None-clause-none
returns-in-None-clause-none c = λ patterns.
    let from = c.args.from in
    let lines = c.args.lines.now in
    let test = λ (line : Bor (List ℕ)). meets (nows c.args.pieces.now) line.now in
    let found : position test (drop from lines) ≡ None =
    ap (position test) (sym (take_rest lines from)) ∙ sym c.in-None.ensures in
    followed_none test patterns (drop from lines) (position_none test (drop from lines) found)
