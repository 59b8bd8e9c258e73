use Rattle.std.proofs.Common.{◌≡◌, ℕ, false, List, Option, Some, IfNone, sym, ◌∙◌, ap, subst, drop}
use Rattle.std.specs.List.{cons_option}
use Rattle.elide_expect.specs.Expectations.{wanted}
use Rattle.elide_expect.specs.Judged.{in_order, pattern_of}
use Rattle.elide_expect.proofs.Behind.{nows}
use Rattle.elide_expect.proofs.judge.behind.Goals as goal

pub returns-in-Line-clause-none : goal.returns-in-Line-clause-none
returns-in-Line-clause-none c =
    let e : Some (nows c.deref.result.now) ≡ pattern_of (wanted c.args.expectation.now)
    = ap (λ rows. Some (nows rows)) c.deref.ensures.value ∙ ap (λ x. pattern_of (wanted x)) (sym c.in-Line.is) in
    subst (λ (p : Option (List (List ℕ))). IfNone c.line_behind.result
    ((patterns : List (List (List ℕ))) → in_order (cons_option p patterns) (drop c.args.from c.args.lines.now) ≡ false))
    e
    c.line_behind.ensures.none
