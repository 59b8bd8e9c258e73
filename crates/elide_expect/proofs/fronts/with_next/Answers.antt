use Rattle.std.proofs.Common.{rules, ◌≡◌, ◌++◌, ◌∷◌, [], true, ◌∙◌, ap, nat_eq}
use Rattle.std.specs.Prelude.{codes, option_map}
use Rattle.std.specs.Cmp.Lexicographic.{pointwise}
use Rattle.elide_expect.specs.Outcomes.{lists_of, onto_front}
use Rattle.elide_expect.specs.Words.{texts}
use Rattle.elide_expect.proofs.ReadFronts.{front_end}
use Rattle.elide_expect.proofs.fronts.with_next.Goals as goal

pub returns-then-eq-clause-some : goal.returns-then-eq-clause-some
returns-then-eq-clause-some c = λ rest.
    let before = texts c.args.reader.fronts.items in
    let front = c.args.reader.front.items in
    let ends : pointwise nat_eq c.args.word.now (codes "|") ≡ true = search rules in
    ap (λ rows. option_map (λ ls. rows ++ onto_front c.in_ok-at_end.field-0.front.items ls) (lists_of rest))
    c.in_ok-at_end.ensures.fronts
    ∙ ap (λ text. option_map (λ ls. (before ++ front ∷ []) ++ onto_front text ls) (lists_of rest))
    c.in_ok-at_end.ensures.front
    ∙ front_end before front c.args.word.now rest ends
