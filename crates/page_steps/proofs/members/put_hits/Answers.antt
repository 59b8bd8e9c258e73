use Rattle.std.proofs.Common.{◌≡◌, ◌∙◌, ℕ, ◌≤◌, false, List, [], ◌++◌, ap, codes, length, subst, sym}
use Rattle.text_out.proofs.Writing.{wrote_none, wrote_then}
use Rattle.text_out.specs.Writing.{Wrote}
use Rattle.page_steps.specs.Members.{hits_from, member_text, named, some_then}
use Rattle.page_steps.proofs.Saying.{bracket_says, bracket_text, no_hits, some_hits}
use Rattle.page_steps.proofs.members.put_hits.Goals as goal

pub returns-then-not-has_hit-clause-text : goal.returns-then-not-has_hit-clause-text
returns-then-not-has_hit-clause-text g c =
    let none : hits_from false 0 c.args.hits.now ≡ [] =
    no_hits false 0 c.args.hits.now (sym c.has_hit.ensures ∙ c.if-not-has_hit.true) in
    let Says : List ℕ → Type 0 = λ items. Wrote (g.O.Out.device c.args.out.now) (g.O.Out.device c.args.out.now)
    (member_text c.args.some (named (codes "\"d\":[") (λ text. text ++ codes "]") items)) in
    subst Says (sym none) (wrote_none (g.O.Out.device c.args.out.now))

pub returns-then-not-has_hit-clause-some : goal.returns-then-not-has_hit-clause-some
returns-then-not-has_hit-clause-some g c =
    let none : hits_from false 0 c.args.hits.now ≡ [] =
    no_hits false 0 c.args.hits.now (sym c.has_hit.ensures ∙ c.if-not-has_hit.true) in
    sym (ap (λ items. some_then c.args.some (named (codes "\"d\":[") (λ text. text ++ codes "]") items)) none)

pub returns-clause-text : goal.returns-clause-text
returns-clause-text g c =
    let some : 1 ≤ length (hits_from false 0 c.args.hits.now) =
    some_hits 0 c.args.hits.now (sym c.has_hit.ensures ∙ c.if-not-has_hit.false) in
    let Says : List ℕ → Type 0 = λ text. Wrote (g.O.Out.device c.args.out.now) (g.O.Out.device c.put-2.new.self) text in
    subst Says (bracket_text c.args.some (hits_from false 0 c.args.hits.now) some)
    (wrote_then c.in_ok-put_lead.ensures
    (wrote_then c.in_ok-put.ensures (wrote_then c.in_ok-put_hits_from.ensures c.in_ok-put-2.ensures)))

pub returns-clause-some : goal.returns-clause-some
returns-clause-some g c =
    sym (bracket_says c.args.some (hits_from false 0 c.args.hits.now)
    (some_hits 0 c.args.hits.now (sym c.has_hit.ensures ∙ c.if-not-has_hit.false)))
