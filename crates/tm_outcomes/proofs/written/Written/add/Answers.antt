use Rattle.std.proofs.Common.{List, ℕ, ◌∙◌, ◌∷◌, [], refl, sym, subst}
use Rattle.std.specs.Prelude.{Contains}
use Rattle.std.proofs.lemmas.List.Elements.{Contains-append_left, Contains-push}
use Rattle.std.proofs.lemmas.Bool.{false≢true}
use Rattle.tm_outcomes.specs.Written.{HasMore}
use Rattle.tm_outcomes.proofs.Digests.{no_more, one_more}
use Rattle.tm_outcomes.proofs.Noting.{keeps_all}
use Rattle.tm_outcomes.proofs.written.Written.add.Goals as goal

pub returns-then-has-clause-here : goal.returns-then-has-clause-here
returns-then-has-clause-here c =
    subst (λ (xs : List ℕ). Contains xs c.args.line) c.as_slice.ensures.value (c.has.ensures.0 c.if-has.true)

pub returns-then-has-clause-keeps : goal.returns-then-has-clause-keeps
returns-then-has-clause-keeps c = keeps_all c.args.self.now

pub returns-clause-keeps : goal.returns-clause-keeps
returns-clause-keeps c = record {
  opening = refl;
  kept = λ other among.
      subst (λ (xs : List ℕ). Contains xs other) (sym c.in_ok-push.ensures.items)
      (Contains-append_left c.args.self.now.lines.items (c.args.line ∷ []) other among);
}

pub returns-clause-here : goal.returns-clause-here
returns-clause-here c =
    subst (λ (xs : List ℕ). Contains xs c.args.line) (sym c.in_ok-push.ensures.items)
    (Contains-push c.args.self.now.lines.items c.args.line)

pub returns-then-has-clause-grown : goal.returns-then-has-clause-grown
returns-then-has-clause-grown c = no_more c.args.self.now.lines.items

pub returns-clause-grown : goal.returns-clause-grown
returns-clause-grown c =
    let lines : List ℕ = c.args.self.now.lines.items in
    subst (λ (xs : List ℕ). HasMore lines xs) (sym c.in_ok-push.ensures.items)
    (one_more lines c.args.line
    (λ there. false≢true (sym c.if-has.false
    ∙ c.has.ensures.1 (subst (λ (xs : List ℕ). Contains xs c.args.line) (sym c.as_slice.ensures.value) there))))
