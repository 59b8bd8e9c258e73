use Rattle.std.proofs.Common.{false, None, ◌∙◌, ap, map, get_or}
use Rattle.ia_names.proofs.Namings.{grows_more, naming_less}
use Rattle.ia_lex.specs.declared.terms.Term.{Term}
use Rattle.ia_lex.specs.declared.terms.Atom.TheVariants.{Number}
use Rattle.ia_source.specs.Symbols.{scoped_term}
use Rattle.ia_item.specs.declared.name.Scope.{Scope}
use Rattle.ia_source.proofs.ScopedTerms.{step}
use Rattle.ia_source.proofs.expression.expression_in.Goals as goal

pub loop-term-preserved : goal.loop-term-preserved
loop-term-preserved c =
    let d : Term = record { negative = false; atom = Number None } in
    let xs = c.as_slice-source_terms.result.now in
    let scope = c.args.names.now.scope.text.now in
    record {
      scope = c.term_in.ensures.scope ∙ c.loop-term.invariant.scope;
      grows = grows_more c.args.names.now c.loop-term.names c.term_in.new.names c.loop-term.invariant.grows
          c.term_in.ensures.grows;
      terms = λ naming h.
          step naming scope c.loop-term.terms.items c.in_ok-scoped.scoped c.push.new.self.items xs
          c.loop-term.term-index d (map (scoped_term scope) xs) c.loop-term-test.true
          (c.loop-term.invariant.terms naming
          (naming_less naming c.loop-term.names c.term_in.new.names c.term_in.ensures.grows h))
          c.in_ok-push.ensures.items
          (c.in_ok-scoped.ensures.term naming h
          ∙ ap (λ (s : Scope). scoped_term s.text.now (get_or xs c.loop-term.term-index d))
          c.loop-term.invariant.scope);
    }
