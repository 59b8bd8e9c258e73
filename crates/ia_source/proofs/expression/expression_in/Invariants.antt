use Rattle.std.proofs.Common.{◌≡◌, ◌++◌, drop, map}
use Rattle.ia_names.specs.Namings.{Naming, IsNaming, Grows}
use Rattle.ia_source.specs.Contents.{scoped_term_content}
use Rattle.ia_source.specs.Symbols.{scoped_term}
use Rattle.ia_source.proofs.expression.expression_in.Given as goal

abbrev pub invariant-loop-term : goal.invariant-loop-term
invariant-loop-term l = record {
  scope : l.names.scope ≡ l.initial.names.scope;
  grows : Grows l.initial.names l.names;
  terms : (naming : Naming) → IsNaming naming l.names
      → map (scoped_term_content naming) l.terms.items
      ++ map (scoped_term l.initial.names.scope.text.now) (drop l.term-index l.source_terms)
      ≡ map (scoped_term l.initial.names.scope.text.now) l.source_terms;
}
