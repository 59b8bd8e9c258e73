use Rattle.std.proofs.Common.{◌≡◌, ℕ, List, [], ◌++◌, ◌∙◌, ap, subst, rules}
use Rattle.ia_item.specs.declared.name.Name.{Name}
use Rattle.ia_source.specs.Source.{ReadsAs}
use Rattle.elide_checks.specs.EquNames.{names_in}
use Rattle.elide_checks.proofs.Named.{are_constants}
use Rattle.elide_checks.proofs.constants.Constants.of_source.Goals as goal

pub returns-in-Ok : goal.returns-in-Ok
returns-in-Ok c = λ name.
    let gone = c.in-Ok.ensures.exact in
    let none : c.new.result.items ≡ [] = search rules in
    are_constants c.args.source.now c.go_over.new.self.names gone.0 c.go_over.new.walk.names.items
    (subst (λ (text : List ℕ). ReadsAs text c.go_over.new.self.names gone.0) c.new-reader.ensures gone.1)
    (gone.3 ∙ ap (λ (l : List Name). l ++ names_in gone.0) none) name
