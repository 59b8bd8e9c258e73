use Rattle.std.proofs.Common.{List, [], ◌∷◌, ◌++◌, ◌∙◌, ap, sym, take}
use Rattle.std.proofs.lemmas.List.{take_more, take_all}
use Rattle.ia_item.specs.declared.item.Entry.{Entry}
use Rattle.elide_checks.specs.EquNames.{names_in}
use Rattle.elide_checks.proofs.Named.{one_more}
use Rattle.elide_checks.proofs.constants.EquNamesWalk.go_over.Goals as goal

pub loop-entry-preserved : goal.loop-entry-preserved
loop-entry-preserved c =
    let a = c.args.self.now.names.items in
    let es = c.args.entries.now in
    let i = c.loop-entry.entry-index in
    let e = c.entry-item.result in
    one_more a c.loop-entry.self.names.items c.add_name.new.names.items (take i es) e c.loop-entry.invariant
    c.in_ok-add_name.ensures
    ∙ ap (λ (l : List Entry). a ++ names_in l)
    (ap (λ (x : Entry). take i es ++ x ∷ []) c.entry-item.is ∙ sym (take_more es i e c.loop-entry-test.true))

pub returns : goal.returns
returns c =
    c.loop-entry.invariant
    ∙ ap (λ (l : List Entry). c.args.self.now.names.items ++ names_in l)
    (take_all c.loop-entry.entry-index c.args.entries.now c.loop-entry-test.false)
