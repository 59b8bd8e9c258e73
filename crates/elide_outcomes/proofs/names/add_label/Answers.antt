use Rattle.std.proofs.Common.{List, sym, subst}
use Rattle.std.proofs.lemmas.List.Elements.{All-push}
use Rattle.std.proofs.lemmas.Result.{on_ok_weaker}
use Rattle.std.specs.Prelude.{All}
use Rattle.symbols.specs.declared.symbol.Symbol.{Symbol}
use Rattle.elide_outcomes.specs.Names.{IsLabelOf}
use Rattle.elide_outcomes.proofs.names.add_label.Goals as goal

pub returns : goal.returns
returns c =
    let file = c.args.file.now in
    let label : Symbol = c.in_ok-label.label in
    let stands : IsLabelOf file label =
    rw (c.in_ok-label.ensures.name, c.in_ok-label.ensures.value) c.in-Some.ensures in
    on_ok_weaker c.add.result
    (λ added before. subst (λ (labels : List Symbol). All (IsLabelOf file) labels) (sym added)
    (All-push (IsLabelOf file) c.args.labels.now.items label before stands))
    c.add.ensures
