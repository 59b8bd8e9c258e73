use Rattle.std.proofs.Common.{◌≡◌, None, rules}
use Rattle.elide_checks.specs.Constants.{is_among}
use Rattle.elide_checks.specs.Misread.{no_named}
use Rattle.elide_checks.proofs.Words.{named_is}
use Rattle.elide_checks.proofs.items.item_of.Goals as goal

pub returns-in_ok-quantity-in-Some : goal.returns-in_ok-quantity-in-Some
returns-in_ok-quantity-in-Some c =
    let scope = c.args.scope.now in
    named_is scope.file.now (is_among scope.constants.now.names.items) c.args.side c.args.word.now c.in-Some.name.now
    c.in-Some.whose.now c.in_ok-quantity-in-Some.quantity
    c.in-Some.ensures c.in_ok-quantity-in-Some.ensures

pub returns-in_err-quantity-in-Some : goal.returns-in_err-quantity-in-Some
returns-in_err-quantity-in-Some c =
    let none : c.from_residual.result ≡ None = search rules in
    rw none (no_named c.in-Some.name.now c.in-Some.whose.now c.in-Some.ensures c.in_err-quantity-in-Some.ensures)
