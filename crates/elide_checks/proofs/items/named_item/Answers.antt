use Rattle.std.proofs.Common.{◌≡◌, None, rules, sym}
use Rattle.elide_checks.specs.Misread.{no_core}
use Rattle.elide_checks.proofs.items.named_item.Goals as goal

pub returns-in_err-core : goal.returns-in_err-core
returns-in_err-core c =
    let none : c.from_residual.result ≡ None = search rules in
    rw none (no_core c.in-Some.register c.in-Some.ensures (sym c.in_err-core.ensures))
