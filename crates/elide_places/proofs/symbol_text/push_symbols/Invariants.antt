use Rattle.std.proofs.Common.{◌≡◌, true}
use Rattle.std.specs.List.{list_all}
use Rattle.elide_places.specs.Shown.{is_printable}
use Rattle.elide_places.specs.declared.symbol_text.Naming.TheVariants.{Shown}
use Rattle.elide_places.proofs.symbol_text.push_symbols.Given as goal

-- names that are shown leave no other bytes
abbrev pub invariant-labels : goal.invariant-labels
invariant-labels l = l.naming ≡ Shown → list_all is_printable l.row.items ≡ true
