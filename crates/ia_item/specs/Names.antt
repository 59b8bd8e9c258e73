-- Whole names of symbols.
use Rattle.std.specs.Prelude.{ℕ, Bool, List, ◌++◌, ◌==◌}
use Rattle.std.specs.Str.{bytes_eq}
use Rattle.ia_item.specs.declared.name.Name.{Name}
use Rattle.ia_item.specs.declared.symbol.Symbol.{Symbol}

-- the name of the label that it belongs to, if any, and its own behind it
abbrev pub whole_name : Name → List ℕ
whole_name n = n.scope.now ++ n.own.now

abbrev pub same_name : Name → Name → Bool
same_name m n = bytes_eq (whole_name m) (whole_name n)

-- symbols are the same where their numbers are, which stand for whole names
abbrev pub same_symbol : Symbol → Symbol → Bool
same_symbol m n = m.number == n.number
