use Rattle.std.proofs.Common.{◌≡◌, map, take}
use Rattle.symbols.specs.Shown.{shown_name}
use Rattle.symbols.proofs.marks.marks_of.Given as goal

-- the names so far
abbrev pub invariant-loop-symbol : goal.invariant-loop-symbol
invariant-loop-symbol l =
    map (λ m. m.name.now) l.marks.items ≡ map (λ s. shown_name s.name.items) (take l.symbol-index l.symbols)
