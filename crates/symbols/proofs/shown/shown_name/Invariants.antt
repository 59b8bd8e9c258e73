use Rattle.std.proofs.Common.{◌≡◌, take}
use Rattle.symbols.specs.Shown.{shown_name}
use Rattle.symbols.proofs.shown.shown_name.Given as goal

-- the bytes before this index were added
abbrev pub invariant-bytes : goal.invariant-bytes
invariant-bytes l = l.shown.items ≡ shown_name (take l.index l.name)
