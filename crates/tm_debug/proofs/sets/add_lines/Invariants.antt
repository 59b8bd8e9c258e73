use Rattle.std.proofs.Common.{◌≡◌, ◌∷◌, ◌++◌, take}
use Rattle.std.specs.List.{flat_map}
use Rattle.text_out.specs.Number.{hex_digits}
use Rattle.tm_debug.proofs.sets.add_lines.Given as goal

-- the lines before this index were added
abbrev pub invariant-lines : goal.invariant-lines
invariant-lines l = l.text.items ≡ l.initial.text.items ++ flat_map (λ x. 32 ∷ hex_digits x) (take l.index l.lines)
