use Rattle.std.proofs.Common.{take}
use Rattle.std.specs.List.{flat_map}
use Rattle.text_out.specs.Writing.{Wrote}
use Rattle.debug_command.specs.Places.{name_line}
use Rattle.debug_command.proofs.places.write_names.Given as goal

-- the names of the labels so far were written
abbrev pub invariant-labels : goal.invariant-labels
invariant-labels g l =
    Wrote (g.O.Out.device l.initial.out) (g.O.Out.device l.out) (flat_map (name_line l.at) (take l.index l.labels))
