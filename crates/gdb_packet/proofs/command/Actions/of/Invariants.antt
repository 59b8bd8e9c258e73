use Rattle.std.proofs.Common.{◌≡◌, drop}
use Rattle.gdb_packet.specs.Actions.{entry_says, leftmost}
use Rattle.gdb_packet.proofs.command.Actions.of.Given as goal

-- the entries before this one say nothing of the thread
abbrev pub invariant-chosen : goal.invariant-chosen
invariant-chosen l =
    leftmost (entry_says l.thread) l.self.chosen ≡ leftmost (entry_says l.thread) (drop l.index l.self.chosen)
