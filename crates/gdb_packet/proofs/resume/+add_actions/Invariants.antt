use Rattle.std.proofs.Common.{length}
use Rattle.gdb_packet.proofs.resume.+add_actions.Given as goal

-- less text is left each time
abbrev pub decreases-add_actions : goal.decreases-add_actions
decreases-add_actions l = length l.text.now
