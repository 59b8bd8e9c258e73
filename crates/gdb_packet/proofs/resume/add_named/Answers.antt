use Rattle.std.proofs.Common.{Some, arith}
use Rattle.gdb_packet.specs.Actions.{entry_says}
use Rattle.gdb_packet.proofs.Leftmost.{leftmost_set, none_behind_set, none_further}
use Rattle.gdb_packet.proofs.resume.add_named.Goals as goal

pub returns-then-count-ge-MOST_ACTIONS-clause-room : goal.returns-then-count-ge-MOST_ACTIONS-clause-room
returns-then-count-ge-MOST_ACTIONS-clause-room c = λ thread.
    none_further (entry_says thread) c.args.actions.now.chosen c.args.count (c.requires.room thread)

pub returns-clause-room : goal.returns-clause-room
returns-clause-room c = λ thread.
    none_behind_set (entry_says thread) c.args.actions.now.chosen c.args.count (Some c.args.entry)
    (c.requires.room thread)

pub returns-clause-chosen : goal.returns-clause-chosen
returns-clause-chosen c = λ few thread.
    leftmost_set (entry_says thread) c.args.actions.now.chosen c.args.count (Some c.args.entry) (omega arith)
    (c.requires.room thread)
