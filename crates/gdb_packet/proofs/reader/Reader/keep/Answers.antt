use Rattle.gdb_packet.proofs.Hearing.{text_more}
use Rattle.gdb_packet.proofs.reader.Reader.keep.Goals as goal

pub returns-else-is_full-clause-text : goal.returns-else-is_full-clause-text
returns-else-is_full-clause-text c =
    λ since h. rw c.push.ensures.items
    (text_more c.args.self.now.long c.args.self.now.text.items since c.args.byte c.requires h)
