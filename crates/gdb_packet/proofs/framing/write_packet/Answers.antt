use Rattle.gdb_packet.proofs.Unescaping.{reads_back}
use Rattle.gdb_packet.proofs.framing.write_packet.Goals as goal

pub returns-in_err-put-clause-reads_back : goal.returns-in_err-put-clause-reads_back
returns-in_err-put-clause-reads_back g c = reads_back c.args.bytes.now

pub returns-clause-reads_back : goal.returns-clause-reads_back
returns-clause-reads_back g c = reads_back c.args.bytes.now
