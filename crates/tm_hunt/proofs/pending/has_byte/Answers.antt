use Rattle.std.proofs.Common.{rules, arith}
use Rattle.tm_hunt.proofs.Loads.{byte_of}
use Rattle.tm_hunt.proofs.pending.has_byte.Goals as goal

pub returns-then-is_beside_all : goal.returns-then-is_beside_all
returns-then-is_beside_all c = λ _.
    byte_of c.args.access c.loop-offset.offset c.args.stores.now (search rules)
    (search rules)
