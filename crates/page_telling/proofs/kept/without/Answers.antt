use Rattle.page_telling.proofs.Keeping.{left_more}
use Rattle.page_telling.specs.declared.kept.KeptByte.{KeptByte}
use Rattle.page_telling.proofs.kept.without.Goals as goal

pub loop-byte-preserved : goal.loop-byte-preserved
loop-byte-preserved c =
    let none : KeptByte = record { core = 0; address = 0 } in
    left_more c.loop-byte.left.items c.put_other.new.left.items c.args.bytes.now c.args.core c.loop-byte.byte-index none
    c.loop-byte-test.true c.loop-byte.invariant c.in_ok-put_other.ensures
