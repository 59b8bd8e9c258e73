use Rattle.page_telling.proofs.Keeping.{listed_more}
use Rattle.page_telling.specs.declared.kept.KeptByte.{KeptByte}
use Rattle.page_telling.proofs.kept.addresses_of.Goals as goal

pub loop-byte-preserved : goal.loop-byte-preserved
loop-byte-preserved c =
    let none : KeptByte = record { core = 0; address = 0 } in
    listed_more c.loop-byte.row.items c.put_address.new.row.items c.args.bytes.now c.args.core
    c.loop-byte.byte-index none
    c.loop-byte-test.true c.loop-byte.invariant c.in_ok-put_address.ensures
