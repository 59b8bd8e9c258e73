use Rattle.page_telling.proofs.Keeping.{kept_all}
use Rattle.tm_page.specs.declared.delta.StoredByte.{StoredByte}
use Rattle.page_telling.proofs.kept.keep_all.Goals as goal

pub loop-byte-preserved : goal.loop-byte-preserved
loop-byte-preserved c =
    let none : StoredByte = record { address = 0; byte = 0 } in
    kept_all c.loop-byte.bytes.items c.keep.new.bytes.items c.args.stored.now c.args.core c.loop-byte.byte-index none
    c.loop-byte-test.true c.args.bytes.now.items c.loop-byte.invariant c.in_ok-keep.ensures
