use Rattle.std.proofs.Common.{◌≡◌, ◌+◌, [], ◌∷◌, ap, arith}
use Rattle.hex.specs.Hex.{encode_lower}
use Rattle.tm_core.specs.Seen.{byte_seen}
use Rattle.gdb_target.proofs.Ranges.{row_more}
use Rattle.gdb_target.proofs.memory.push_seen.Goals as goal

pub bytes-preserved : goal.bytes-preserved
bytes-preserved c =
    let seen : c.unwrap-byte.result ≡ byte_seen c.args.machine.now c.args.core (c.args.at + c.bytes.index) =
    rw c.unwrap-byte.ensures at c.seen.ensures.shown in
    record {
      text =
          row_more (λ address. encode_lower (byte_seen c.args.machine.now c.args.core address ∷ [])) c.args.at
          c.bytes.index c.args.row.now.items c.bytes.row.items
          c.push_bytes.new.page.items _ c.bytes.invariant.text (ap (λ b. encode_lower (b ∷ [])) seen)
          c.push_bytes.ensures.text;
      few = omega arith;
    }
