use Rattle.std.proofs.Common.{◌≡◌, subst, sym, arith}
use Rattle.std.specs.Result.{IfOk}
use Rattle.std.specs.FinMap as bytes_map
use Rattle.ia_word.specs.declared.width.Width.TheVariants.{B, D}
use Rattle.ia_word.specs.Operand.{operand_bytes}
use Rattle.tm_buffer.specs.Buffer.{Fits}
use Rattle.tm_buffer.proofs.Fits.{fits_empty, fits_put}
use Rattle.tm_tests.proofs.buffers.exactly_the_stored_bytes_are_written.Goals as goal

pub drain_into-requires : goal.drain_into-requires
drain_into-requires g c =
    let empty : c.expect-buffer.result.bytes ≡ bytes_map.empty =
    subst (λ r. IfOk r (λ b. b.bytes ≡ bytes_map.empty)) c.expect-buffer.ensures c.with_lines.ensures.bytes in
    let first : Fits c.expect-buffer.result.bytes 256 = subst (λ m. Fits m 256) (sym empty) (fits_empty 256) in
    let second : Fits c.put.new.self.bytes 256 =
    fits_put c.put.result c.expect-buffer.result c.put.new.self 256 62 (operand_bytes D 0x11223344) c.put.ensures.bytes
    c.put.ensures.err (omega arith) first in
    let third : Fits c.put-2.new.self.bytes 256 =
    fits_put c.put-2.result c.put.new.self c.put-2.new.self 256 255 (operand_bytes B 0) c.put-2.ensures.bytes
    c.put-2.ensures.err (omega arith) second in
    fits_put c.put-3.result c.put-2.new.self c.put-3.new.self 256 63 (operand_bytes B 0xab) c.put-3.ensures.bytes
    c.put-3.ensures.err (omega arith) third
