use Rattle.std.proofs.Common.{ap, arith, length}
use Rattle.std.specs.Str.{trim}
use Rattle.hex.proofs.HexLemmas.{decode_of-ok}
use Rattle.elide_checks.proofs.bytes.decode.Goals as goal

pub returns-then-digits-count : goal.returns-then-digits-count
returns-then-digits-count c = λ bytes good same.
    let twice = (decode_of-ok (trim c.args.digits.now) bytes good).2 in
    omega (
      arith,
      twice,
      same,
      ap length c.trim.ensures.trim,
      ap length c.as_bytes-digits.ensures.value,
      c.if-digits-count.true,
    )
