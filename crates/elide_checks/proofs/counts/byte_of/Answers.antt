use Rattle.elide_checks.proofs.Digits.{no_byte, not_decoded}
use Rattle.elide_checks.proofs.counts.byte_of.Goals as goal

pub returns-in-Err : goal.returns-in-Err
returns-in-Err c =
    no_byte c.args.digits.now (not_decoded c.args.digits.now _ 1 _ _ _ c.decode_to_slice.ensures.value c.in-Err.is)
