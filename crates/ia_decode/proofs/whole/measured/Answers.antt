use Rattle.std.proofs.Common.{arith}
use Rattle.ia_insn.proofs.Decodes.{left}
use Rattle.ia_decode.proofs.whole.measured.Goals as goal

pub overflow_sub-result : goal.overflow_sub-result
overflow_sub-result c =
    omega (
      arith,
      left c.args.bytes.now c.in_ok-found.found c.in_ok-found.rest.now (λ i. omega (arith, c.type_inv.bytes i))
          c.in_ok-found.ensures,
    )

pub overflow_cast-result : goal.overflow_cast-result
overflow_cast-result c =
    omega (
      arith,
      left c.args.bytes.now c.in_ok-found.found c.in_ok-found.rest.now (λ i. omega (arith, c.type_inv.bytes i))
          c.in_ok-found.ensures,
    )
