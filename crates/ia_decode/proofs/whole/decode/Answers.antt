use Rattle.std.proofs.Common.{arith}
use Rattle.ia_insn.proofs.Decodes.{found, only, short, lock, other, fits, lengths}
use Rattle.ia_decode.proofs.whole.decode.Goals as goal

pub returns-clause-found : goal.returns-clause-found
returns-clause-found c =
    found c.args.bytes.now c.measured.result (λ i. omega (arith, c.type_inv.bytes i)) c.measured.ensures

pub returns-clause-only : goal.returns-clause-only
returns-clause-only c = only c.args.bytes.now c.measured.result c.measured.ensures

pub returns-clause-short : goal.returns-clause-short
returns-clause-short c =
    short c.args.bytes.now c.measured.result (λ i. omega (arith, c.type_inv.bytes i)) c.measured.ensures

pub returns-clause-lock : goal.returns-clause-lock
returns-clause-lock c =
    lock c.args.bytes.now c.measured.result (λ i. omega (arith, c.type_inv.bytes i)) c.measured.ensures

pub returns-clause-other : goal.returns-clause-other
returns-clause-other c =
    other c.args.bytes.now c.measured.result (λ i. omega (arith, c.type_inv.bytes i)) c.measured.ensures

pub returns-clause-encodable : goal.returns-clause-encodable
returns-clause-encodable c =
    fits c.args.bytes.now c.measured.result (λ i. omega (arith, c.type_inv.bytes i)) c.measured.ensures

pub returns-clause-length : goal.returns-clause-length
returns-clause-length c =
    lengths c.args.bytes.now c.measured.result (λ i. omega (arith, c.type_inv.bytes i)) c.measured.ensures
