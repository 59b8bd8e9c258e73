use Rattle.std.proofs.Common.{ℕ, Option, subst}
use Rattle.std.proofs.lemmas.Bool.{ne_eqb}
use Rattle.tm_debug.proofs.Bytewise.{ReadsByte, read_end, read_fails, read_feed, reading_more}
use Rattle.tm_debug.proofs.Parts.{on_err}
use Rattle.tm_debug.proofs.line.read_line.Goals as goal

pub returns-in-None-found-clause-line : goal.returns-in-None-found-clause-line
returns-in-None-found-clause-line g c =
    read_end c.at_end.result c.bytes.invariant.2
    (subst (λ (o : Option ℕ). ReadsByte (g.I.In.remaining c.bytes.input) (g.I.In.remaining c.next_byte.new.input) o)
    c.in-None-found.is c.in_ok-found.ensures.byte) c.at_end.ensures

pub returns-then-byte-eq10-clause-line : goal.returns-then-byte-eq10-clause-line
returns-then-byte-eq10-clause-line g c =
    read_feed c.in-Some-found.byte c.at_feed.result c.if-byte-eq10.true c.bytes.invariant.2
    (subst (λ (o : Option ℕ). ReadsByte (g.I.In.remaining c.bytes.input) (g.I.In.remaining c.next_byte.new.input) o)
    c.in-Some-found.is c.in_ok-found.ensures.byte) c.at_feed.ensures

pub bytes-preserved : goal.bytes-preserved
bytes-preserved g c = (
  tt,
  tt,
  reading_more c.in-Some-found.byte (ne_eqb c.in-Some-found.byte 10 c.if-byte-eq10.false) c.bytes.invariant.2
      (subst (λ (o : Option ℕ). ReadsByte (g.I.In.remaining c.bytes.input) (g.I.In.remaining c.next_byte.new.input) o)
      c.in-Some-found.is c.in_ok-found.ensures.byte) c.in_ok-found.ensures.kept c.add.ensures,
)

pub returns-in_err-found-clause-begun : goal.returns-in_err-found-clause-begun
returns-in_err-found-clause-begun g c =
    on_err c.from_residual.result _ (read_fails c.bytes.invariant.2 c.in_err-found.ensures.stays)
