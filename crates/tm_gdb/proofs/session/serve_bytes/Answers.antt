use Rattle.std.proofs.Common.{◌≡◌, ℕ, true, false, Option, Some, None, rules, subst}
use Rattle.tm_gdb.specs.States.{session_value}
use Rattle.tm_gdb.proofs.Served.{ReadsByte, fails_to_read, same_board, serves_end, serves_last, serving_more}
use Rattle.tm_gdb.proofs.Served.{serving_new}
use Rattle.tm_gdb.proofs.Served.{then_same}
use Rattle.tm_gdb.proofs.session.serve_bytes.Goals as goal

pub bytes-init : goal.bytes-init
bytes-init g c = (
  tt,
  tt,
  same_board c.args.session.now.target.board,
  serving_new (g.I.In.remaining c.args.input.now) (g.I.In.failed c.args.input.now) c.args.session.now.reader
      (session_value c.args.session.now) (g.O.Out.device c.args.out.now) c.requires,
)

pub returns-in_err-found-clause-read_packets : goal.returns-in_err-found-clause-read_packets
returns-in_err-found-clause-read_packets g c e =
    fails_to_read c.bytes.session.reader (session_value c.args.session.now) (session_value c.bytes.session)
    c.bytes.invariant.3 c.in_err-found.ensures.stays

pub returns-in-None-found-clause-ok : goal.returns-in-None-found-clause-ok
returns-in-None-found-clause-ok g c =
    let reads = subst (λ (byte : Option ℕ). ReadsByte (g.I.In.remaining c.bytes.input)
    (g.I.In.remaining c.next_byte.new.input) byte) c.in-None-found.is c.in_ok-found.ensures.byte in
    serves_end c.bytes.session.reader (session_value c.args.session.now) (session_value c.bytes.session)
    c.bytes.invariant.3 reads

pub returns-then-not-goes_on-clause-ok : goal.returns-then-not-goes_on-clause-ok
returns-then-not-goes_on-clause-ok g c =
    let reads = subst (λ (byte : Option ℕ). ReadsByte (g.I.In.remaining c.bytes.input)
    (g.I.In.remaining c.next_byte.new.input) byte) c.in-Some-found.is c.in_ok-found.ensures.byte in
    let ends : c.in_ok-goes_on.goes_on ≡ false = search rules in
    serves_last c.bytes.session.reader c.hear.new.self.reader (session_value c.args.session.now)
    (session_value c.bytes.session) (session_value c.hear.new.self) (g.O.Out.device c.hear.new.out)
    c.in-Some-found.byte c.in_ok-goes_on.goes_on c.bytes.invariant.3 reads c.in_ok-goes_on.ensures.heard ends

pub bytes-preserved : goal.bytes-preserved
bytes-preserved g c =
    let reads = subst (λ (byte : Option ℕ). ReadsByte (g.I.In.remaining c.bytes.input)
    (g.I.In.remaining c.next_byte.new.input) byte) c.in-Some-found.is c.in_ok-found.ensures.byte in
    let on : c.in_ok-goes_on.goes_on ≡ true = search rules in (
      tt,
      tt,
      then_same c.bytes.invariant.2 c.hear.ensures.answering.same,
      serving_more c.bytes.session.reader c.hear.new.self.reader (session_value c.args.session.now)
          (session_value c.bytes.session) (session_value c.hear.new.self) (g.O.Out.device c.hear.new.out)
          c.in-Some-found.byte c.in_ok-goes_on.goes_on c.bytes.invariant.3 reads c.in_ok-found.ensures.kept
          c.in_ok-goes_on.ensures.heard on,
    )
