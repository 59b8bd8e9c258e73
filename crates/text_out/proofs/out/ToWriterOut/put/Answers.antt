use Rattle.std.proofs.Common.{arith, drop, length, take, ◌<◌, ◌≤◌, sym}
use Rattle.std.proofs.lemmas.List.{take-append-drop}
use Rattle.text_out.proofs.Writing.{appends_stay, appends_more, rose_counted, rest_is, rest_long}
use Rattle.text_out.proofs.out.ToWriterOut.put.Goals as goal

pub returns-then-count-eq0 : goal.returns-then-count-eq0
returns-then-count-eq0 g c =
    let fits : c.args.self.now.failures < 18446744073709551616 = omega arith in
    record {
      bytes = (
        take c.pieces.at c.args.bytes.now,
        drop c.pieces.at c.args.bytes.now,
        sym (take-append-drop c.pieces.at c.args.bytes.now),
        appends_stay _ _ _ _ _ c.write_some-count.result c.if-count-eq0.true c.pieces.invariant.1
            c.write_some-count.ensures.written,
      );
      failures = rose_counted c.args.self.now.failures c.pieces.self.failures c.saturating_add-self.result (omega arith)
          c.pieces.invariant.2 c.saturating_add-self.ensures;
    }

pub pieces-preserved : goal.pieces-preserved
pieces-preserved g c =
    let within : c.pieces.at ≤ length c.args.bytes.now = omega arith in
    let rest = rest_is c.args.bytes.now c.pieces.at within in
    let long = rest_long c.args.bytes.now c.pieces.at within in (
      omega (arith, c.write_some-count.ensures.within),
      appends_more _ _ _ c.args.bytes.now _ c.pieces.at c.write_some-count.result rest c.pieces.invariant.1
          c.write_some-count.ensures.written,
      c.pieces.invariant.2,
    )
