use Rattle.std.proofs.Common.{◌<◌, ◌≤◌, Some, None, cond, length, ap, ◌∙◌}
use Rattle.std.proofs.Common.{arith}
use Rattle.std.proofs.lemmas.List.{take_all}
use Rattle.tm_core.specs.Seen.{byte_seen}
use Rattle.tm_page.proofs.Lists.{bytes_next}
use Rattle.tm_page.specs.Applied.{is_listed}
use Rattle.tm_page.proofs.bytes.seen_bytes.Goals as goal

pub loop-index-preserved : goal.loop-index-preserved
loop-index-preserved c =
    let within : c.loop-index.index < length c.args.addresses.now =
    omega (arith, c.loop-index.invariant.end, c.loop-index-test.true) in
    record {
      end = c.loop-index.invariant.end;
      told = bytes_next (byte_seen c.args.machine.now c.args.core) (length c.args.machine.now.memory)
          c.loop-index.bytes.items c.put_seen.new.bytes.items
          c.args.addresses.now c.loop-index.index within c.loop-index.invariant.told c.in_ok-put_seen.ensures;
    }

pub returns : goal.returns
returns c = λ at within.
    let past : length c.args.addresses.now ≤ c.loop-index.index =
    omega (arith, c.loop-index.invariant.end, c.loop-index-test.false) in
    c.loop-index.invariant.told at within
    ∙ ap (λ xs. cond (is_listed xs at) (Some (byte_seen c.args.machine.now c.args.core at)) None)
    (take_all c.loop-index.index c.args.addresses.now past)
