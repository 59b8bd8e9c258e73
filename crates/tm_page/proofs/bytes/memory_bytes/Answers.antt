use Rattle.std.proofs.Common.{◌<◌, ◌≤◌, Some, None, cond, get_or, length, ap, ◌∙◌}
use Rattle.std.proofs.Common.{arith}
use Rattle.std.proofs.lemmas.List.{take_all}
use Rattle.tm_page.proofs.Lists.{bytes_next}
use Rattle.tm_page.specs.Applied.{is_listed}
use Rattle.tm_page.proofs.bytes.memory_bytes.Goals as goal

pub loop-index-preserved : goal.loop-index-preserved
loop-index-preserved c =
    let within : c.loop-index.index < length c.args.addresses.now =
    omega (arith, c.loop-index.invariant.end, c.loop-index-test.true) in
    record {
      end = c.loop-index.invariant.end;
      told = bytes_next (λ at. get_or c.args.memory.now at 0) (length c.args.memory.now) c.loop-index.bytes.items
          c.put_byte.new.bytes.items
          c.args.addresses.now c.loop-index.index within c.loop-index.invariant.told c.in_ok-put_byte.ensures;
    }

pub returns : goal.returns
returns c = λ at within.
    let past : length c.args.addresses.now ≤ c.loop-index.index =
    omega (arith, c.loop-index.invariant.end, c.loop-index-test.false) in
    c.loop-index.invariant.told at within
    ∙ ap (λ xs. cond (is_listed xs at) (Some (get_or c.args.memory.now at 0)) None)
    (take_all c.loop-index.index c.args.addresses.now past)
