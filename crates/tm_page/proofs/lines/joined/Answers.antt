use Rattle.std.proofs.Common.{◌<◌, ◌≤◌, ◌&&◌, not, length, ap, ◌∙◌}
use Rattle.std.proofs.Common.{arith}
use Rattle.std.proofs.lemmas.List.{take_all}
use Rattle.tm_page.proofs.Lists.{lines_next}
use Rattle.tm_page.specs.Applied.{is_listed}
use Rattle.tm_page.proofs.lines.joined.Goals as goal

pub loop-index-preserved : goal.loop-index-preserved
loop-index-preserved c =
    let within : c.loop-index.index < length c.args.new.now =
    omega (arith, c.loop-index.invariant.end, c.loop-index-test.true) in
    record {
      end = c.loop-index.invariant.end;
      told = lines_next c.loop-index.lines.items c.join.new.lines.items c.args.old.now c.args.new.now
          c.loop-index.index within
          c.loop-index.invariant.told c.in_ok-place.ensures;
    }

pub returns : goal.returns
returns c = λ line.
    let past : length c.args.new.now ≤ c.loop-index.index =
    omega (arith, c.loop-index.invariant.end, c.loop-index-test.false) in
    c.loop-index.invariant.told line
    ∙ ap (λ xs. is_listed xs line && not (is_listed c.args.old.now line))
    (take_all c.loop-index.index c.args.new.now past)
