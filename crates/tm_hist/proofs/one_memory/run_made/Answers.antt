use Rattle.std.proofs.Common.{◌∙◌, get_or, map, refl, arith}
use Rattle.std.proofs.lemmas.List.{length-map}
use Rattle.tm_hist.specs.History.{pair_of}
use Rattle.tm_hist.specs.Serial.{core_of, flat_setting}
use Rattle.tm_hist.proofs.Runs.{kept_at, no_pair, run_at}
use Rattle.tm_hist.proofs.one_memory.run_made.Goals as goal

pub returns-then-not-step-clause-err : goal.returns-then-not-step-clause-err
returns-then-not-step-clause-err c =
    let k = flat_setting c.args.listing.now.code c.args.size in
    let pair = get_or c.args.pairs.now c.pairs.index no_pair in
    let size = length-map c.args.pairs.now pair_of in
    record {
      within = omega arith;
      before = (c.pairs.memory, map core_of c.pairs.cores);
      ran = c.pairs.invariant.0;
      stuck = run_at k c.args.memory.now c.pairs.memory (map core_of c.args.cores.now) (map core_of c.pairs.cores)
          (map pair_of c.args.pairs.now) c.pairs.index (pair_of pair)
          (kept_at c.args.pairs.now c.pairs.index pair no_pair c.pairs-test.true refl) c.pairs.invariant.0
          ∙ c.if-not-step.ensures.step;
    }

pub pairs-preserved : goal.pairs-preserved
pairs-preserved c =
    let k = flat_setting c.args.listing.now.code c.args.size in
    let pair = get_or c.args.pairs.now c.pairs.index no_pair in (
      run_at k c.args.memory.now c.pairs.memory (map core_of c.args.cores.now) (map core_of c.pairs.cores)
          (map pair_of c.args.pairs.now) c.pairs.index (pair_of pair)
          (kept_at c.args.pairs.now c.pairs.index pair no_pair c.pairs-test.true refl) c.pairs.invariant.0
          ∙ c.if-not-step.ensures.step,
      c.step.ensures.growth c.pairs.index c.pairs.invariant.1,
    )
