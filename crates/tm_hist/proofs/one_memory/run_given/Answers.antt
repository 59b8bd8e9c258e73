use Rattle.std.proofs.Common.{◌∙◌, ap, get_or, map, sym}
use Rattle.std.proofs.lemmas.Option.{slice_get-get_or}
use Rattle.std.specs.Prelude.{ℕ}
use Rattle.tm_model.specs.declared.outcome.Outcome.{Outcome}
use Rattle.tm_model.specs.declared.outcome.Outcome.TheVariants.{Plain}
use Rattle.tm_hist.specs.Serial.{core_of, flat_setting, list_step}
use Rattle.tm_hist.proofs.Runs.{run_at}
use Rattle.tm_hist.proofs.one_memory.run_given.Goals as goal

pub returns-then-not-step-clause-err : goal.returns-then-not-step-clause-err
returns-then-not-step-clause-err c =
    let k = flat_setting c.args.listing.now.code c.args.size in
    let pair = get_or c.args.pairs.now c.pairs.index (0, Plain) in
    record {
      within = c.pairs-test.true;
      before = (c.pairs.memory, map core_of c.pairs.cores);
      ran = c.pairs.invariant.0;
      stuck = run_at k c.args.memory.now c.pairs.memory (map core_of c.args.cores.now) (map core_of c.pairs.cores)
          c.args.pairs.now c.pairs.index pair
          (slice_get-get_or c.args.pairs.now c.pairs.index (0, Plain) c.pairs-test.true) c.pairs.invariant.0
          ∙ ap (λ (q : ℕ × Outcome). list_step k c.pairs.memory (map core_of c.pairs.cores) q.0 q.1) (sym c.new.ensures)
          ∙ c.if-not-step.ensures.step;
    }

pub pairs-preserved : goal.pairs-preserved
pairs-preserved c =
    let k = flat_setting c.args.listing.now.code c.args.size in
    let pair = get_or c.args.pairs.now c.pairs.index (0, Plain) in (
      run_at k c.args.memory.now c.pairs.memory (map core_of c.args.cores.now) (map core_of c.pairs.cores)
          c.args.pairs.now c.pairs.index pair
          (slice_get-get_or c.args.pairs.now c.pairs.index (0, Plain) c.pairs-test.true) c.pairs.invariant.0
          ∙ ap (λ (q : ℕ × Outcome). list_step k c.pairs.memory (map core_of c.pairs.cores) q.0 q.1) (sym c.new.ensures)
          ∙ c.if-not-step.ensures.step,
      c.step.ensures.growth c.pairs.index c.pairs.invariant.1,
    )
