use Rattle.std.proofs.Common.{◌≡◌, ℕ, None, Option, rules}
use Rattle.tm_model.specs.declared.explain.Hit.{Hit}
use Rattle.tm_why.specs.Said.{IsSaidOfDrain}
use Rattle.tm_why.proofs.FilledRows.{each_next}
use Rattle.tm_why.proofs.asked.put_drain_hits.Goals as goal

pub loop-victim-preserved : goal.loop-victim-preserved
loop-victim-preserved c = record {
  len = search rules;
  said = each_next
      (λ (other : ℕ) (told : Option Hit). (other ≡ c.args.core → ⊥) →
      IsSaidOfDrain c.args.machine.now c.args.core other told)
      c.loop-victim.hits c.loop-victim.victim c.unwrap-hit.result None (search rules) c.loop-victim.invariant.said
      (search rules);
  own = search rules;
  rest = search rules;
  most = search rules;
  none = search rules;
}
