use Rattle.std.proofs.Common.{◌≡◌, rules, subst}
use Rattle.std.specs.Prelude.{IfSome, Option}
use Rattle.tm_model.specs.declared.explain.AbortReason.{AbortReason}
use Rattle.elide_stats.specs.Causes.{cause_for}
use Rattle.elide_stats.proofs.asked.Asked.before.Goals as goal

pub returns : goal.returns
returns c = record {
  place = search rules;
  cause = λ inside state doomed stands.
      subst (λ (reason : Option AbortReason). IfSome reason (λ why. c.cause_of.result ≡ cause_for why))
      (c.requires.reason state doomed stands) c.cause_of.ensures;
  reads = search rules;
  writes = search rules;
}
