use Rattle.std.proofs.Common.{arith}
use Rattle.tm_hunt.proofs.Loads.{reached_first, reached_more}
use Rattle.tm_hunt.specs.Delays.{with_stores}
use Rattle.tm_hunt.proofs.plain_stores.finds_pending.Goals as goal

pub steps-init : goal.steps-init
steps-init c = reached_first (with_stores 1 c.args.trial.now) c.in-Ok.machine c.in-Ok.ensures.ok c.in-Ok.ensures.opening

pub steps-preserved : goal.steps-preserved
steps-preserved c =
    reached_more (with_stores 1 c.args.trial.now) c.steps.machine c.step.new.self c.steps.core c.in-Ok-step.outcome
    c.steps.invariant c.in-Ok-step.ensures.run

pub returns-then-pending_count-gt0 : goal.returns-then-pending_count-gt0
returns-then-pending_count-gt0 c = λ _.
    record {
      machine = c.step.new.self;
      reached = reached_more (with_stores 1 c.args.trial.now) c.steps.machine c.step.new.self c.steps.core
          c.in-Ok-step.outcome c.steps.invariant c.in-Ok-step.ensures.run;
      core = c.steps.core;
      some = (let most = c.pending_count.ensures.most in omega arith);
    }
