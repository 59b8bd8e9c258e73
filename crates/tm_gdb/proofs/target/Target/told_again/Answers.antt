use Rattle.tm_gdb.proofs.target.Target.told_again.Goals as goal

pub returns-clause-again : goal.returns-clause-again
returns-clause-again c = record {
  outcome = c.requires.own.0;
  own = c.requires.own.1;
  before_is = c.requires.so_far;
  after_is = c.step_again.ensures;
  before_law = c.requires.before;
  after_law = c.is_run.ensures;
}
