use Rattle.tm_outcomes.proofs.bench.Bench.come_to.Goals as goal

pub returns-clause-bench : goal.returns-clause-bench
returns-clause-bench c = record {
  start = c.in_ok-place_of.ensures.place;
  at = (c.requires.within, c.in_ok-place_of.ensures.ok);
  here = c.requires.bench.here;
  other = c.requires.bench.other;
  written = c.requires.bench.written;
}
