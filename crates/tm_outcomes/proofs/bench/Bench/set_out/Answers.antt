use Rattle.std.proofs.Common.{◌∙◌, sym}
use Rattle.tm_outcomes.specs.Nodes.{schedule_at}
use Rattle.tm_outcomes.proofs.bench.Bench.set_out.Goals as goal

pub copy-requires-clause-same : goal.copy-requires-clause-same
copy-requires-clause-same c =
    let start = c.requires.bench.start.place in
    let here = c.requires.bench.here.place in
    record { rules = start.rules ∙ sym here.rules; cores = start.count ∙ sym here.count }

pub copy-requires-clause-memory : goal.copy-requires-clause-memory
copy-requires-clause-memory c = c.requires.bench.here.memory

pub copy-requires-clause-others : goal.copy-requires-clause-others
copy-requires-clause-others c = c.requires.bench.start.memory

pub returns-then-copy-clause-bench : goal.returns-then-copy-clause-bench
returns-then-copy-clause-bench c =
    let bench = c.requires.bench in
    record {
      start = bench.start;
      at = bench.at;
      here = c.copy.ensures.place c.args.task.now.trial bench.here bench.start;
      other = bench.other;
      written = bench.written;
    }

pub returns-then-copy-clause-here : goal.returns-then-copy-clause-here
returns-then-copy-clause-here c = λ schedules tree.
    c.copy.ensures.at c.if-copy.true c.args.task.now.trial (schedule_at schedules c.args.index)
    (c.requires.start schedules tree)

pub place_of-requires-clause-place : goal.place_of-requires-clause-place
place_of-requires-clause-place c =
    c.copy.ensures.place c.args.task.now.trial c.requires.bench.here c.requires.bench.start

pub returns-clause-bench : goal.returns-clause-bench
returns-clause-bench c =
    let bench = c.requires.bench in
    record {
      start = bench.start;
      at = bench.at;
      here = c.in_ok-place_of.ensures.place;
      other = bench.other;
      written = bench.written;
    }
