use Rattle.std.proofs.Common.{inl, inr, arith}
use Rattle.std.proofs.lemmas.Bool.{cases_lt}
use Rattle.tm_outcomes.proofs.Stopping.{told_at}
use Rattle.tm_outcomes.proofs.stops.take_up_stops.Goals as goal

pub loop-why-preserved : goal.loop-why-preserved
loop-why-preserved c =
    let so_far = c.loop-why.invariant in
    let stops = c.args.task.now.trial.stops.now in
    record {
      stops = c.in_ok-take_up_stop.ensures.stops;
      kept = λ why told. c.in_ok-take_up_stop.ensures.kept why (so_far.kept why told);
      found = λ index why below is now stands stopped. elim (cases_lt index c.loop-why.why-index) [
        | inl less ↦ c.in_ok-take_up_stop.ensures.kept why (so_far.found index why less is now stands stopped)
        | inr more ↦
            told_at stops c.take_up_stop.new.stops.items now.state index c.loop-why.why-index _ why (omega arith)
            c.loop-why-test.true is stopped (c.in_ok-take_up_stop.ensures.found now stands)
      ];
    }

pub returns-clause-found : goal.returns-clause-found
returns-clause-found c = λ why asked now stands stopped.
    c.loop-why.invariant.found asked.0 why (let within = asked.1 in omega arith) asked.2 now stands stopped
