use Rattle.std.proofs.Common.{◌<◌, refl, arith}
use Rattle.std.proofs.lemmas.Bool.{false≢true}
use Rattle.tm_core.specs.Theorem.{machine_setting, view_at}
use Rattle.tm_model.specs.State.{seen_by}
use Rattle.tm_outcomes.proofs.Shown.{by_stop, stopped_by}
use Rattle.tm_outcomes.proofs.place.Place.stops_by.Goals as goal

pub returns-then-has_stopped_by : goal.returns-then-has_stopped_by
returns-then-has_stopped_by c = λ now stands.
    let machine = c.args.self.now.machine in
    let core = c.loop-core.core in
    let below = c.loop-core-test.true in (
      λ _. (
        core,
        (let e = stands.same_count in let f = c.cores-core-end.ensures.count in omega arith),
        stopped_by (machine_setting machine) (seen_by now.state core) (now.state.cores core) (now.doomed core)
            (view_at machine core) c.args.why
            (stands.each core (let f = c.cores-core-end.ensures.count in omega arith))
            (c.has_stopped_by.ensures.0 c.if-has_stopped_by.true),
      ),
      λ _. refl,
    )

pub returns : goal.returns
returns c = λ now stands.
    let machine = c.args.self.now.machine in (
      λ no. absurd (false≢true no),
      λ stops.
          let core = stops.0 in
          let within : core < c.loop-core.core =
          (let b = stops.1 in let e = stands.same_count in let f = c.cores-core-end.ensures.count in
          let g = c.loop-core-test.false in omega arith) in
          absurd (c.loop-core.invariant core within
          (by_stop (machine_setting machine) (seen_by now.state core) (now.state.cores core) (now.doomed core)
          (view_at machine core) c.args.why
          (stands.each core (let b = stops.1 in let e = stands.same_count in omega arith)) stops.2)),
    )
