use Rattle.std.proofs.Common.{◌<◌, refl, sym, ◌∙◌, arith}
use Rattle.std.proofs.lemmas.Bool.{false≢true}
use Rattle.tm_core.specs.Theorem.{machine_setting, view_at}
use Rattle.tm_model.specs.State.{seen_by}
use Rattle.tm_outcomes.proofs.Shown.{halted_is, stopped_is}
use Rattle.tm_outcomes.proofs.place.Place.has_ended.Goals as goal

pub returns-then-not-has_stopped : goal.returns-then-not-has_stopped
returns-then-not-has_stopped c = λ now stands.
    let machine = c.args.self.now.machine in
    let core = c.loop-core.core in
    let below = c.loop-core-test.true in (
      λ no. absurd (false≢true no),
      λ ended.
          let halted =
          ended core (let e = stands.same_count in let f = c.cores-core-end.ensures.count in omega arith) in
          let is_stopped =
          stopped_is (machine_setting machine) (seen_by now.state core) (now.state.cores core) (now.doomed core)
          (view_at machine core) (stands.each core (let f = c.cores-core-end.ensures.count in omega arith)) halted in
          absurd (false≢true (sym c.if-not-has_stopped.true ∙ (c.has_stopped.ensures ∙ is_stopped))),
    )

pub returns : goal.returns
returns c = λ now stands.
    let machine = c.args.self.now.machine in (
      λ _ core below.
          let within : core < c.loop-core.core =
          (let e = stands.same_count in let f = c.cores-core-end.ensures.count in
          let g = c.loop-core-test.false in omega arith) in
          halted_is (machine_setting machine) (seen_by now.state core) (now.state.cores core) (now.doomed core)
          (view_at machine core)
          (stands.each core (let e = stands.same_count in omega arith)) (c.loop-core.invariant core within),
      λ _. refl,
    )
