use Rattle.std.proofs.Common.{◌<◌, refl, arith}
use Rattle.std.proofs.lemmas.Bool.{false≢true}
use Rattle.tm_outcomes.proofs.place.Place.has_waiting.Goals as goal

pub returns-then-is_waiting : goal.returns-then-is_waiting
returns-then-is_waiting c = λ now stands.
    let below = c.loop-core-test.true in (
      λ _. (
        c.loop-core.core,
        (let e = stands.same_count in let f = c.cores-core-end.ensures.count in omega arith),
        (c.is_waiting.ensures now stands).0 c.if-is_waiting.true,
      ),
      λ _. refl,
    )

pub returns : goal.returns
returns c = λ now stands. (
  λ no. absurd (false≢true no),
  λ waits.
      let within : waits.0 < c.loop-core.core =
      (let b = waits.1 in let e = stands.same_count in let f = c.cores-core-end.ensures.count in
      let g = c.loop-core-test.false in omega arith) in
      absurd (c.loop-core.invariant waits.0 within now stands waits.2),
)
