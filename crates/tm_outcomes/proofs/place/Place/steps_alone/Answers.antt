use Rattle.std.proofs.Common.{◌≡◌, ◌++◌, ℕ, List, replicate, sym, ap, ◌∙◌, subst, arith, append_assoc}
use Rattle.std.proofs.lemmas.List.{append-nil, replicate-append-replicate}
use Rattle.tm_model.specs.declared.outcome.Pick.{Pick}
use Rattle.tm_outcomes.specs.Places.{IsAt, alone}
use Rattle.tm_outcomes.proofs.place.Place.steps_alone.Goals as goal

pub steps-init : goal.steps-init
steps-init c = record {
  few = omega arith;
  place = c.requires.place;
  at = λ schedule at. subst (λ (s : List Pick). IsAt c.args.trial.now c.args.self.now s) (sym (append-nil schedule)) at;
}

pub steps-preserved : goal.steps-preserved
steps-preserved c =
    let trial = c.args.trial.now in
    let core = c.args.core in
    let so_far = c.steps.invariant in
    let next = c.some_alone-made.ensures in
    let more = c.some_alone-made.result in
    record {
      few = (let most = next.most in let few = so_far.few in omega arith);
      place = next.place;
      at = λ schedule at.
          subst (λ (s : List Pick). IsAt trial c.some_alone-made.new.self s)
          (append_assoc schedule (replicate c.steps.made (alone core)) (replicate more (alone core))
          ∙ ap (λ (s : List Pick). schedule ++ s) (replicate-append-replicate c.steps.made more (alone core)))
          (next.at (schedule ++ replicate c.steps.made (alone core)) (so_far.at schedule at));
    }

pub returns-clause-at : goal.returns-clause-at
returns-clause-at c = λ schedule at.
    let all : c.steps.made ≡ c.args.count =
    (let few = c.steps.invariant.few in let done = c.steps-test.false in omega arith) in
    subst (λ (n : ℕ). IsAt c.args.trial.now c.steps.self (schedule ++ replicate n (alone c.args.core))) all
    (c.steps.invariant.at schedule at)
