use Rattle.std.proofs.Common.{◌∙◌, ◌≡◌, ap, inl, length, refl, rules, subst, sym}
use Rattle.tm_pick.specs.Kinds.{IsOfKinds}
use Rattle.tm_pick.specs.declared.kinds.Kinds.{Kinds}
use Rattle.tm_hunt.specs.Runs.{last_core, none_made, one_more}
use Rattle.tm_hunt.proofs.Left.{has_ended}
use Rattle.tm_hunt.proofs.Passing.{last_is, next_of}
use Rattle.tm_hunt.proofs.Told.{none_made as none_told}
use Rattle.tm_hunt.proofs.one_run.step_all.Goals as goal

pub steps-init : goal.steps-init
steps-init g c = record {
  same = record { program = refl; limits = refl; limit = refl };
  left = c.all_cores-going.ensures;
  last = sym (ap (last_core 0) c.requires.new);
  made = none_made c.requires.new;
  same_kinds = refl;
  kinds = none_told (g.S.StepSource.kinds c.args.source.now) c.args.board.now c.requires.new;
}

-- each core has stopped
pub returns-then-is_empty-clause-over : goal.returns-then-is_empty-clause-over
returns-then-is_empty-clause-over g c =
    let none : length c.steps.going ≡ 0 = search rules in
    inl (inl (has_ended c.steps.board c.steps.going c.steps.invariant.left none))

-- a check is violated
pub returns-then-is_violated-clause-steps : goal.returns-then-is_violated-clause-steps
returns-then-is_violated-clause-steps g c =
    let before = c.steps.invariant in
    let step = c.step_one-outcome.ensures.step in
    record {
      last = c.next_step-pick.new.self;
      made =
          one_more before.made
          (next_of g.S.StepSource.picks c.steps.source c.next_step-pick.new.self c.steps.board
          c.step_one-outcome.new.board c.machine.result.now c.steps.last
          c.steps.going c.next_step-pick.result c.machine.ensures before.last before.left
          c.next_step-pick.ensures.picked step);
      kinds =
          c.step_one-outcome.ensures.kinds (g.S.StepSource.kinds c.args.source.now)
          (subst (λ (kinds : Kinds). IsOfKinds kinds c.next_step-pick.result.event) before.same_kinds
          c.next_step-pick.ensures.event) before.kinds;
    }

pub steps-preserved : goal.steps-preserved
steps-preserved g c =
    let before = c.steps.invariant in
    let step = c.step_one-outcome.ensures.step in
    record {
      same = record {
        program = step.same.program ∙ before.same.program;
        limits = step.same.limits ∙ before.same.limits;
        limit = step.same.limit ∙ before.same.limit;
      };
      left = c.step_one-outcome.ensures.left;
      last = last_is c.next_step-pick.result c.steps.board c.step_one-outcome.new.board step;
      made =
          one_more before.made
          (next_of g.S.StepSource.picks c.steps.source c.next_step-pick.new.self c.steps.board
          c.step_one-outcome.new.board c.machine.result.now c.steps.last
          c.steps.going c.next_step-pick.result c.machine.ensures before.last before.left
          c.next_step-pick.ensures.picked step);
      same_kinds = c.next_step-pick.ensures.same ∙ before.same_kinds;
      kinds =
          c.step_one-outcome.ensures.kinds (g.S.StepSource.kinds c.args.source.now)
          (subst (λ (kinds : Kinds). IsOfKinds kinds c.next_step-pick.result.event) before.same_kinds
          c.next_step-pick.ensures.event) before.kinds;
    }
