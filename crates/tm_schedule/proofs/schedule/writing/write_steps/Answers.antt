use Rattle.std.proofs.Common.{◌≡◌, ◌∷◌, ◌∙◌, [], List, ap, arith, length, refl, rules}
use Rattle.tm_model.specs.declared.outcome.Pick.{Pick}
use Rattle.tm_schedule.specs.ScheduleWriting.{left_text}
use Rattle.tm_schedule.proofs.RunsWritten.{step_stopped, step_written, steps_ended}
use Rattle.tm_schedule.proofs.schedule.writing.write_steps.Goals as goal

none_left : (picks : List Pick) → length picks ≡ 0 → picks ≡ []
none_left [] h = refl
none_left (pick ∷ picks) h = absurd (omega arith)

pub returns-in_err-add : goal.returns-in_err-add
returns-in_err-add g c =
    let first = c.in-Some.ensures.cases in
    let same : c.picks.left.now ≡ c.in-Some.pick.now ∷ c.in-Some.rest.now = search (rules, first) in
    step_stopped (left_text c.add.new.self c.in-Some.rest.now) c.from_residual.result (search rules)
    (ap (left_text c.picks.writer) same ∙ c.in_err-add.ensures.1 c.in-Some.rest.now) c.picks.invariant
    c.in_err-add.ensures.2

pub picks-preserved : goal.picks-preserved
picks-preserved g c =
    let first = c.in-Some.ensures.cases in
    let same : c.picks.left.now ≡ c.in-Some.pick.now ∷ c.in-Some.rest.now = search (rules, first) in
    step_written (ap (left_text c.picks.writer) same ∙ c.in_ok-add.ensures.1 c.in-Some.rest.now) c.picks.invariant
    c.in_ok-add.ensures.2

pub returns : goal.returns
returns g c =
    let none : c.picks.left.now ≡ [] = none_left c.picks.left.now c.in_default.ensures.cases in
    steps_ended (g.O.Out.device c.finish.new.out) c.finish.result (ap (left_text c.picks.writer) none) c.picks.invariant
    c.finish.ensures
