use Rattle.std.proofs.Common.{◌∙◌, inl, inr, sym}
use Rattle.tm_debug.proofs.Parts.{on_err, run_ended, step_broken, steps_more}
use Rattle.tm_debug.specs.Session.{value_of}
use Rattle.tm_debug.proofs.run.run_steps.Goals as goal

pub returns-in_err-go-in-Go-clause-err : goal.returns-in_err-go-in-Go-clause-err
returns-in_err-go-in-Go-clause-err g c =
    on_err c.from_residual.result _
    (step_broken c.args.way c.args.count c.steps.done (value_of c.args.state.now) (value_of c.steps.state)
    (value_of c.go.new.state) c.in-Go.pick c.steps-test.true
    (sym c.check_run-check.ensures.check ∙ c.in-Go.is) c.steps.invariant c.in_err-go-in-Go.ensures)

pub returns-in-AllStopped : goal.returns-in-AllStopped
returns-in-AllStopped g c =
    let ends = run_ended (g.O.Out.device c.args.out.now) (g.O.Out.device c.steps.out) (g.O.Out.device c.end_run.new.out)
    c.args.way c.args.count c.steps.done (value_of c.args.state.now) (value_of c.steps.state)
    c.check_run-check.result c.end_run.result c.steps-test.true c.check_run-check.ensures.check
    (λ pick go. elim c.in-AllStopped.is [
      | inl e ↦ cc
      | inr t ↦ elim t [
        | inl e ↦ cc
        | inr u ↦ elim u [ inl e ↦ cc | inr v ↦ elim v [ inl e ↦ let h = e.1 in cc | inr e ↦ let h = e.2 in cc ] ]
      ]
    ]) c.steps.invariant c.end_run.ensures in
    record { ok = ends.0; err = ends.1 }

pub steps-preserved : goal.steps-preserved
steps-preserved g c =
    steps_more c.args.way c.steps.done (value_of c.args.state.now) (value_of c.steps.state) (value_of c.go.new.state)
    c.in-Go.pick (sym c.check_run-check.ensures.check ∙ c.in-Go.is) c.steps.invariant c.in_ok-go-in-Go.ensures
