use Rattle.std.proofs.lemmas.Result.{IfOk-weaker}
use Rattle.elide_run.proofs.Printed.{of_stepped, of_traced}
use Rattle.elide_run.proofs.schedule.tell_steps.Goals as goal

pub returns-in-true-true-clause-made : goal.returns-in-true-true-clause-made
returns-in-true-true-clause-made g c =
    IfOk-weaker c.explain_code.result _ _
    (λ r h. of_stepped _ c.args.job.options.now c.args.job.opened.now c.args.job.path _ r.0 _
    (λ e f. let asked = c.in-true-true.is-0 in cc) h)
    c.explain_code.ensures.made

pub returns-in-true-false-clause-made : goal.returns-in-true-false-clause-made
returns-in-true-false-clause-made g c =
    IfOk-weaker c.explain_steps.result _ _
    (λ r h. of_stepped _ c.args.job.options.now c.args.job.opened.now c.args.job.path _ r.0 _
    (λ e f. let asked = c.in-true-false.is-0 in cc) h)
    c.explain_steps.ensures.made

pub returns-in-false-true-clause-made : goal.returns-in-false-true-clause-made
returns-in-false-true-clause-made g c =
    IfOk-weaker c.trace_code.result _ _
    (λ r h. of_stepped _ c.args.job.options.now c.args.job.opened.now c.args.job.path _ r.0 _
    (λ e f. let asked = c.in-false-true.is-1 in cc) h)
    c.trace_code.ensures.made

pub returns-in-false-false-clause-made : goal.returns-in-false-false-clause-made
returns-in-false-false-clause-made g c =
    IfOk-weaker c.trace_steps.result _ _
    (λ r h. of_traced _ c.args.job.options.now c.args.job.opened.now c.args.job.path _ r.0 _ h)
    c.trace_steps.ensures.made
