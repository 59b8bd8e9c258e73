use Rattle.std.proofs.Common.{◌∙◌, ℕ, subst}
use Rattle.std.proofs.lemmas.Result.{err_from_is_err_and}
use Rattle.elide_setup.specs.Rounds.{IsOut}
use Rattle.elide_setup.proofs.Runs.{run_of_all}
use Rattle.elide_device.specs.Gathering.{told as told_contents}
use Rattle.elide_why.proofs.Steps.{told}
use Rattle.elide_run.proofs.Refusing.{of_walk}
use Rattle.elide_run.specs.Refused.{unready}
use Rattle.elide_run.proofs.explained.make_steps.Goals as goal

pub returns-clause-made : goal.returns-clause-made
returns-clause-made g c =
    let setup = c.args.job.opened.now.setup in
    let course = c.args.job.opened.now.course in
    let made = c.in_ok-walk_recorded.ensures.walked in
    let all = told made.0 _ _ made.2 (λ m. m.machine)
    (λ m. record {
      contents = told_contents (g.O.Out.device m.page.out).contents (g.O.Out.device m.page.before.value).contents
          m.page.failures m.page.row.items;
      failures = m.page.failures;
    })
    (λ _ _ _ h. h) in (
      made.0,
      made.1,
      run_of_all setup.program setup.limits made.0 c.in_ok-machine.machine
          c.walk_recorded.new.maker.machine c.in_ok-machine.ensures.made all.leads,
      all.text,
      all.wrote,
      made.3,
      subst (λ (n : ℕ). IsOut course n made.0)
          (c.cores-cores.ensures.count ∙ c.in_ok-machine.ensures.cores) made.4,
    )

pub returns-in_err-walk_recorded-clause-refused : goal.returns-in_err-walk_recorded-clause-refused
returns-in_err-walk_recorded-clause-refused g c =
    let setup = c.args.job.opened.now.setup in
    let course = c.args.job.opened.now.course in
    let path = c.args.job.path in
    let p =
    err_from_is_err_and c.from_residual-in_err-walk_recorded.result c.from_residual-in_err-walk_recorded.ensures.1 in
    rw (p.1, p.2)
    (of_walk _ _ (λ m. m.machine) setup course c.cores-cores.result path _
    c.in_err-walk_recorded.field-0.0
    (c.cores-cores.ensures.count ∙ c.in_ok-machine.ensures.cores) c.in_ok-machine.ensures.fit
    (λ made after lead. run_of_all setup.program setup.limits made
    c.in_ok-machine.machine
    after.machine c.in_ok-machine.ensures.made
    (told made _ _ lead (λ m. m.machine)
    (λ m. record {
      contents = told_contents (g.O.Out.device m.page.out).contents (g.O.Out.device m.page.before.value).contents
          m.page.failures m.page.row.items;
      failures = m.page.failures;
    })
    (λ _ _ _ h. h)).leads)
    (λ after pick h. c.requires after.machine pick _ h) c.in_err-walk_recorded.ensures.refused)

pub returns-in_err-machine-clause-refused : goal.returns-in_err-machine-clause-refused
returns-in_err-machine-clause-refused g c =
    let p = err_from_is_err_and c.from_residual.result c.from_residual.ensures.1 in
    rw (p.1, p.2) (unready c.in_err-machine.ensures.none)
