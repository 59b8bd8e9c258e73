use Rattle.std.proofs.Common.{◌∙◌, ℕ, subst, inl}
use Rattle.std.proofs.lemmas.Result.{err_from_is_err_and}
use Rattle.elide_setup.specs.Rounds.{IsOut}
use Rattle.elide_setup.proofs.Runs.{run_of_all}
use Rattle.elide_device.specs.Gathering.{told}
use Rattle.elide_run.proofs.Steps.{traced, wrote_traced, wrote_untraced}
use Rattle.elide_run.proofs.Refusing.{of_told, of_walk}
use Rattle.elide_run.specs.Refused.{unready}
use Rattle.elide_run.proofs.schedule.trace_steps.Goals as goal

pub returns-then-not-traces-clause-made : goal.returns-then-not-traces-clause-made
returns-then-not-traces-clause-made g c =
    let setup = c.args.job.opened.now.setup in
    let course = c.args.job.opened.now.course in
    let traces = c.args.job.options.now.traces in
    let made = c.in_ok-walk_recorded.ensures.walked in
    record {
      made = made.0;
      steps = made.1;
      ran = run_of_all setup.program setup.limits made.0 c.in_ok-machine.machine
          c.walk_recorded.new.maker c.in_ok-machine.ensures.made made.2;
      wrote = wrote_untraced _ traces made.0 c.if-not-traces.true;
      recorded = made.3;
      out = subst (λ (n : ℕ). IsOut course n made.0)
          (c.cores-cores.ensures.count ∙ c.in_ok-machine.ensures.cores) made.4;
    }

pub returns-clause-made : goal.returns-clause-made
returns-clause-made g c =
    let setup = c.args.job.opened.now.setup in
    let course = c.args.job.opened.now.course in
    let traces = c.args.job.options.now.traces in
    let made = c.in_ok-walk_recorded-2.ensures.walked in
    let all = traced made.0 _ _ made.2 (λ m. m.machine)
    (λ m. record {
      contents = told (g.O.Out.device m.page.out).contents (g.O.Out.device m.page.before.value).contents m.page.failures
          m.page.row.items;
      failures = m.page.failures;
    })
    (λ _ _ _ h. h) in
    record {
      made = made.0;
      steps = made.1;
      ran = run_of_all setup.program setup.limits made.0 c.in_ok-machine.machine
          c.walk_recorded-2.new.maker.machine c.in_ok-machine.ensures.made all.leads;
      wrote = wrote_traced _ _ traces made.0 c.if-not-traces.false all.wrote;
      recorded = made.3;
      out = subst (λ (n : ℕ). IsOut course n made.0)
          (c.cores-cores.ensures.count ∙ c.in_ok-machine.ensures.cores) made.4;
    }

pub returns-in_err-walk_recorded-clause-refused : goal.returns-in_err-walk_recorded-clause-refused
returns-in_err-walk_recorded-clause-refused g c =
    let setup = c.args.job.opened.now.setup in
    let course = c.args.job.opened.now.course in
    let path = c.args.job.path in
    let p =
    err_from_is_err_and c.from_residual-in_err-walk_recorded.result c.from_residual-in_err-walk_recorded.ensures.1 in
    rw (p.1, p.2)
    (of_walk _ _ (λ m. m) setup course c.cores-cores.result path
    c.in_ok-machine.machine
    c.in_err-walk_recorded.field-0.0
    (c.cores-cores.ensures.count ∙ c.in_ok-machine.ensures.cores) c.in_ok-machine.ensures.fit
    (λ made after lead. run_of_all setup.program setup.limits made
    c.in_ok-machine.machine after
    c.in_ok-machine.ensures.made lead)
    (λ after pick h. inl h) c.in_err-walk_recorded.ensures.refused)

pub returns-in_err-walk_recorded-2-clause-refused : goal.returns-in_err-walk_recorded-2-clause-refused
returns-in_err-walk_recorded-2-clause-refused g c =
    let setup = c.args.job.opened.now.setup in
    let course = c.args.job.opened.now.course in
    let path = c.args.job.path in
    let p = err_from_is_err_and c.from_residual-in_err-walk_recorded-2.result
    c.from_residual-in_err-walk_recorded-2.ensures.1 in
    rw (p.1, p.2)
    (of_walk _ _ (λ m. m.machine) setup course c.cores-cores.result path _
    c.in_err-walk_recorded-2.field-0.0
    (c.cores-cores.ensures.count ∙ c.in_ok-machine.ensures.cores) c.in_ok-machine.ensures.fit
    (λ made after lead. run_of_all setup.program setup.limits made
    c.in_ok-machine.machine
    after.machine c.in_ok-machine.ensures.made
    (traced made _ _ lead (λ m. m.machine)
    (λ m. record {
      contents = told (g.O.Out.device m.page.out).contents (g.O.Out.device m.page.before.value).contents m.page.failures
          m.page.row.items;
      failures = m.page.failures;
    })
    (λ _ _ _ h. h)).leads)
    (λ after pick h. of_told after.machine pick c.in_err-walk_recorded-2.field-0.0 h)
    c.in_err-walk_recorded-2.ensures.refused)

pub returns-in_err-machine-clause-refused : goal.returns-in_err-machine-clause-refused
returns-in_err-machine-clause-refused g c =
    let p = err_from_is_err_and c.from_residual.result c.from_residual.ensures.1 in
    rw (p.1, p.2) (unready c.in_err-machine.ensures.none)
