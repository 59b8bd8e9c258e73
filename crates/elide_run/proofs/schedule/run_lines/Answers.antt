use Rattle.std.proofs.Common.{ℕ, List, Option, ◌⊎◌}
use Rattle.std.proofs.lemmas.Result.{IfOk-weaker}
use Rattle.elide_device.specs.Gathering.{told}
use Rattle.elide_device.specs.declared.gathered.Gathered.{Gathered}
use Rattle.elide_run.specs.Printed.{IsPrinted, IsTold}
use Rattle.elide_run.specs.declared.halting.Ending.{Ending}
use Rattle.elide_run.proofs.Printed.{kept_before}
use Rattle.std.proofs.lemmas.Result.{IfErr-weaker}
use Rattle.elide_run.proofs.Refusing.{of_end}
use Rattle.elide_run.specs.Refused.{HasNotAll, IsRefused}
use Rattle.elide_setup.specs.declared.fault.Refusal.{Refusal}
use Rattle.elide_setup.specs.Refused.{IsUnwritten}
use Rattle.elide_run.proofs.schedule.run_lines.Goals as goal

pub returns-clause-printed : goal.returns-clause-printed
returns-clause-printed g c =
    let content : List ℕ → Option (List ℕ) = g.P.Paths.content c.args.paths.now in
    let left : List ℕ → Option (List ℕ) = g.P.Paths.content c.run_steps.new.paths in
    let held : Gathered g.row.O.Denot → Option (List ℕ) =
    λ m. told (g.O.Out.device m.out).contents (g.O.Out.device m.before.value).contents m.failures m.row.items in
    let first : Option (List ℕ) = (g.O.Out.device c.args.out).contents in
    let begun : Option (List ℕ) = held c.new-page.result in
    let made = c.in_ok-setup in
    IfOk-weaker c.tell-told.result
    (λ (r : Ending × g.row.O.Denot). IsTold c.args.asked.options.now made.setup made.machine r.0 (held made.page)
    (g.O.Out.device r.1).contents)
    (λ (r : Ending × g.row.O.Denot). IsPrinted content left c.args.asked.options.now r.0 first
    (g.O.Out.device r.1).contents)
    (λ r ended. record {
      setup = made.setup;
      machine = made.machine;
      between = held made.page;
      ran = kept_before content left c.args.asked.options.now made.setup made.machine first begun (held made.page)
          c.new-page.ensures.kept made.ensures.made;
      told = ended;
    })
    c.tell-told.ensures.told

pub returns-clause-refused : goal.returns-clause-refused
returns-clause-refused g c =
    let content : List ℕ → Option (List ℕ) = g.P.Paths.content c.args.paths.now in
    let are_one = g.P.Paths.are_one c.args.paths.now in
    let options = c.args.asked.options.now in
    let setup = c.in_ok-setup.setup in
    let machine = c.in_ok-setup.machine in
    let made = c.in_ok-setup.ensures.made in
    IfErr-weaker c.tell-told.result (λ (why : Refusal). HasNotAll setup machine why ⊎ IsUnwritten why)
    (IsRefused content are_one options)
    (λ why h. of_end content are_one options setup machine made.run.made why made.run.asked made.run.ran h)
    c.tell-told.ensures.refused
