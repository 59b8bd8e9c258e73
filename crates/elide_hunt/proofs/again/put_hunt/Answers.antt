use Rattle.std.proofs.Common.{◌++◌}
use Rattle.elide_hunt.proofs.again.put_hunt.Goals as goal
use Rattle.elide_hunt.specs.Again.{demands_text, plan_text, runs_text}
use Rattle.elide_shell.proofs.Texts.{then_on_ok}
use Rattle.elide_shell.specs.Options.{machine_text}
use Rattle.elide_shell.specs.Shell.{path_word}

pub returns : goal.returns
returns g c =
    let options = c.args.options.now in
    let r = c.put_runs.result in
    let runs = runs_text c.args.run in
    let plan = plan_text options ++ runs in
    let demands = demands_text options ++ plan in
    let machine = machine_text options.machine ++ demands in
    then_on_ok _ (path_word options.machine.file.now ++ machine) r c.in_ok-put.ensures
    (then_on_ok _ machine r c.in_ok-put_path.ensures
    (then_on_ok _ demands r c.in_ok-put_machine.ensures
    (then_on_ok _ plan r c.in_ok-put_demands.ensures
    (then_on_ok _ runs r c.in_ok-put_plan.ensures c.put_runs.ensures))))
