use Rattle.std.proofs.Common.{◌++◌}
use Rattle.elide_hunt.proofs.replay.put_command.Goals as goal
use Rattle.elide_shell.proofs.Texts.{then_on_ok}
use Rattle.elide_shell.specs.Options.{machine_text, schedule_text}
use Rattle.elide_shell.specs.Shell.{path_word}

pub returns : goal.returns
returns g c =
    let options = c.args.options.now in
    let last = schedule_text options.record c.args.picks.now in
    let r = c.put_schedule.result in
    then_on_ok _ (path_word options.machine.file.now ++ (machine_text options.machine ++ last)) r c.in_ok-put.ensures
    (then_on_ok _ (machine_text options.machine ++ last) r c.in_ok-put_path.ensures
    (then_on_ok _ last r c.in_ok-put_machine.ensures c.put_schedule.ensures))
