use Rattle.gdb_packet.specs.Actions.{actions_in, told_actions}
use Rattle.gdb_packet.proofs.Told.{resumes_all}
use Rattle.gdb_packet.proofs.resume.read_actions.Goals as goal

pub returns-in-Ok : goal.returns-in-Ok
returns-in-Ok c =
    resumes_all (told_actions (actions_in c.args.text.now)) c.nothing-actions.result c.add_actions.new.actions
    c.in-Ok.count c.resume.result c.nothing-actions.ensures.chosen c.nothing-actions.ensures.others c.in-Ok.ensures
    c.resume.ensures.few c.resume.ensures.many
