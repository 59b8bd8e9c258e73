use Rattle.elide_shell.specs.Shell.{path_word}
use Rattle.elide_shell.proofs.Texts.{then_on_ok}
use Rattle.elide_shell.proofs.schedule.put_schedule.Goals as goal

pub returns-in_ok-put-in-Some : goal.returns-in_ok-put-in-Some
returns-in_ok-put-in-Some g c =
    rw c.in-Some.is
    (then_on_ok _ (path_word c.in-Some.path.now) c.put_path.result c.in_ok-put-in-Some.ensures c.put_path.ensures)
