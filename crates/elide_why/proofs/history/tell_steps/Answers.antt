use Rattle.std.proofs.Common.{◌≡◌, ◌<◌, arith, length}
use Rattle.std.proofs.lemmas.Result.{err_from_is_err_and}
use Rattle.elide_device.specs.Gathering.{told as told_contents}
use Rattle.elide_setup.proofs.DueCores.{same_cores}
use Rattle.elide_why.proofs.Steps.{told}
use Rattle.elide_why.proofs.history.tell_steps.Goals as goal

pub returns-clause-told : goal.returns-clause-told
returns-clause-told g c =
    let made = c.in_ok-walk_history.ensures.walked in
    let all = told made.0 _ _ made.2 (λ m. m.machine)
    (λ m. record {
      contents = told_contents (g.O.Out.device m.page.out).contents (g.O.Out.device m.page.before.value).contents
          m.page.failures m.page.row.items;
      failures = m.page.failures;
    })
    (λ _ _ _ h. h) in
    (all.text, all.wrote)

pub returns-in_err-walk_history-clause-refused : goal.returns-in_err-walk_history-clause-refused
returns-in_err-walk_history-clause-refused g c =
    let h = c.in_err-walk_history.ensures.refused in
    let all = told h.made _ _ h.lead (λ m. m.machine)
    (λ m. record {
      contents = told_contents (g.O.Out.device m.page.out).contents (g.O.Out.device m.page.before.value).contents
          m.page.failures m.page.row.items;
      failures = m.page.failures;
    })
    (λ _ _ _ h. h) in
    let kept : length h.after.machine.views ≡ length c.args.telling.machine.views =
    same_cores h.made c.args.telling.machine h.after.machine all.leads in
    let has : length c.args.telling.machine.views ≡ length c.args.board.now.program.entries = c.requires in
    let core : h.pick.core < length c.args.board.now.program.entries = h.due.core in
    let within : h.pick.core < length h.after.machine.views = omega arith in
    let p = err_from_is_err_and c.from_residual.result c.from_residual.ensures.1 in
    rw (p.1, p.2) (h.after.machine, h.pick, within, h.refused)
