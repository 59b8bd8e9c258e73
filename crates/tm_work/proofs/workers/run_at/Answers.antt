use Rattle.std.proofs.Common.{List, ◌≡◌, ◌+◌, ◌<◌, length, sym, ap, ◌∙◌, subst, arith, rules}
use Rattle.std.proofs.lemmas.Result.{IfErr-weaker}
use Rattle.std.specs.Prelude.{IfErr, vec_len}
use Rattle.tm_hist.specs.Board.{ShownBoard}
use Rattle.tm_work.specs.Faults.{board_in}
use Rattle.tm_work.specs.Seats.{AreSeats, IsDisturbed, SeatProgress}
use Rattle.tm_work.specs.Workers.{IsReport, IsRefused, AreLeft}
use Rattle.tm_work.proofs.Counts.{all_left, report_of, refused_of, none_of, some_of}
use Rattle.tm_work.proofs.Disturbed.{fresh_disturbed}
use Rattle.tm_work.proofs.workers.run_at.Goals as goal

pub serve-done-requires-clause-seats : goal.serve-done-requires-clause-seats
serve-done-requires-clause-seats g c κs within =
    let entries = length g.J.DeskIdentity.given.program.entries in
    all_left c.from_vec-seats.result.items entries (length c.args.budgets.now)
    (subst (λ (l : List SeatProgress). AreSeats l entries) (sym c.from_vec-seats.ensures.items)
    c.in_ok-desk.ensures.seats)
    (c.requires.budgets ∙ ap (λ (b : ShownBoard). length b.program.entries) c.requires.given)

pub returns-in-None-clause-report : goal.returns-in-None-clause-report
returns-in-None-clause-report g c =
    let b = c.close-board.ensures in
    let s = c.steps_of-steps.ensures in
    let v = c.serve-done.ensures in
    let done = c.serve-done.result.0 in
    let steps = c.steps_of-steps.result in
    let budgets = c.args.budgets.now in
    let all = none_of c.serve-done.result.1 (vec_len done ≡ length budgets) c.in-None.is v.all in
    let count = s.count in
    let done_len : vec_len done ≡ length done.items = search rules in
    let steps_len : vec_len steps ≡ length steps.items = search rules in
    subst (λ (y : ShownBoard). IsReport y budgets c.close-board.result steps.items) (sym c.requires.given)
    (report_of g.J.DeskIdentity.given c.close-board.result budgets done.items steps.items
    b.worked.goes_on b.worked.run b.seats v.done
    (sym done_len ∙ all) (sym steps_len ∙ count ∙ done_len) s.each)

pub returns-in-Some-clause-fault : goal.returns-in-Some-clause-fault
returns-in-Some-clause-fault g c =
    let b = c.close_both.ensures in
    let v = c.serve-done.ensures in
    let done = c.serve-done.result.0 in
    let left = c.in-Some.left in
    let budgets = c.args.budgets.now in
    let rest = some_of c.serve-done.result.1
    (λ l. (vec_len done < length budgets) × AreLeft l.items (vec_len done + 1) (length budgets)) left
    c.in-Some.is v.left in
    let done_len : vec_len done ≡ length done.items = search rules in
    let less = rest.0 in
    subst (λ (y : ShownBoard). IsRefused y budgets c.len-core.result c.close_both.result) (sym c.requires.given)
    (refused_of g.J.DeskIdentity.given c.close_both.result budgets done.items left.items c.len-core.result
    (c.len-core.ensures ∙ done_len) b.worked.goes_on b.worked.run b.seats b.others v.done
    (omega (arith, less, done_len))
    (subst (λ k. AreLeft left.items (k + 1) (length budgets)) done_len rest.1))

pub returns-in_err-desk-clause-fault_events : goal.returns-in_err-desk-clause-fault_events
returns-in_err-desk-clause-fault_events g c =
    let fault = c.in_err-desk.field-0.0 in
    let events = g.J.DeskIdentity.events in
    let given = c.args.opening.given in
    let is : IfErr c.from_residual.result (λ e. e ≡ fault) = search rules in
    IfErr-weaker c.from_residual.result (λ e. e ≡ fault) (λ e. IsDisturbed events given (board_in e))
    (λ e same. fresh_disturbed events given (board_in e)
    (ap board_in same ∙ c.in_err-desk.ensures.refused.1 ∙ sym c.requires.given)) is
