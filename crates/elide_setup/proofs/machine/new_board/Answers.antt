use Rattle.std.proofs.lemmas.Result.{err_from_is_err_and}
use Rattle.std.proofs.Common.{◌≡◌, ◌∙◌, ap, false, length, List, ℕ, refl, subst}
use Rattle.std.specs.Prelude.{Err}
use Rattle.elide_setup.specs.Refused.{not_held, not_made}
use Rattle.elide_setup.specs.Shown.{are_held}
use Rattle.tm_core.specs.Theorem.{ShownMachine as Machine}
use Rattle.tm_hist.specs.Board.{ShownBoard as Board}
use Rattle.elide_setup.proofs.machine.new_board.Goals as goal

pub returns-in_err-board-clause-none : goal.returns-in_err-board-clause-none
returns-in_err-board-clause-none c =
    let p = err_from_is_err_and c.from_residual.result c.from_residual.ensures.1 in
    rw (p.1, p.2)
    (not_made c.in_err-board.field-0.0 refl (λ e. c.in_err-board.ensures.limit.0 (ap Err e))
    (λ e. (c.in_err-board.ensures.limits.0 (ap Err e)).1))

pub returns-in_err-shown_memory-clause-none : goal.returns-in_err-shown_memory-clause-none
returns-in_err-shown_memory-clause-none c =
    let r = c.from_residual-in_err-shown_memory in
    let p = err_from_is_err_and r.result r.ensures.1 in
    let h = c.in_err-shown_memory.ensures in
    let board : Board = c.in_ok-board.board in
    let same : c.view.result.now ≡ board.machine.memory =
    c.view.ensures ∙ ap (λ (machine : Machine). machine.memory) c.machine.ensures in
    rw (p.1, p.2)
    (not_held board c.in_ok-board.ensures.ok
    (subst (λ (memory : List ℕ). are_held (length memory) c.args.setup.now.parts ≡ false) same h.1) h.0)
