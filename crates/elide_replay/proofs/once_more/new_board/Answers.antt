use Rattle.std.proofs.Common.{◌≡◌, ap, refl, subst, true, ℕ}
use Rattle.std.proofs.lemmas.Result.{err_from_is_err_and}
use Rattle.std.specs.Prelude.{Err}
use Rattle.elide_setup.specs.Refused.{not_made}
use Rattle.tm_hist.specs.Board.{bad_limit}
use Rattle.elide_replay.proofs.once_more.new_board.Goals as goal

pub returns-in_err-board-clause-none : goal.returns-in_err-board-clause-none
returns-in_err-board-clause-none c =
    let p = err_from_is_err_and c.from_residual.result c.from_residual.ensures.1 in
    rw (p.1, p.2)
    (not_made c.in_err-board.field-0.0 refl
    (λ e. subst (λ (n : ℕ). bad_limit n ≡ true) c.max.ensures (c.in_err-board.ensures.limit.0 (ap Err e)))
    (λ e. (c.in_err-board.ensures.limits.0 (ap Err e)).1))
