use Rattle.std.proofs.Common.{[], inl, inr, subst, sym}
use Rattle.std.proofs.lemmas.Result.{IfErr-weaker, err_from_is_err_and}
use Rattle.elide_setup.specs.Refused.{IsUntold}
use Rattle.elide_setup.specs.Runs.{IsRunOf}
use Rattle.tm_core.specs.Theorem.{ShownMachine as Machine}
use Rattle.elide_stats.specs.Refused.{AreUntold}
use Rattle.elide_stats.proofs.told.tell_counts.Goals as goal

pub tell_made-told-requires-clause-first : goal.tell_made-told-requires-clause-first
tell_made-told-requires-clause-first g c =
    let board = c.args.board.now in
    subst (λ (m : Machine). IsRunOf board.program board.limits [] m) (sym c.in_ok-counting.ensures.machine)
    (rw (c.program.ensures, c.limits.ensures) at c.in_ok-machine.ensures.made)

pub returns : goal.returns
returns g c =
    IfErr-weaker c.tell_made-told.result IsUntold
    (AreUntold c.args.board.now.limits) (λ why h. inr h) c.tell_made-told.ensures

pub returns-in_err-machine : goal.returns-in_err-machine
returns-in_err-machine g c =
    let p = err_from_is_err_and c.from_residual.result c.from_residual.ensures.1 in
    rw (p.1, p.2) (inl (rw c.limits.ensures at c.in_err-machine.ensures.none))

pub returns-in_err-counting : goal.returns-in_err-counting
returns-in_err-counting g c =
    let p = err_from_is_err_and c.from_residual-in_err-counting.result c.from_residual-in_err-counting.ensures.1 in
    rw (p.1, p.2) (inr (inr c.in_err-counting.ensures.none))
