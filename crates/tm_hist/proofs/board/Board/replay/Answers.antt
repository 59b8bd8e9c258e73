use Rattle.std.proofs.Common.{◌≡◌, ◌⊎◌, ap, subst}
use Rattle.std.proofs.lemmas.Result.{IfErr-weaker, IfOk-weaker}
use Rattle.tm_hist.specs.declared.replay.SerialFault.TheVariants.{NoMemory}
use Rattle.tm_hist.specs.Board.{IsHistory, ShownBoard}
use Rattle.tm_hist.specs.History.{pairs_of}
use Rattle.tm_hist.specs.Replay.{IsRefused, IsReplay, Replays}
use Rattle.tm_hist.proofs.Boards.{is_history, never_refused_at, replays_at}
use Rattle.tm_hist.proofs.board.Board.replay.Goals as goal

pub returns-clause-ok : goal.returns-clause-ok
returns-clause-ok c =
    let law = subst (λ (b : ShownBoard). IsHistory b) c.self.view_is (is_history _ _ c.self.invariant) in
    let program = ap (λ (b : ShownBoard). b.program) c.self.view_is in
    let limits = ap (λ (b : ShownBoard). b.limits) c.self.view_is in
    let history = pairs_of c.history.result in
    IfOk-weaker c.serial_with.result
    (λ s. IsReplay c.self.inside.program c.self.inside.limits.stores history s)
    (λ s. Replays c.args.self.now s)
    (λ s r. replays_at c.args.self.now c.self.inside.program c.self.inside.limits history s law program limits
    c.history.ensures r) c.serial_with.ensures.ok

pub returns-clause-err : goal.returns-clause-err
returns-clause-err c =
    let law = subst (λ (b : ShownBoard). IsHistory b) c.self.view_is (is_history _ _ c.self.invariant) in
    let program = ap (λ (b : ShownBoard). b.program) c.self.view_is in
    let limits = ap (λ (b : ShownBoard). b.limits) c.self.view_is in
    let history = pairs_of c.history.result in
    IfErr-weaker c.serial_with.result
    (λ fault. (fault ≡ NoMemory) ⊎ IsRefused c.self.inside.program c.self.inside.limits.stores history fault)
    (λ fault. fault ≡ NoMemory)
    (λ fault r. never_refused_at c.args.self.now c.self.inside.program c.self.inside.limits history fault law program
    limits c.history.ensures r) c.serial_with.ensures.err
