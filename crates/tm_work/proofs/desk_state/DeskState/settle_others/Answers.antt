use Rattle.std.proofs.Common.{◌∙◌}
use Rattle.tm_work.proofs.Turns.{told_more}
use Rattle.tm_work.proofs.desk_state.DeskState.settle_others.Goals as goal

pub loop-seat-preserved : goal.loop-seat-preserved
loop-seat-preserved g c =
    let s = c.settle.ensures in
    let i = c.loop-seat.invariant in
    record { same = s.same ∙ i.same; told = told_more _ _ _ _ _ s.same i.told s.told }
