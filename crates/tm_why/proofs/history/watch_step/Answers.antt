use Rattle.std.proofs.Common.{◌-◌, ◌<◌, ◌^◌, ◌∙◌, arith, length, sym}
use Rattle.tm_why.proofs.HistorySteps.{watched_more}
use Rattle.tm_why.proofs.history.watch_step.Goals as goal

pub returns-clause-told : goal.returns-clause-told
returns-clause-told c =
    let few : length c.requires.told.steps < 2 ^ 64 - 1 =
    omega (arith, c.requires.told.many, c.requires.within, c.made-made.ensures.few) in
    watched_more c.args.board.now c.args.first.now c.args.watch.now c.note.new.self c.args.made c.in-Some.core
    c.in-Some.outcome c.anew.new.self (sym c.step_at.ensures.step ∙ c.in-Some.is) c.requires.so_far c.is_run.ensures
    (rw c.machine.ensures at c.in-Ok.ensures.asked) c.requires.told
    (c.note.ensures.watch c.requires.told.steps few c.requires.told.kept) c.note.ensures.most
