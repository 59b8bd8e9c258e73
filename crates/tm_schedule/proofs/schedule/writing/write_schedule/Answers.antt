use Rattle.std.proofs.Common.{Bool, subst}
use Rattle.text_out.specs.Writing.{Writes}
use Rattle.tm_schedule.proofs.ListsBack.{numbers_back, steps_back}
use Rattle.tm_schedule.proofs.RunsBack.{runs_back}
use Rattle.tm_schedule.proofs.RunsOf.{are_longest}
use Rattle.tm_schedule.specs.Schedule.{drawn_text}
use Rattle.tm_schedule.proofs.schedule.writing.write_schedule.Goals as goal

pub returns-clause-written : goal.returns-clause-written
returns-clause-written g c =
    subst
    (λ (b : Bool). Writes (g.O.Out.device c.args.out.now) (g.O.Out.device c.write_drawn.new.out)
    (drawn_text b c.args.picks.now) c.write_drawn.result)
    c.has_event.ensures.event c.write_drawn.ensures

pub returns-clause-read_back : goal.returns-clause-read_back
returns-clause-read_back g c = runs_back c.args.picks.now c.has_event.ensures.cores

pub returns-clause-longest : goal.returns-clause-longest
returns-clause-longest g c = are_longest c.args.picks.now

pub returns-clause-first_form : goal.returns-clause-first_form
returns-clause-first_form g c = numbers_back c.args.picks.now c.has_event.ensures.cores

pub returns-clause-list : goal.returns-clause-list
returns-clause-list g c = steps_back c.args.picks.now c.has_event.ensures.cores
