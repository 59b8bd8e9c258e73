use Rattle.std.proofs.Common.{◌∙◌, sym}
use Rattle.tm_schedule.proofs.PicksBack.{empty_says}
use Rattle.tm_schedule.proofs.schedule.picks.pick_of_word.Goals as goal

pub returns-then-is_empty : goal.returns-then-is_empty
returns-then-is_empty c = empty_says c.args.word.now (sym c.is_empty.ensures ∙ c.if-is_empty.true)
