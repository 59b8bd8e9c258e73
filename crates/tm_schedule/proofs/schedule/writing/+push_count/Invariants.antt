use Rattle.tm_schedule.proofs.schedule.writing.+push_count.Given as goal

abbrev pub decreases-push_count : goal.decreases-push_count
decreases-push_count l = l.n
