use Rattle.tm_stats.specs.contracts.cause.AbortCausePartialEq.TheImpl as causes
use Rattle.elide_stats.proofs.Steps.{counted_still}
use Rattle.elide_stats.proofs.told.tell_counting.Goals as goal

pub tell_labelled-requires : goal.tell_labelled-requires
tell_labelled-requires g c =
    counted_still (causes.ghosts).eq c.args.run c.args.counting.now c.sort.new.self c.sort.ensures.machine
    c.sort.ensures.counts c.requires
