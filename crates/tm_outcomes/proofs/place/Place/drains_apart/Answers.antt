use Rattle.std.proofs.Common.{subst}
use Rattle.tm_core.specs.Buffering.{TellsAhead}
use Rattle.tm_core.specs.Theorem.{machine_setting}
use Rattle.tm_core.specs.declared.buffering.Buffering.{Buffering}
use Rattle.tm_outcomes.proofs.Shown.{waits_drains}
use Rattle.tm_outcomes.proofs.place.Place.drains_apart.Goals as goal

pub returns-in-Ok-Waits-clause-same : goal.returns-in-Ok-Waits-clause-same
returns-in-Ok-Waits-clause-same c = λ none now stands.
    let machine = c.args.self.now.machine in
    let core = c.args.core in
    let told =
    (subst (λ (b : Buffering). TellsAhead machine core b) c.in-Ok-Waits.field-0-is c.in-Ok-Waits.ensures.told) now.state
    now.doomed stands in
    waits_drains (machine_setting machine) now.state.memory (now.state.pending core)
    (now.state.cores core) (now.doomed core) told.waits
