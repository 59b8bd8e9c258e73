use Rattle.std.proofs.Common.{subst}
use Rattle.tm_core.specs.Buffering.{IsBuffering}
use Rattle.tm_core.specs.Theorem.{machine_setting}
use Rattle.tm_core.specs.declared.buffering.Buffering.{Buffering}
use Rattle.tm_model.specs.Owed.{owed_outcome}
use Rattle.tm_model.specs.State.{seen_by}
use Rattle.tm_outcomes.proofs.Waiting.{told_for_room}
use Rattle.tm_outcomes.proofs.place.Place.is_waiting.Goals as goal

pub returns : goal.returns
returns c = λ now stands.
    let setting = machine_setting c.args.self.now.machine in
    let core = c.args.core in
    let seen = seen_by now.state core in
    let outcome = owed_outcome setting seen (now.state.cores core) (now.doomed core) in
    let is = c.in-Ok.ensures.told now.state now.doomed stands in (
      λ told.
          let awaited =
          subst (λ (t : Buffering). IsBuffering setting seen (now.state.pending core) (now.state.cores core) outcome t)
          (c.is_for_room.ensures.0 told) is in
          record { waits = awaited.waits; at_room = awaited.needs },
      λ waits.
          c.is_for_room.ensures.1 (told_for_room setting seen (now.state.pending core) (now.state.cores core) outcome
          c.in-Ok.told is waits.waits waits.at_room),
    )
