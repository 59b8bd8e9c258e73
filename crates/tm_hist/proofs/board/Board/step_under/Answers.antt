use Rattle.std.proofs.Common.{◌≡◌, ◌∙◌, ap, map, None, Some, refl, subst}
use Rattle.std.specs.Prelude.{◌↔◌}
use Rattle.tm_model.specs.Runs.{doomed_at_end}
use Rattle.tm_model.specs.State.{opening_state}
use Rattle.tm_core.specs.Theorem.{machine_setting, pending_at}
use Rattle.tm_model.specs.declared.outcome.Outcome.TheVariants.{Idle}
use Rattle.tm_hist.specs.Board.{IsOwedNext, IsStopped, ShownBoard, TellsWithPending, stop_shown}
use Rattle.tm_hist.specs.History.{pair_of}
use Rattle.tm_hist.specs.Machine.{shown_state}
use Rattle.tm_hist.proofs.Boards.{drained_now, is_history}
use Rattle.tm_hist.proofs.PendingBoards.{idle_with_pending, tells_with}
use Rattle.tm_hist.proofs.Stops.{stays_stopped}
use Rattle.tm_hist.proofs.UnderEvents.{owed_behind}
use Rattle.tm_hist.proofs.board.Board.step_under.Goals as goal

pub returns-in-Ok-clause-stops : goal.returns-in-Ok-clause-stops
returns-in-Ok-clause-stops c k stopped =
    let h = c.self.invariant in
    let doom = doomed_at_end (machine_setting h.start) (opening_state c.self.inside.program) (λ _. None)
    (map pair_of c.self.inside.made.items) in
    let stands = h.is_run.takes.stands in (
      stopped.0,
      stays_stopped (Some c.args.event) c.self.inside.machine c.step_under.new.self h.is_run.takes.last doom c.args.core
          c.in-Ok.told stands c.in-Ok.ensures.same
          (c.in-Ok.ensures.ok h.is_run.takes.last doom stands) k stopped.0
          (ap (λ (b : ShownBoard). stop_shown (shown_state b.machine k)) c.self.view_is ∙ stopped.1),
    )

pub returns-in-Ok-clause-idle : goal.returns-in-Ok-clause-idle
returns-in-Ok-clause-idle c =
    let h = c.self.invariant in
    let doom = doomed_at_end (machine_setting h.start) (opening_state c.self.inside.program) (λ _. None)
    (map pair_of c.self.inside.made.items) in
    let stands = h.is_run.takes.stands in
    let both =
    idle_with_pending (Some c.args.event) c.self.inside.machine c.step_under.new.self h.is_run.takes.last doom
    c.args.core c.in-Ok.told (drained_now _ _ c.self.invariant c.args.core) stands (c.in-Ok.ensures.exists.0 refl)
    (c.in-Ok.ensures.ok h.is_run.takes.last doom stands) in
    subst (λ (b : ShownBoard). (c.in-Ok.told ≡ Idle) ↔ IsStopped b c.args.core) c.self.view_is both

pub returns-in-Ok-clause-owed : goal.returns-in-Ok-clause-owed
returns-in-Ok-clause-owed c =
    subst (λ (b : ShownBoard). IsOwedNext (Some c.args.event) b c.args.core c.in-Ok.told) c.self.view_is
    (owed_behind (Some c.args.event) _ c.step_under.new.self c.args.core c.in-Ok.told (is_history _ _ c.self.invariant)
    c.in-Ok.ensures.ok)

pub returns-in-Ok-clause-told : goal.returns-in-Ok-clause-told
returns-in-Ok-clause-told c =
    subst (λ (b : ShownBoard). TellsWithPending c.args.event (pending_at b.machine c.args.core)
    (shown_state b.machine c.args.core) c.in-Ok.told) c.self.view_is
    (tells_with c.args.event _ c.step_under.new.self c.args.core c.in-Ok.told (is_history _ _ c.self.invariant)
    (c.in-Ok.ensures.exists.0 refl) c.in-Ok.ensures.ok)
