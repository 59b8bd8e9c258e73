use Rattle.std.proofs.Common.{◌≡◌, ◌∙◌, [], ◌∷◌, ap, false, map, None, ℕ, refl, subst}
use Rattle.std.specs.Prelude.{◌↔◌}
use Rattle.std.proofs.lemmas.List.Elements.{All-head}
use Rattle.tm_model.specs.Runs.{doomed_at_end, is_aborted_by}
use Rattle.tm_model.specs.declared.outcome.Outcome.{Outcome}
use Rattle.tm_model.specs.State.{opening_state}
use Rattle.tm_core.specs.Theorem.{machine_setting}
use Rattle.tm_model.specs.declared.outcome.Outcome.TheVariants.{Idle}
use Rattle.tm_hist.specs.Board.{AreOwedNext, IsOwedNext, IsStopped, ShownBoard, stop_shown}
use Rattle.tm_hist.specs.History.{pair_of}
use Rattle.tm_hist.specs.Machine.{shown_state}
use Rattle.tm_hist.proofs.Boards.{drained_now, is_history, none_now}
use Rattle.tm_hist.proofs.OwedAlone.{step_alone}
use Rattle.tm_hist.proofs.PendingBoards.{idle_with_pending}
use Rattle.tm_hist.proofs.Stops.{stays_stopped}
use Rattle.tm_hist.proofs.UnderEvents.{owed_behind, tells_none}
use Rattle.tm_hist.proofs.board.Board.step.Goals as goal

pub returns-in-Ok-clause-stops : goal.returns-in-Ok-clause-stops
returns-in-Ok-clause-stops c k stopped =
    let h = c.self.invariant in
    let doom = doomed_at_end (machine_setting h.start) (opening_state c.self.inside.program) (λ _. None)
    (map pair_of c.self.inside.made.items) in
    let stands = h.is_run.takes.stands in (
      stopped.0,
      stays_stopped None c.self.inside.machine c.step.new.self h.is_run.takes.last doom c.args.core c.in-Ok.outcome
          stands c.in-Ok.ensures.same
          (c.in-Ok.ensures.ok h.is_run.takes.last doom stands) k stopped.0
          (ap (λ (b : ShownBoard). stop_shown (shown_state b.machine k)) c.self.view_is ∙ stopped.1),
    )

pub returns-in-Ok-clause-idle : goal.returns-in-Ok-clause-idle
returns-in-Ok-clause-idle c =
    let h = c.self.invariant in
    let doom = doomed_at_end (machine_setting h.start) (opening_state c.self.inside.program) (λ _. None)
    (map pair_of c.self.inside.made.items) in
    let stands = h.is_run.takes.stands in
    let both = idle_with_pending None c.self.inside.machine c.step.new.self h.is_run.takes.last doom c.args.core
    c.in-Ok.outcome (drained_now _ _ c.self.invariant c.args.core) stands (c.in-Ok.ensures.exists.0 refl)
    (c.in-Ok.ensures.ok h.is_run.takes.last doom stands) in
    subst (λ (b : ShownBoard). (c.in-Ok.outcome ≡ Idle) ↔ IsStopped b c.args.core) c.self.view_is both

pub returns-in-Ok-clause-alone : goal.returns-in-Ok-clause-alone
returns-in-Ok-clause-alone c off =
    let h = c.self.invariant in
    let doom = doomed_at_end (machine_setting h.start) (opening_state c.self.inside.program) (λ _. None)
    (map pair_of c.self.inside.made.items) in
    tells_none c.self.inside.machine c.step.new.self h.is_run.takes.last doom c.args.core c.in-Ok.outcome
    (none_now _ _ c.self.invariant (ap (λ (b : ShownBoard). b.machine.store_buffer) c.self.view_is ∙ off) c.args.core)
    (c.in-Ok.ensures.ok h.is_run.takes.last doom h.is_run.takes.stands)

pub returns-in-Ok-clause-no_abort : goal.returns-in-Ok-clause-no_abort
returns-in-Ok-clause-no_abort c =
    All-head (λ (taken : ℕ × Outcome). is_aborted_by taken.1 ≡ false) (c.args.core, c.in-Ok.outcome) []
    c.in-Ok.ensures.told

pub returns-in-Ok-clause-owed : goal.returns-in-Ok-clause-owed
returns-in-Ok-clause-owed c =
    subst (λ (b : ShownBoard). IsOwedNext None b c.args.core c.in-Ok.outcome) c.self.view_is
    (owed_behind None _ c.step.new.self c.args.core c.in-Ok.outcome (is_history _ _ c.self.invariant)
    c.in-Ok.ensures.ok)

pub returns-in-Ok-clause-next : goal.returns-in-Ok-clause-next
returns-in-Ok-clause-next c =
    subst (λ (b : ShownBoard). AreOwedNext b ((c.args.core, c.in-Ok.outcome) ∷ [])) c.self.view_is
    (step_alone _ c.step.new.self c.args.core c.in-Ok.outcome (is_history _ _ c.self.invariant) c.in-Ok.ensures.ok)
