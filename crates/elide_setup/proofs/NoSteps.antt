-- Why a machine makes no step, and a board.
use Rattle.std.proofs.Common.{◌≡◌, ◌∙◌, ◌<◌, ◌≤◌, ℕ, List, ap, arith, length, replicate, subst, sym}
use Rattle.std.proofs.lemmas.Result.{IfErr-weaker}
use Rattle.std.specs.Prelude.{◌↔◌, Err, IfErr, IsErr, IsOk, Ok, Result}
use Rattle.tm_core.specs.declared.fault.RunFault.TheVariants as run
use Rattle.tm_hist.specs.declared.board.StepFault.{StepFault}
use Rattle.tm_hist.specs.declared.board.StepFault.TheVariants as step
use Rattle.tm_model.specs.declared.outcome.Outcome.{Outcome}
use Rattle.tm_model.specs.declared.outcome.Pick.{Pick}
use Rattle.elide_setup.proofs.Boards.{same_behind_none}
use Rattle.ia_image.specs.Program.{ProgramValue as Program}
use Rattle.elide_setup.specs.Refused.{IsNoCore, IsNoStep, full, no_core}
use Rattle.elide_setup.specs.Runs.{AreBoardSteps}
use Rattle.elide_setup.specs.Schedules.{lone_pick, picks_made}
use Rattle.tm_core.specs.Theorem.{ShownMachine as Machine}
use Rattle.tm_hist.specs.Board.{IsFull, ShownBoard as Board}
use Rattle.elide_setup.specs.declared.fault.Fault.TheVariants as fault
use Rattle.elide_setup.specs.declared.fault.Refusal.{Refusal}
use Rattle.elide_setup.specs.declared.fault.Refusal.TheVariants as refusal

-- ---- a machine

beyond : {T E : Type 0} (made : Result T E) (core cores : ℕ) → (IsOk made ↔ (core < cores)) → IsErr made → cores ≤ core
beyond (Ok x) core cores exists none = absurd (cc)
beyond (Err e) core cores exists none =
    let never : core < cores → ⊥ = λ below. let made = exists.1 below in cc in
    omega (arith, never)

-- its own step, or steps, tell that there is no such core
pub no_core_told : {T E U : Type 0} (machine : Machine) (pick : Pick) (made : Result T E) (told : Result U Refusal)
    → (IsOk made ↔ (pick.core < length machine.views)) →
    IfErr told (λ why. IsErr made × (why ≡ refusal.Fault (fault.Run run.NoSuchCore)))
    → IfErr told (IsNoCore machine pick)
no_core_told machine pick made told exists h =
    IfErr-weaker told (λ why. IsErr made × (why ≡ refusal.Fault (fault.Run run.NoSuchCore))) (IsNoCore machine pick)
    (λ why k. record { tells = k.1; beyond = beyond made pick.core (length machine.views) exists k.0 }) h

-- ---- a board

by_cause : {T : Type 0} (board : Board) (pick : Pick) (made : Result T StepFault) (why : Refusal) (cause : StepFault) →
    ((made ≡ Err step.NoSuchCore) ↔ (length board.program.entries ≤ pick.core)) →
    ((made ≡ Err step.LimitReached) ↔ ((pick.core < length board.program.entries) × IsFull board)) →
    made ≡ Err cause → why ≡ refusal.Fault (fault.Step cause) → IsNoStep board pick why
by_cause board pick made why step.NoSuchCore none room is tells = no_core (none.0 is) tells
by_cause board pick made why step.LimitReached none room is tells = full (room.0 is).1 tells

pub no_step_told : {T U : Type 0} (board : Board) (pick : Pick) (made : Result T StepFault) (told : Result U Refusal) →
    ((made ≡ Err step.NoSuchCore) ↔ (length board.program.entries ≤ pick.core)) →
    ((made ≡ Err step.LimitReached) ↔ ((pick.core < length board.program.entries) × IsFull board)) →
    IfErr told (λ why. (cause : StepFault) × (made ≡ Err cause) × (why ≡ refusal.Fault (fault.Step cause)))
    → IfErr told (IsNoStep board pick)
no_step_told board pick made told none room h =
    IfErr-weaker told (λ why. (cause : StepFault) × (made ≡ Err cause) × (why ≡ refusal.Fault (fault.Step cause)))
    (IsNoStep board pick)
    (λ why k. by_cause board pick made why k.0 none room k.1 k.2) h

-- behind no step it is refused for the same reason
pub no_step_before : (before between : Board) (core count : ℕ) (pick : Pick) (why : Refusal)
    (none : List (Pick × Outcome)) →
    picks_made none ≡ replicate count (lone_pick core) → count ≡ 0 → AreBoardSteps before none between
    → IsNoStep between pick why → IsNoStep before pick why
no_step_before before between core count pick why none picks zero first (no_core many tells) =
    no_core (subst (λ (p : Program). length p.entries ≤ pick.core) first.same.program many) tells
no_step_before before between core count pick why none picks zero first (full is tells) =
    full (ap length (sym (same_behind_none before between core count none picks zero first)) ∙ is ∙ first.same.limit)
    tells
