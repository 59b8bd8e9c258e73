-- Why a replay is refused, from what one call tells up to what the command is asked.
use Rattle.std.proofs.Common.{◌≡◌, ◌<◌, ◌≤◌, ℕ, Bool, List, [], Option, ◌∙◌, length, arith, ap, sym, inl, inr}
use Rattle.elide_args.specs.declared.subcommand.ReplayOptions.{ReplayOptions}
use Rattle.std.proofs.lemmas.List.{length-map}
use Rattle.std.specs.Borrow.{Bor}
use Rattle.std.specs.Prelude.{All, max}
use Rattle.elide_json.specs.Refused.{IsUnsent}
use Rattle.elide_setup.proofs.Runs.{made_all}
use Rattle.elide_setup.specs.Refused.{IsDue, IsNoStep, IsNoWalk, IsNotScheduled, full, no_core}
use Rattle.elide_setup.specs.Runs.{AreBoardSteps}
use Rattle.elide_setup.specs.Schedules.{listed_in, most_of}
use Rattle.tm_hist.specs.Board.{IsNew, ShownBoard as Board}
use Rattle.elide_setup.specs.Walks.{Leads}
use Rattle.elide_setup.specs.declared.fault.Refusal.{Refusal}
use Rattle.elide_setup.specs.declared.machine.Setup.{Setup}
use Rattle.elide_setup.specs.declared.plan.Course.{Course}
use Rattle.elide_setup.proofs.DueCores.{due_core, due_few}
use Rattle.elide_why.proofs.Refusing.{scheduled_before}
use Rattle.tm_model.specs.declared.outcome.Outcome.{Outcome}
use Rattle.tm_model.specs.declared.outcome.Pick.{Pick}
use Rattle.elide_replay.specs.Refused.{IsNotCompared, IsNotMade, IsRefused, unheld, unlisted, unroomed}
use Rattle.elide_replay.specs.Refused.{unscheduled, unwritten}

-- there is no program or no schedule
pub of_opening : (content after : List ℕ → Option (List ℕ)) (are_one : List ℕ → List ℕ → Option Bool)
    (options : ReplayOptions) (why : Refusal) →
    ((other : List ℕ) → after other ≡ content other)
    → IsNotScheduled after options.machine options.schedule why → IsRefused content are_one options why
of_opening content after are_one options why kept h =
    unscheduled (scheduled_before content after options.machine options.schedule why kept h)

-- a board that has the room and the cores of a course makes each step that is due
steps_due : (asked : Course) (cores : ℕ) (made : List (Pick × Outcome)) (first last : Board) (pick : Pick)
    (why : Refusal) →
    first.history ≡ [] → most_of asked ≤ first.limit → length first.program.entries ≡ cores →
    All (λ (one : Pick). one.core < cores) (listed_in asked) → Leads AreBoardSteps first made last
    → IsDue asked cores made pick →
    IsNoStep last pick why → ⊥
steps_due asked cores made first last pick why none room has fit lead due (no_core beyond tells) =
    let same = made_all made first last none lead in
    let below : pick.core < cores = due_core asked cores made pick fit due in
    let entries : length last.program.entries ≡ length first.program.entries =
    ap (λ p. length p.entries) same.1.program in
    omega arith
steps_due asked cores made first last pick why none room has fit lead due (full all tells) =
    let same = made_all made first last none lead in
    let few : length made < most_of asked = due_few asked cores made pick due in
    let count : length last.history ≡ length made =
    ap (λ l. length l) same.0.history ∙ length-map made (λ (one : Pick × Outcome). (one.0.core, one.1)) in
    let limit : last.limit ≡ first.limit = same.1.limit in
    omega arith

-- so that a walk on it ends early for want of memory alone
pub of_walk : (setup : Setup) (asked : Course) (cores : ℕ) (board : Board) (why : Refusal) →
    IsNew setup.program setup.limits (max (most_of asked) 1) board → cores ≡ length board.program.entries →
    All (λ (one : Pick). one.core < cores) (listed_in asked) → IsNoWalk AreBoardSteps IsNoStep asked cores board why →
    IsNotMade setup asked why
of_walk setup asked cores board why new has fit (inl h) =
    let room : most_of asked ≤ board.limit = let is = new.limit in omega arith in
    absurd (steps_due asked cores h.made board h.after h.pick why new.history room (sym has) fit h.lead h.due h.refused)
of_walk setup asked cores board why new has fit (inr none) = unroomed (inr none)

-- the object, or the lines, of both runs are not told
pub of_telling : (setup : Setup) (board : Board) (path : Option (Bor (List ℕ))) (why : Refusal) →
    IsUnsent board.machine.memory setup.parts why → IsNotCompared setup board path why
of_telling setup board path why (inl (inl h)) = unheld h.1 h.0
of_telling setup board path why (inl (inr none)) = unlisted (inl none)
of_telling setup board path why (inr (inl h)) = unwritten h
of_telling setup board path why (inr (inr none)) = unlisted (inl none)
