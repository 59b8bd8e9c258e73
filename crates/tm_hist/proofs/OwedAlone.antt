-- Steps behind a board's history that are owed under no event: those that its machine makes, and some behind others.
use Rattle.std.proofs.Common.{◌≡◌, ℕ, List, [], ◌∷◌, ◌++◌, Option, Some, None, refl, sym, ◌∙◌, subst}
use Rattle.std.specs.Prelude.{MatchOption, option_and_then}
use Rattle.std.proofs.lemmas.Option.{same_Some}
use Rattle.ia_image.specs.Program.{ProgramValue as Program}
use Rattle.tm_model.specs.declared.outcome.Outcome.{Outcome}
use Rattle.tm_model.specs.Conflicts.{Doomed, doomed_after}
use Rattle.tm_model.specs.Runs.{doomed_at_end}
use Rattle.tm_model.specs.Setting.{Setting, program_setting}
use Rattle.tm_model.specs.State.{State, opening_state}
use Rattle.tm_model.specs.Steps.{run, step}
use Rattle.tm_core.specs.declared.limits.Limits.{Limits}
use Rattle.tm_core.specs.Theorem.{AreOwedAlone, ShownMachine as Machine, StandsFor, TakesStep, machine_setting}
use Rattle.tm_core.proofs.OwedAlone.{alone_behind, alone_step}
use Rattle.tm_hist.specs.Board.{AreOwedNext, IsHistory, SameBoard, ShownBoard, board_setting}

-- ---- what the board's machine makes

pub made_alone : (b : ShownBoard) (steps : List (ℕ × Outcome)) → IsHistory b
    → ((a : State) (d : Doomed) → StandsFor b.machine a d → AreOwedAlone (machine_setting b.machine) a d steps)
    → AreOwedNext b steps
made_alone b steps h each end is =
    let doom : Doomed = doomed_at_end (board_setting b) (opening_state b.program) (λ _. None) b.history in
    let same : h.end ≡ end = same_Some h.end end (sym h.is_run ∙ is) in
    subst (λ (a : State). AreOwedAlone (board_setting b) a doom steps) same
    (subst (λ (k : Setting). AreOwedAlone k h.end doom steps) h.rules (each h.end doom h.stands))

pub step_alone : (b : ShownBoard) (new : Machine) (c : ℕ) (o : Outcome) → IsHistory b
    → ((a : State) (d : Doomed) → StandsFor b.machine a d → TakesStep b.machine new a d c o)
    → AreOwedNext b ((c, o) ∷ [])
step_alone b new c o h takes =
    made_alone b ((c, o) ∷ []) h
    (λ a d stands.
    let made : TakesStep b.machine new a d c o = takes a d stands in
    alone_step (machine_setting b.machine) a d c o made.next made.is_owed made.is_step)

-- ---- some behind others

-- behind this history
abbrev Behind : Setting → State → Doomed → List (ℕ × Outcome) → List (ℕ × Outcome) → Type 0
Behind k a d history steps =
    (end : State) → run k a history ≡ Some end → AreOwedAlone k end (doomed_at_end k a d history) steps

behind_both : (k : Setting) (a : State) (d : Doomed) (history first second : List (ℕ × Outcome))
    → Behind k a d history first → Behind k a d (history ++ first) second → Behind k a d history (first ++ second)
behind_both k a d [] first second one other end is =
    subst (λ (s : State). AreOwedAlone k s d (first ++ second)) (same_Some a end is)
    (alone_behind k a d first second (one a refl) other)
behind_both k a d (p ∷ history) first second one other end is =
    let next : Doomed = doomed_after k a d p.0 p.1 in
    (elim (step k a p.0 p.1) as (λ s.
    ((z : State) → option_and_then (λ b. run k b history) s ≡ Some z
    → AreOwedAlone k z (elim s [ None ↦ d | Some b ↦ doomed_at_end k b next history ]) first) →
    ((z : State) → option_and_then (λ b. run k b (history ++ first)) s ≡ Some z
    → AreOwedAlone k z (elim s [ None ↦ d | Some b ↦ doomed_at_end k b next (history ++ first) ]) second) →
    option_and_then (λ b. run k b history) s ≡ Some end
    → AreOwedAlone k end (elim s [ None ↦ d | Some b ↦ doomed_at_end k b next history ]) (first ++ second)) [
      | None ↦ λ _ _ never. absurd (cc)
      | Some b ↦ λ one other. behind_both k b next history first second one other end
    ]) one other is

-- of a program under these limits
abbrev BehindOf : Program → Limits → List (ℕ × Outcome) → List (ℕ × Outcome) → Type 0
BehindOf program limits =
    Behind (program_setting program limits.read_lines limits.write_lines limits.stores) (opening_state program)
    (λ _. None)

-- steps that one board makes, and then the other one
pub both_alone : (b0 b1 : ShownBoard) (first second : List (ℕ × Outcome)) → SameBoard b0 b1
    → b1.history ≡ b0.history ++ first → AreOwedNext b0 first → AreOwedNext b1 second
    → AreOwedNext b0 (first ++ second)
both_alone b0 b1 first second same grown one other =
    let whole : List (ℕ × Outcome) = b0.history ++ first in
    let then : BehindOf b0.program b0.limits whole second =
    subst (λ (p : Program). BehindOf p b0.limits whole second) same.program
    (subst (λ (l : Limits). BehindOf b1.program l whole second) same.limits
    (subst (λ (history : List (ℕ × Outcome)). BehindOf b1.program b1.limits history second) grown other)) in
    behind_both (board_setting b0) (opening_state b0.program) (λ _. None) b0.history first second one then
