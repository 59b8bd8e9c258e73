-- Steps that are made one after another, and one more.
use Rattle.std.proofs.Common.{◌≡◌, ℕ, List, [], ◌∷◌, ◌++◌, refl, sym, ap, ◌∙◌, subst}
use Rattle.tm_core.specs.Theorem.{ShownMachine as Machine}
use Rattle.tm_hist.specs.Board.{ShownBoard as Board}
use Rattle.tm_model.specs.declared.outcome.Outcome.{Outcome}
use Rattle.tm_model.specs.declared.outcome.Pick.{Pick}
use Rattle.tm_hunt.specs.Runs.{AreLeft, IsNext, IsStep, last_core}

pub last_more : (core : ℕ) (history : List (ℕ × Outcome)) (made : ℕ × Outcome)
    → last_core core (history ++ made ∷ []) ≡ made.0
last_more core [] made = refl
last_more core (before ∷ history) made = last_more before.0 history made

pub last_is : (pick : Pick) (before after : Board) → IsStep pick before after → pick.core ≡ last_core 0 after.history
last_is pick before after step =
    sym (ap (last_core 0) step.made ∙ last_more 0 before.history (pick.core, step.outcome))

-- the next step, of a machine and a core that are those of the board
pub next_of : {Steps : Type 0} (picks : Steps → Machine → ℕ → List ℕ → Pick → Steps → Type 0) (source next : Steps)
    (before after : Board) (machine : Machine) (last : ℕ)
    (going : List ℕ) (pick : Pick) → machine ≡ before.machine → last ≡ last_core 0 before.history → AreLeft before going
    → picks source machine last going pick next →
    IsStep pick before after → IsNext picks source next before after
next_of picks source next before after machine last going pick same_machine same_last left picked step = record {
  going = going;
  left = left;
  pick = pick;
  picked = subst (λ (core : ℕ). picks source before.machine core going pick next) same_last
      (subst (λ (shown : Machine). picks source shown last going pick next) same_machine picked);
  step = step;
}
