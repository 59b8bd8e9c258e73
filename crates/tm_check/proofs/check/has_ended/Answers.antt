use Rattle.std.proofs.Common.{◌≡◌, ℕ, ◌+◌, ◌<◌, inl, inr, subst, arith}
use Rattle.std.proofs.lemmas.Bool.{cases_lt}
use Rattle.tm_hist.specs.Board.{IsStopped, ShownBoard}
use Rattle.tm_check.proofs.check.has_ended.Goals as goal

-- one more core has stopped
stopped_more : (board : ShownBoard) (n : ℕ) → ((core : ℕ) → core < n → IsStopped board core) → IsStopped board n
    → (core : ℕ) → core < n + 1 → IsStopped board core
stopped_more board n before here core below =
    elim (cases_lt core n) [
      | inl less ↦ before core less
      | inr more ↦ let same : n ≡ core = omega arith in subst (λ k. IsStopped board k) same here
    ]

pub loop-core-preserved : goal.loop-core-preserved
loop-core-preserved c = stopped_more c.args.board.now c.loop-core.core c.loop-core.invariant
    (c.is_stopped.ensures.0 c.if-not-is_stopped.false)
