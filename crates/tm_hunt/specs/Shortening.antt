-- What the ways to make a failing schedule shorter ask, and what they leave.
use Rattle.std.specs.Prelude.{◌≡◌, ◌≤◌}
use Rattle.tm_hunt.specs.Attempts.{IsFailure}
use Rattle.tm_hunt.specs.Deciding.{cost_told}
use Rattle.tm_hunt.specs.Hunt.{IsTrialOf}
use Rattle.tm_hunt.specs.Kept.{KeepKinds, KeepsKinds}
use Rattle.tm_hunt.specs.declared.failure.Failure.{Failure}
use Rattle.tm_hunt.specs.declared.shortening.Front.{Front}
use Rattle.tm_hunt.specs.declared.trial.Trial.{Trial}

-- the best schedule so far fails, and tries are made on a board of the trial
pub record CanShorten (trial : Trial) (front : Front) (best : Failure) : Type 0 where
  pub fails : IsFailure trial best
  pub of_trial : IsTrialOf trial front.board

-- a front and the best schedule so far became these: it still fails, by the same check, is told no less simply, and no
-- event is there that was not
pub record Shortens (trial : Trial) (old_front : Front) (old : Failure) (front : Front) (best : Failure) : Type 0 where
  pub again : CanShorten trial front best
  pub same : best.check ≡ old.check
  pub simpler : cost_told best ≤ cost_told old
  pub kinds : KeepKinds old_front.steps.items old.picks.items front.steps.items best.picks.items

-- a failure became this one: it fails by the same check, is told no less simply, and no event is there of a kind that
-- was not
pub record Simplifies (trial : Trial) (old best : Failure) : Type 0 where
  pub fails : IsFailure trial best
  pub same : best.check ≡ old.check
  pub simpler : cost_told best ≤ cost_told old
  pub kinds : KeepsKinds old.picks.items best.picks.items
