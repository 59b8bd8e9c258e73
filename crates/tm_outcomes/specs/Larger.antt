-- A trial with room for more stores: what its schedules lead to.
use Rattle.std.specs.Prelude.{◌≡◌, ℕ, List}
use Rattle.tm_model.specs.declared.outcome.Pick.{Pick}
use Rattle.tm_outcomes.specs.Outcomes.{AreAllowed, trial_opening, trial_setting}
use Rattle.tm_outcomes.specs.Schedules.{after_schedule}
use Rattle.tm_outcomes.specs.declared.trial.Trial.{Trial}

-- the trial with room for so many stores of a core that are pending
abbrev pub with_room : ℕ → Trial → Trial
with_room stores trial = record trial { limits = record trial.limits { stores = stores } }

-- With it each schedule, whose steps come under what the trial says, leads to the same state of the machine, with the
-- same doomed cores. So the outcomes are the same, the stops, and the states from which no schedule leads to an end.
abbrev pub LeadsAlike : ℕ → Trial → Type 0
LeadsAlike stores trial =
    (schedule : List Pick) → AreAllowed trial schedule →
    after_schedule (trial_setting (with_room stores trial)) (trial_opening trial) schedule
    ≡ after_schedule (trial_setting trial) (trial_opening trial) schedule
