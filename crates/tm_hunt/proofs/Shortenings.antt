-- Ways to make a schedule shorter, one behind the other, and a try, which is the least of them.
use Rattle.std.proofs.Common.{◌≡◌, ◌≤◌, ◌∙◌, refl, arith}
use Rattle.tm_hunt.specs.Attempts.{IsFailure}
use Rattle.tm_hunt.specs.Deciding.{cost_told}
use Rattle.tm_hunt.specs.Hunt.{IsTrialOf}
use Rattle.tm_hunt.specs.Kept.{ComesOf, HasDrain, KeepsKinds}
use Rattle.tm_hunt.specs.Shortening.{CanShorten, Shortens, Simplifies}
use Rattle.tm_hunt.specs.declared.failure.Failure.{Failure}
use Rattle.tm_hunt.specs.declared.shortening.Front.{Front}
use Rattle.tm_hunt.specs.declared.trial.Trial.{Trial}
use Rattle.tm_hunt.proofs.KeptKinds.{keep_front, keep_more, keep_other, keep_same}

-- ---- one behind the other

pub shortens_none : (trial : Trial) (front : Front) (best : Failure) → CanShorten trial front best →
    Shortens trial front best front best
shortens_none trial front best can = record {
  again = can;
  same = refl;
  simpler = omega arith;
  kinds = keep_same front.steps.items best.picks.items;
}

pub shortens_more : {trial : Trial} {first middle last : Front} {first_best middle_best last_best : Failure} →
    Shortens trial first first_best middle middle_best → Shortens trial middle middle_best last last_best →
    Shortens trial first first_best last last_best
shortens_more {trial} {first} {middle} {last} {first_best} {middle_best} {last_best} one other = record {
  again = other.again;
  same = other.same ∙ one.same;
  simpler = let a = one.simpler in let b = other.simpler in omega arith;
  kinds = keep_more first.steps.items first_best.picks.items middle.steps.items middle_best.picks.items
      last.steps.items last_best.picks.items one.kinds other.kinds;
}

pub can_again : (trial : Trial) (first : Front) (first_best : Failure) (last : Front) (last_best : Failure) →
    Shortens trial first first_best last last_best → CanShorten trial last last_best
can_again trial first first_best last last_best shortens = shortens.again

pub ruleset shortenings = (shortens_none, shortens_more, can_again)

-- ---- a try

pub board_of_trial : (trial : Trial) (front : Front) (best : Failure) → CanShorten trial front best →
    IsTrialOf trial front.board
board_of_trial trial front best can = can.of_trial

-- the board made a run, of which nothing is taken
pub tried : (trial : Trial) (front after : Front) (best : Failure) → CanShorten trial front best →
    after.steps ≡ front.steps → IsTrialOf trial after.board → Shortens trial front best after best
tried trial front after best can same of_trial = record {
  again = record { fails = can.fails; of_trial = of_trial };
  same = refl;
  simpler = omega arith;
  kinds = rw same (keep_same front.steps.items best.picks.items);
}

-- another front, whose schedule is not taken
pub tried_other : (trial : Trial) (front after : Front) (best : Failure) → CanShorten trial front best →
    KeepsKinds front.steps.items after.steps.items → IsTrialOf trial after.board →
    Shortens trial front best after best
tried_other trial front after best can kinds of_trial = record {
  again = record { fails = can.fails; of_trial = of_trial };
  same = refl;
  simpler = omega arith;
  kinds = keep_front front.steps.items best.picks.items after.steps.items kinds;
}

-- another front, and the schedule that it leads to
pub took_other : (trial : Trial) (front after : Front) (best failure : Failure) → IsFailure trial failure →
    failure.check ≡ best.check → cost_told failure ≤ cost_told best →
    KeepsKinds front.steps.items after.steps.items →
    ComesOf trial.limits.stores after.steps.items failure.picks.items →
    (HasDrain failure.picks.items → HasDrain best.picks.items) →
    IsTrialOf trial after.board → Shortens trial front best after failure
took_other trial front after best failure fails same simpler kinds led drains of_trial = record {
  again = record { fails = fails; of_trial = of_trial };
  same = same;
  simpler = simpler;
  kinds = keep_other trial.limits.stores front.steps.items best.picks.items after.steps.items failure.picks.items kinds
      led drains;
}

-- for the tries of a front
pub ruleset trying = (board_of_trial, tried, tried_other, took_other)

-- ---- a simpler failure

pub simplifies_none : (trial : Trial) (best : Failure) → IsFailure trial best → Simplifies trial best best
simplifies_none trial best fails =
    record { fails = fails; same = refl; simpler = omega arith; kinds = λ kinds h. h }

pub simplifies_more : (trial : Trial) (first middle last : Failure) → Simplifies trial first middle →
    Simplifies trial middle last → Simplifies trial first last
simplifies_more trial first middle last one other = record {
  fails = other.fails;
  same = other.same ∙ one.same;
  simpler = let a = one.simpler in let b = other.simpler in omega arith;
  kinds = λ kinds h. other.kinds kinds (one.kinds kinds h);
}

pub fails_again : (trial : Trial) (old best : Failure) → Simplifies trial old best → IsFailure trial best
fails_again trial old best simpler = simpler.fails

-- by a front of its steps
pub simplifies_by : (trial : Trial) (front after : Front) (old best : Failure) →
    KeepsKinds old.picks.items front.steps.items → Shortens trial front old after best → Simplifies trial old best
simplifies_by trial front after old best kept shortens = record {
  fails = shortens.again.fails;
  same = shortens.same;
  simpler = shortens.simpler;
  kinds = λ kinds h. shortens.kinds.best kinds (kept kinds h) h;
}

pub ruleset simplifying = (simplifies_none, simplifies_more, fails_again)
