-- What following one pick leaves, as the next one asks for it, and as callers promise it.
use Rattle.std.proofs.Common.{ℕ, Option, Result}
use Rattle.std.proofs.lemmas.Result.{IfOk-weaker}
use Rattle.std.specs.Result.{IfOk}
use Rattle.tm_model.specs.declared.outcome.Event.{Event}
use Rattle.tm_outcomes.specs.Following.{HasFollowed, GoesOnFrom, HasBench}
use Rattle.tm_outcomes.specs.Searching.{IsFollowedIn}
use Rattle.tm_outcomes.specs.declared.bench.Bench.{Bench}
use Rattle.tm_outcomes.specs.declared.fault.SearchFault.{SearchFault}
use Rattle.tm_outcomes.specs.declared.searching.Progress.{Progress}
use Rattle.tm_outcomes.specs.declared.searching.Searching.{Searching}
use Rattle.tm_outcomes.specs.declared.trial.Trial.{Trial}
use Rattle.tm_outcomes.proofs.Grown.{has_node, has_tree}

-- the same node, behind what was followed
pub goes_on_from : (trial : Trial) (most index core : ℕ) (before after : Searching) (old new : Bench)
    (under : Option Event → Type 0) → GoesOnFrom trial most before old index →
    IsFollowedIn trial most before after index core under → HasBench trial after new →
    GoesOnFrom trial most after new index
goes_on_from trial most index core before after old new under from followed has = record {
  within = has_node trial most index core before after under followed from.tree from.within;
  few = followed.few;
  tree = has_tree trial most index core before after under followed from.tree;
  has_bench = has;
}

-- where what was followed is followed so
pub follows_so : (trial : Trial) (most index core : ℕ) (before middle after : Searching) (bench : Bench)
    (under so : Option Event → Type 0) → (IsFollowedIn trial most middle after index core under →
    IsFollowedIn trial most before after index core so) →
    (r : Result Progress SearchFault) → IfOk r (HasFollowed trial most middle after bench index core under) →
    IfOk r (HasFollowed trial most before after bench index core so)
follows_so trial most index core before middle after bench under so turns r follows =
    IfOk-weaker r (HasFollowed trial most middle after bench index core under)
    (HasFollowed trial most before after bench index core so)
    (λ (progress : Progress) is. record {
      followed = λ on. turns (is.followed on);
      cut = is.cut;
      has_bench = is.has_bench;
    })
    follows
