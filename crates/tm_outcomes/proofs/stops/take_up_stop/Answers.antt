use Rattle.std.proofs.Common.{◌≡◌, ◌≢◌, List, [], ◌∷◌, Some, get_or, refl, sym, ◌∙◌, subst}
use Rattle.std.proofs.lemmas.Bool.{false≢true}
use Rattle.std.proofs.lemmas.List.{get_or_default}
use Rattle.std.proofs.lemmas.List.Elements.{All-append, All-cons, All-nil, All-weaker}
use Rattle.std.proofs.lemmas.List.Quantifiers.{Any-push, all_pairs_push}
use Rattle.tm_model.specs.declared.outcome.Pick.{Pick}
use Rattle.tm_outcomes.specs.Nodes.{IsPickOf, schedule_at}
use Rattle.tm_outcomes.specs.Outcomes.{AreAllowed, IsAllowed, IsSparing, trial_opening, trial_setting}
use Rattle.tm_outcomes.specs.Schedules.{after_schedule}
use Rattle.tm_outcomes.specs.Searching.{AreStops}
use Rattle.tm_outcomes.specs.Verdicts.{IsStop, IsStopTold}
use Rattle.tm_outcomes.specs.declared.stops.ReachedStop.{ReachedStop}
use Rattle.tm_outcomes.proofs.Stopping.{told_more}
use Rattle.tm_outcomes.proofs.stops.take_up_stop.Goals as goal

pub schedule_of-requires-clause-tree : goal.schedule_of-requires-clause-tree
schedule_of-requires-clause-tree c = (c.args.task.now.trial, c.requires.at.tree)

pub returns-then-not-stops_by-clause-found : goal.returns-then-not-stops_by-clause-found
returns-then-not-stops_by-clause-found c = λ now stands stopped.
    absurd (false≢true (sym c.if-not-stops_by.true ∙ (c.stops_by.ensures now stands).1 stopped))

pub returns-then-is_told-clause-found : goal.returns-then-is_told-clause-found
returns-then-is_told-clause-found c = λ now stands stopped.
    subst (λ (ss : List ReachedStop). IsStopTold ss c.args.why) c.as_slice.ensures.value
    (c.is_told.ensures.0 c.if-is_told.true)

pub returns-clause-stops : goal.returns-clause-stops
returns-clause-stops c =
    let trial = c.args.task.now.trial in
    let schedules = c.requires.at.tree.0 in
    let tree = c.requires.at.tree.1 in
    let at = c.requires.at.here schedules tree in
    let before = c.args.stops.now.items in
    let told : ReachedStop = record { why = c.args.why; schedule = c.in_ok-schedule.schedule } in
    let same : c.in_ok-schedule.schedule.items ≡ schedule_at schedules c.args.at.now.index =
    c.in_ok-schedule.ensures trial schedules tree in
    let is : IsStop trial told = record {
      asked = c.requires.asked;
      now = at.now;
      reached = record {
        allowed = subst (λ (s : List Pick). AreAllowed trial s) (sym same)
            (All-weaker (IsPickOf trial) (λ (pick : Pick). IsAllowed trial.events pick.event)
            (λ (pick : Pick) is. is.allowed)
            (schedule_at schedules c.args.at.now.index) (tree.picks c.args.at.now.index c.requires.at.within));
        is_run = subst (λ (s : List Pick). after_schedule (trial_setting trial) (trial_opening trial) s ≡ Some at.now)
            (sym same) at.is_run;
      };
      sparing = subst (λ (s : List Pick). IsSparing trial s) (sym same)
          (tree.runs c.args.at.now.index c.requires.at.within).3;
      stops = (c.stops_by.ensures at.now at.stands).0 c.if-not-stops_by.false;
    } in
    subst (λ (ss : List ReachedStop). AreStops trial ss) (sym c.in_ok-push.ensures.items)
    (record {
      told = All-append (IsStop trial) before (told ∷ []) c.requires.stops.told
          (All-cons (IsStop trial) told [] is (All-nil (IsStop trial)));
      once = all_pairs_push (λ (one other : ReachedStop). one.why ≢ other.why) before told c.requires.stops.once
          (λ k d below same_why.
          let there : IsStopTold before c.args.why =
          (k, get_or before k d, below, get_or_default before k (get_or before k d) d below, same_why) in
          false≢true (sym c.if-is_told.false
          ∙ c.is_told.ensures.1
          (subst (λ (ss : List ReachedStop). IsStopTold ss c.args.why) (sym c.as_slice.ensures.value) there)));
    })

pub returns-clause-kept : goal.returns-clause-kept
returns-clause-kept c = λ other told.
    subst (λ (ss : List ReachedStop). IsStopTold ss other) (sym c.in_ok-push.ensures.items)
    (told_more c.args.stops.now.items _ other told)

pub returns-clause-found : goal.returns-clause-found
returns-clause-found c = λ now stands stopped.
    subst (λ (ss : List ReachedStop). IsStopTold ss c.args.why) (sym c.in_ok-push.ensures.items)
    (Any-push (λ (told : ReachedStop). told.why ≡ c.args.why) c.args.stops.now.items _ refl)
