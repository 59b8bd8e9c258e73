use Rattle.std.proofs.Common.{◌≡◌, ◌≢◌, List, [], ◌∷◌, Some, get_or, refl, sym, ◌∙◌, subst}
use Rattle.std.proofs.lemmas.Bool.{false≢true}
use Rattle.std.proofs.lemmas.List.{get_or_default}
use Rattle.std.proofs.lemmas.List.Elements.{All-append, All-cons, All-nil, All-weaker}
use Rattle.std.proofs.lemmas.List.Quantifiers.{Any-push, all_pairs_push}
use Rattle.std.proofs.lemmas.Option.{get_or_from_slice_get, slice_get-get_or}
use Rattle.tm_condition.specs.Conditions.{Violates}
use Rattle.tm_condition.specs.declared.check.Check.{Check}
use Rattle.tm_model.specs.declared.outcome.Pick.{Pick}
use Rattle.tm_outcomes.specs.Nodes.{IsPickOf, schedule_at}
use Rattle.tm_outcomes.specs.Outcomes.{AreAllowed, IsAllowed, IsSparing, trial_opening, trial_setting}
use Rattle.tm_outcomes.specs.Schedules.{after_schedule}
use Rattle.tm_outcomes.specs.Searching.{AreViolations}
use Rattle.tm_outcomes.specs.Verdicts.{IsViolation, IsViolationTold, seen_at}
use Rattle.tm_outcomes.specs.declared.violations.Violation.{Violation}
use Rattle.tm_outcomes.proofs.Violating.{told_more}
use Rattle.tm_outcomes.proofs.violations.take_up_check.Goals as goal

pub schedule_of-requires-clause-tree : goal.schedule_of-requires-clause-tree
schedule_of-requires-clause-tree c = (c.args.task.now.trial, c.requires.at.tree)

pub returns-then-is_told-clause-found : goal.returns-then-is_told-clause-found
returns-then-is_told-clause-found c = λ what is now stands violates.
    subst (λ (vs : List Violation). IsViolationTold vs c.args.check) c.as_slice.ensures.value
    (c.is_told.ensures.0 c.if-is_told.true)

pub returns-then-not-violates-clause-found : goal.returns-then-not-violates-clause-found
returns-then-not-violates-clause-found c = λ what is now stands violates.
    absurd (false≢true (sym c.if-not-violates.true ∙ (c.violates.ensures now stands).1
    (subst (λ (k : Check). Violates (seen_at now.state) k)
    (sym (get_or_from_slice_get c.args.task.now.trial.checks.now c.args.check what _ is)) violates)))

pub returns-clause-violations : goal.returns-clause-violations
returns-clause-violations c =
    let trial = c.args.task.now.trial in
    let schedules = c.requires.at.tree.0 in
    let tree = c.requires.at.tree.1 in
    let at = c.requires.at.here schedules tree in
    let before = c.args.violations.now.items in
    let told : Violation = record { check = c.args.check; schedule = c.in_ok-schedule.schedule } in
    let same : c.in_ok-schedule.schedule.items ≡ schedule_at schedules c.args.at.now.index =
    c.in_ok-schedule.ensures trial schedules tree in
    let is : IsViolation trial told = record {
      check = _;
      asked = slice_get-get_or trial.checks.now c.args.check _ c.requires.asked;
      end = at.now;
      reached = record {
        allowed = subst (λ (s : List Pick). AreAllowed trial s) (sym same)
            (All-weaker (IsPickOf trial) (λ (pick : Pick). IsAllowed trial.events pick.event)
            (λ (pick : Pick) is. is.allowed)
            (schedule_at schedules c.args.at.now.index) (tree.picks c.args.at.now.index c.requires.at.within));
        is_run = subst (λ (s : List Pick). after_schedule (trial_setting trial) (trial_opening trial) s ≡ Some at.now)
            (sym same) at.is_run;
      };
      sparing = subst (λ (s : List Pick). IsSparing trial s) (sym same)
          (tree.runs c.args.at.now.index c.requires.at.within).3;
      has_ended = c.requires.ended at.now at.stands;
      violates = (c.violates.ensures at.now at.stands).0 c.if-not-violates.false;
    } in
    subst (λ (vs : List Violation). AreViolations trial vs) (sym c.in_ok-push.ensures.items)
    (record {
      told = All-append (IsViolation trial) before (told ∷ []) c.requires.violations.told
          (All-cons (IsViolation trial) told [] is (All-nil (IsViolation trial)));
      once = all_pairs_push (λ (one other : Violation). one.check ≢ other.check) before told c.requires.violations.once
          (λ k d below same_check.
          let there : IsViolationTold before c.args.check =
          (k, get_or before k d, below, get_or_default before k (get_or before k d) d below, same_check) in
          false≢true (sym c.if-is_told.false
          ∙ c.is_told.ensures.1
          (subst (λ (vs : List Violation). IsViolationTold vs c.args.check) (sym c.as_slice.ensures.value) there)));
    })

pub returns-clause-kept : goal.returns-clause-kept
returns-clause-kept c = λ other told.
    subst (λ (vs : List Violation). IsViolationTold vs other) (sym c.in_ok-push.ensures.items)
    (told_more c.args.violations.now.items _ other told)

pub returns-clause-found : goal.returns-clause-found
returns-clause-found c = λ what is now stands violates.
    subst (λ (vs : List Violation). IsViolationTold vs c.args.check) (sym c.in_ok-push.ensures.items)
    (Any-push (λ (told : Violation). told.check ≡ c.args.check) c.args.violations.now.items _ refl)
