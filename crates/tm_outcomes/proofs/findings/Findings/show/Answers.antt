use Rattle.std.proofs.Common.{◌≡◌, ℕ, List, [], ◌∷◌, Some, sym, ◌∙◌, subst, arith}
use Rattle.std.specs.Prelude.{All, Contains}
use Rattle.std.proofs.lemmas.Bool.{false≢true}
use Rattle.std.proofs.lemmas.List.Elements.{All-append, All-cons, All-nil, All-weaker, Contains-append_left}
use Rattle.std.proofs.lemmas.List.Elements.{Contains-push}
use Rattle.tm_model.specs.declared.outcome.Pick.{Pick}
use Rattle.tm_outcomes.specs.Nodes.{IsEnd, IsPickOf, schedule_at}
use Rattle.tm_outcomes.specs.Outcomes.{AreAllowed, AreTold, IsAllowed, IsSparing, trial_opening, trial_setting}
use Rattle.tm_outcomes.specs.Places.{IsAt}
use Rattle.tm_outcomes.specs.Schedules.{after_schedule}
use Rattle.tm_outcomes.proofs.Leads.{leads_stands}
use Rattle.tm_outcomes.proofs.findings.Findings.show.Goals as goal

pub take_up_stops-requires-clause-at : goal.take_up_stops-requires-clause-at
take_up_stops-requires-clause-at c =
    record { within = c.requires.within; tree = c.requires.nodes.tree; here = c.in_ok-come_to.ensures.start }

pub take_up_wait-requires-clause-at : goal.take_up_wait-requires-clause-at
take_up_wait-requires-clause-at c =
    record { within = c.requires.within; tree = c.requires.nodes.tree; here = c.in_ok-come_to.ensures.start }

pub take_up_checks-requires-clause-at : goal.take_up_checks-requires-clause-at
take_up_checks-requires-clause-at c =
    record { within = c.requires.within; tree = c.requires.nodes.tree; here = c.in_ok-come_to.ensures.start }

pub schedule_of-requires-clause-tree : goal.schedule_of-requires-clause-tree
schedule_of-requires-clause-tree c = (c.args.task.now.trial, c.requires.nodes.tree)

pub take_up-requires-clause-outcome : goal.take_up-requires-clause-outcome
take_up-requires-clause-outcome c =
    let trial = c.args.task.now.trial in
    let place = c.come_to.new.self.start in
    let schedules = c.requires.nodes.tree.0 in
    let tree = c.requires.nodes.tree.1 in
    let at : IsAt trial place (schedule_at schedules c.args.index) = c.in_ok-come_to.ensures.start schedules tree in
    let same : c.in_ok-schedule.schedule.items ≡ schedule_at schedules c.args.index =
    c.in_ok-schedule.ensures trial schedules tree in
    record {
      allowed = subst (λ (s : List Pick). AreAllowed trial s) (sym same)
          (All-weaker (IsPickOf trial) (λ (pick : Pick). IsAllowed trial.events pick.event)
          (λ (pick : Pick) is. is.allowed)
          (schedule_at schedules c.args.index) (tree.picks c.args.index c.requires.within));
      end = at.now;
      is_run = subst (λ (s : List Pick). after_schedule (trial_setting trial) (trial_opening trial) s ≡ Some at.now)
          (sym same) at.is_run;
      has_ended = (c.has_ended.ensures at.now at.stands).0 c.if-not-has_ended.false;
      shown = c.in_ok-values.ensures at.now at.stands;
    }

pub take_up-requires-clause-sparing : goal.take_up-requires-clause-sparing
take_up-requires-clause-sparing c =
    let trial = c.args.task.now.trial in
    let tree = c.requires.nodes.tree.1 in
    subst (λ (s : List Pick). IsSparing trial s) (sym (c.in_ok-schedule.ensures trial c.requires.nodes.tree.0 tree))
    (tree.runs c.args.index c.requires.within).3

pub returns-then-not-has_ended-clause-shows : goal.returns-then-not-has_ended-clause-shows
returns-then-not-has_ended-clause-shows c = λ schedules tree.
    let trial = c.args.task.now.trial in
    let place = c.come_to.new.self.start in
    let at : IsAt trial place (schedule_at schedules c.args.index) = c.in_ok-come_to.ensures.start schedules tree in
    record {
      shown = record {
        outcome = λ now leads ended. absurd (false≢true (sym c.if-not-has_ended.true
            ∙ (c.has_ended.ensures now (leads_stands trial schedules c.args.index place now at leads)).1 ended));
        end = λ now leads ended. absurd (false≢true (sym c.if-not-has_ended.true
            ∙ (c.has_ended.ensures now (leads_stands trial schedules c.args.index place now at leads)).1 ended));
        stops = λ now leads why asked stopped.
            c.in_ok-take_up_stops.ensures.found why asked now
            (leads_stands trial schedules c.args.index place now at leads) stopped;
        room = λ none now leads.
            c.take_up_wait.ensures.found none now (leads_stands trial schedules c.args.index place now at leads);
        checks = λ now leads ended. absurd (false≢true (sym c.if-not-has_ended.true
            ∙ (c.has_ended.ensures now (leads_stands trial schedules c.args.index place now at leads)).1 ended));
      };
      ends = λ all. all;
      kept = λ other was. record {
        outcome = was.outcome;
        end = was.end;
        stops = λ now leads why asked stopped. c.in_ok-take_up_stops.ensures.kept why
            (was.stops now leads why asked stopped);
        room = λ none now leads. was.room (c.take_up_wait.ensures.kept none) now leads;
        checks = was.checks;
      };
    }

pub take_up_checks-requires-clause-ended : goal.take_up_checks-requires-clause-ended
take_up_checks-requires-clause-ended c = λ now stands. (c.has_ended.ensures now stands).0 c.if-not-has_ended.false

pub returns-clause-shows : goal.returns-clause-shows
returns-clause-shows c = λ schedules tree.
    let trial = c.args.task.now.trial in
    let index = c.args.index in
    let place = c.come_to.new.self.start in
    let before = c.args.self.now.ends.items in
    let at : IsAt trial place (schedule_at schedules index) = c.in_ok-come_to.ensures.start schedules tree in
    let here : IsEnd trial schedules index = record {
      within = (let t = tree.counted in let w = c.requires.within in omega arith);
      ended = λ now leads. (c.has_ended.ensures now (leads_stands trial schedules index place now at leads)).0
          c.if-not-has_ended.false;
    } in
    let ends = c.in_ok-add_end.ensures in
    record {
      shown = record {
        outcome = λ now leads ended. subst (λ (v : List ℕ). AreTold c.take_up.new.table.items v)
            (c.in_ok-values.ensures now (leads_stands trial schedules index place now at leads))
            c.in_ok-take_up.ensures.here;
        end = λ now leads ended. subst (λ (es : List ℕ). Contains es index) (sym ends) (Contains-push before index);
        stops = λ now leads why asked stopped.
            c.in_ok-take_up_stops.ensures.found why asked now
            (leads_stands trial schedules index place now at leads) stopped;
        room = λ none now leads.
            c.take_up_wait.ensures.found none now (leads_stands trial schedules index place now at leads);
        checks = λ now leads ended check what asked violates.
            c.in_ok-take_up_checks.ensures.found check what asked now
            (leads_stands trial schedules index place now at leads) violates;
      };
      ends = λ all. subst (λ (es : List ℕ). All (IsEnd trial schedules) es) (sym ends)
          (All-append (IsEnd trial schedules) before (index ∷ []) all
          (All-cons (IsEnd trial schedules) index [] here (All-nil (IsEnd trial schedules))));
      kept = λ other was. record {
        outcome = λ now leads ended. c.in_ok-take_up.ensures.kept _ (was.outcome now leads ended);
        end = λ now leads ended. subst (λ (es : List ℕ). Contains es other) (sym ends)
            (Contains-append_left before (index ∷ []) other (was.end now leads ended));
        stops = λ now leads why asked stopped. c.in_ok-take_up_stops.ensures.kept why
            (was.stops now leads why asked stopped);
        room = λ none now leads. was.room (c.take_up_wait.ensures.kept none) now leads;
        checks = λ now leads ended check what asked violates.
            c.in_ok-take_up_checks.ensures.kept check (was.checks now leads ended check what asked violates);
      };
    }
