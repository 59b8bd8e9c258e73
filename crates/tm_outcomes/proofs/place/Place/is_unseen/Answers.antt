use Rattle.std.proofs.Common.{◌≡◌, true, false, cond, ℕ, ◌<◌, length, sym, ap, ◌∙◌, arith}
use Rattle.tm_core.specs.Theorem.{StandsFor, view_at}
use Rattle.tm_model.specs.Setting.{Setting}
use Rattle.tm_outcomes.specs.Outcomes.{trial_setting}
use Rattle.tm_outcomes.specs.Places.{IsPlaceOf}
use Rattle.tm_outcomes.specs.Resting.{is_condemned, is_running}
use Rattle.tm_outcomes.specs.Schedules.{Situation}
use Rattle.tm_outcomes.specs.Unseen.{is_unseen, touches_nothing}
use Rattle.tm_outcomes.specs.declared.place.Place.{Place}
use Rattle.tm_outcomes.specs.declared.trial.Trial.{Trial}
use Rattle.tm_outcomes.proofs.Leads.{shows}
use Rattle.tm_outcomes.proofs.Resting.{unseen_by, unseen_shown}
use Rattle.tm_outcomes.proofs.place.Place.is_unseen.Goals as goal

-- by what the machine shows
shown : (trial : Trial) (place : Place) (core : ℕ) → IsPlaceOf trial place → core < length trial.program.now.entries →
    (now : Situation) → StandsFor place.machine now.state now.doomed →
    is_unseen (trial_setting trial) now.state.memory (now.state.pending core) (now.state.cores core) (now.doomed core)
    ≡ unseen_by (trial_setting trial) now.state.memory (now.state.pending core) (view_at place.machine core)
shown trial place core is is_core now stands =
    let setting : Setting = trial_setting trial in
    unseen_shown setting now.state.memory (now.state.pending core) (now.state.cores core) (now.doomed core)
    (view_at place.machine core)
    (shows place.machine setting now is.rules stands core (let count = is.count in omega arith))

pub returns-then-is_condemned : goal.returns-then-is_condemned
returns-then-is_condemned c = λ now stands.
    let trial = c.args.trial.now in
    let view = view_at c.args.self.now.machine c.args.core in
    let memory = now.state.memory in
    let left = now.state.pending c.args.core in
    let condemned : is_condemned view.mode ≡ true =
    ap is_condemned (sym c.in-Ok.ensures.shown) ∙ (sym c.is_condemned.ensures ∙ c.if-is_condemned.true) in
    sym (shown trial c.args.self.now c.args.core c.requires.place c.requires.core now stands
    ∙ ap (λ t. cond t true
    (cond (is_running view.mode) (touches_nothing (trial_setting trial) memory left view.base) false)) condemned)

pub returns-then-not-is_running : goal.returns-then-not-is_running
returns-then-not-is_running c = λ now stands.
    let trial = c.args.trial.now in
    let view = view_at c.args.self.now.machine c.args.core in
    let memory = now.state.memory in
    let left = now.state.pending c.args.core in
    let condemned : is_condemned view.mode ≡ false =
    ap is_condemned (sym c.in-Ok.ensures.shown) ∙ (sym c.is_condemned.ensures ∙ c.if-is_condemned.false) in
    let running : is_running view.mode ≡ false =
    ap is_running (sym c.in-Ok.ensures.shown) ∙ (sym c.is_running.ensures ∙ c.if-not-is_running.true) in
    sym (shown trial c.args.self.now c.args.core c.requires.place c.requires.core now stands
    ∙ (ap (λ t. cond t true
    (cond (is_running view.mode) (touches_nothing (trial_setting trial) memory left view.base) false)) condemned
    ∙ ap (λ t. cond t (touches_nothing (trial_setting trial) memory left view.base) false) running))

pub touches_nothing-requires-clause-running : goal.touches_nothing-requires-clause-running
touches_nothing-requires-clause-running c =
    ap is_running (sym c.in-Ok.ensures.shown) ∙ (sym c.is_running.ensures ∙ c.if-not-is_running.false)

pub returns : goal.returns
returns c = λ now stands.
    let trial = c.args.trial.now in
    let view = view_at c.args.self.now.machine c.args.core in
    let memory = now.state.memory in
    let left = now.state.pending c.args.core in
    let condemned : is_condemned view.mode ≡ false =
    ap is_condemned (sym c.in-Ok.ensures.shown) ∙ (sym c.is_condemned.ensures ∙ c.if-is_condemned.false) in
    let running : is_running view.mode ≡ true =
    ap is_running (sym c.in-Ok.ensures.shown) ∙ (sym c.is_running.ensures ∙ c.if-not-is_running.false) in
    c.touches_nothing.ensures now stands
    ∙ sym (shown trial c.args.self.now c.args.core c.requires.place c.requires.core now stands
    ∙ (ap (λ t. cond t true
    (cond (is_running view.mode) (touches_nothing (trial_setting trial) memory left view.base) false)) condemned
    ∙ ap (λ t. cond t (touches_nothing (trial_setting trial) memory left view.base) false) running))
