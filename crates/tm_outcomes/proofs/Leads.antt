-- Nodes, and the situations that their schedules lead to.
use Rattle.std.proofs.Common.{◌≡◌, ℕ, ◌<◌, List, Some, false, true, length, sym, ap, ◌∙◌, subst, arith}
use Rattle.std.specs.Prelude.{option_map}
use Rattle.tm_core.specs.Theorem.{ShownMachine, StandsFor, machine_setting, pending_at, view_at}
use Rattle.tm_model.specs.Setting.{Setting}
use Rattle.tm_model.specs.Shown.{View, view_of}
use Rattle.tm_model.specs.State.{Pending, seen_by}
use Rattle.tm_model.specs.Steps.{step}
use Rattle.tm_model.specs.declared.outcome.Event.{Event}
use Rattle.tm_model.specs.declared.outcome.Event.TheVariants as event
use Rattle.tm_model.specs.declared.outcome.Outcome.{Outcome}
use Rattle.tm_model.specs.declared.outcome.Pick.{Pick}
use Rattle.tm_outcomes.specs.Following.{AreKnownAt, BefallsAt, IsUntouchedAt, befalls}
use Rattle.tm_outcomes.specs.Nodes.{BefallsBehind, IsTree, IsUntouchedBehind, LeadsTo, schedule_at}
use Rattle.tm_outcomes.specs.Verdicts.{AreSame}
use Rattle.tm_outcomes.specs.Outcomes.{Befalls, trial_opening, trial_setting}
use Rattle.tm_outcomes.specs.Places.{AreAlike, DrainsAsItSteps, IsAt, are_pending, is_open}
use Rattle.tm_outcomes.specs.Schedules.{Situation, after_schedule, with_state}
use Rattle.tm_outcomes.specs.declared.nodes.Node.{Node}
use Rattle.tm_outcomes.specs.declared.place.Place.{Place}
use Rattle.tm_outcomes.specs.declared.searching.Followed.{Followed}
use Rattle.tm_outcomes.specs.declared.trial.Trial.{Trial}
use Rattle.tm_outcomes.proofs.Shown.{befallen as befallen_shown, befalls_shown, same_under}
use Rattle.tm_outcomes.proofs.Somes.{same_in}

-- what a machine shows, under the rules of its trial
pub shows : (machine : ShownMachine) (setting : Setting) (now : Situation) → machine_setting machine ≡ setting
    → StandsFor machine now.state now.doomed →
    (core : ℕ) → core < length machine.views
    → view_of setting (seen_by now.state core) (now.state.cores core) (now.doomed core) ≡ Some (view_at machine core)
shows machine setting now rules stands core below =
    subst
    (λ (s : Setting). view_of s (seen_by now.state core) (now.state.cores core) (now.doomed core)
    ≡ Some (view_at machine core))
    rules (stands.each core below)

stands_by : (machine : ShownMachine) (setting : Setting) (now : Situation) → machine_setting machine ≡ setting →
    machine.memory ≡ now.state.memory → length machine.views ≡ now.state.count →
    ((core : ℕ) → core < length machine.views
    → view_of setting (seen_by now.state core) (now.state.cores core) (now.doomed core) ≡ Some (view_at machine core)) →
    ((core : ℕ) → core < length machine.views → pending_at machine core ≡ now.state.pending core) →
    StandsFor machine now.state now.doomed
stands_by machine setting now rules memory count each pending = record {
  same_memory = memory;
  same_count = count;
  each = λ core below.
      subst (λ (s : Setting). view_of s (seen_by now.state core) (now.state.cores core) (now.doomed core)
      ≡ Some (view_at machine core)) (sym rules) (each core below);
  same_pending = pending;
}

-- a machine at a node's end stands for what the node leads to
pub stands_leads : (trial : Trial) (schedules : List (List Pick)) (index : ℕ) (place : Place) (now : Situation)
    → index < length schedules →
    IsAt trial place (schedule_at schedules index) → StandsFor place.machine now.state now.doomed
    → LeadsTo trial schedules index now
stands_leads trial schedules index place now within at stands = record {
  within = within;
  end = at.now;
  is_run = at.is_run;
  count = sym stands.same_count ∙ at.count;
  same = record {
    memory = sym at.stands.same_memory ∙ stands.same_memory;
    count = sym at.stands.same_count ∙ stands.same_count;
    each = λ core below.
        let here : core < length place.machine.views = (let e = at.stands.same_count in omega arith) in
        shows place.machine (trial_setting trial) at.now at.rules at.stands core here
        ∙ sym (shows place.machine (trial_setting trial) now at.rules stands core here);
    pending = λ core below.
        let here : core < length place.machine.views = (let e = at.stands.same_count in omega arith) in
        sym (at.stands.same_pending core here) ∙ stands.same_pending core here;
  };
}

-- and for all that is shown alike
pub stands_same : (trial : Trial) (schedule : List Pick) (place : Place) (end now : Situation) →
    IsAt trial place schedule → after_schedule (trial_setting trial) (trial_opening trial) schedule ≡ Some end →
    AreSame trial end now → StandsFor place.machine now.state now.doomed
stands_same trial schedule place end now at is_run alike =
    let same : AreSame trial at.now now =
    subst (λ (x : Situation). AreSame trial x now) (same_in (sym is_run ∙ at.is_run)) alike in
    stands_by place.machine (trial_setting trial) now at.rules (at.stands.same_memory ∙ same.memory)
    (at.stands.same_count ∙ same.count)
    (λ core below.
    sym (same.each core (let e = at.stands.same_count in omega arith))
    ∙ shows place.machine (trial_setting trial) at.now at.rules at.stands core below)
    (λ core below.
    at.stands.same_pending core below ∙ same.pending core (let e = at.stands.same_count in omega arith))

-- so for all that a node leads to
pub leads_stands : (trial : Trial) (schedules : List (List Pick)) (index : ℕ) (place : Place) (now : Situation) →
    IsAt trial place (schedule_at schedules index) → LeadsTo trial schedules index now
    → StandsFor place.machine now.state now.doomed
leads_stands trial schedules index place now at leads =
    stands_same trial (schedule_at schedules index) place leads.end now at leads.is_run leads.same

-- places that are alike stand for the same
pub alike_stands : (trial : Trial) (a b : Place) (s t : List Pick) (now : Situation) → IsAt trial a s → IsAt trial b t
    → AreAlike a b →
    StandsFor a.machine now.state now.doomed → StandsFor b.machine now.state now.doomed
alike_stands trial a b s t now at other alike stands =
    stands_by b.machine (trial_setting trial) now other.rules (sym alike.memory ∙ stands.same_memory)
    (sym alike.count ∙ stands.same_count)
    (λ core below.
    let here : core < length a.machine.views = (let e = alike.count in omega arith) in
    shows a.machine (trial_setting trial) now at.rules stands core here ∙ ap Some (alike.each core here))
    (λ core below.
    let here : core < length a.machine.views = (let e = alike.count in omega arith) in
    sym (alike.pending core here) ∙ stands.same_pending core here)

-- the step of a core that an event does not befall is under it what it is under none
pub untouched_at : (trial : Trial) (schedule : List Pick) (place : Place) (core : ℕ) (by : Event) →
    core < length trial.program.now.entries → IsAt trial place schedule →
    befalls_shown by (view_at place.machine core).mode (pending_at place.machine core) ≡ false →
    IsUntouchedBehind trial schedule core by
untouched_at trial schedule place core by is_core at not_befallen = λ end now is_run same.
    let setting : Setting = trial_setting trial in
    let stands = stands_same trial schedule place end now at is_run same in
    let below : core < length place.machine.views = (let count = at.count in omega arith) in
    let view : View = view_at place.machine core in
    ap (λ (o : Outcome). option_map (with_state setting now core o) (step setting now.state core o))
    (same_under by setting now.state.memory (seen_by now.state core) (now.state.pending core) (now.state.cores core)
    (now.doomed core) view (shows place.machine setting now at.rules stands core below)
    (subst (λ (q : Pending). befalls_shown by view.mode q ≡ false) (stands.same_pending core below) not_befallen))

-- and one that it befalls
pub befallen_at : (trial : Trial) (schedule : List Pick) (place : Place) (core : ℕ) (by : Event) →
    core < length trial.program.now.entries → IsAt trial place schedule →
    befalls_shown by (view_at place.machine core).mode (pending_at place.machine core) ≡ true →
    BefallsBehind trial schedule (record { core = core; event = Some by })
befallen_at trial schedule place core by is_core at befalls = λ now is_run.
    let below : core < length place.machine.views = (let count = at.count in omega arith) in
    let view : View = view_at place.machine core in
    subst (λ (x : Situation). Befalls (Some by) (x.state.pending core) (x.state.cores core) (x.doomed core))
    (same_in (sym at.is_run ∙ is_run))
    (befallen_shown by (trial_setting trial) (seen_by at.now.state core) (at.now.state.pending core)
    (at.now.state.cores core) (at.now.doomed core) view
    (shows place.machine (trial_setting trial) at.now at.rules at.stands core below)
    (subst (λ (q : Pending). befalls_shown by view.mode q ≡ true) (at.stands.same_pending core below) befalls))

-- the step of a core that waits, or of which no store is pending, is under a drain what it is under none
undrained_at : (trial : Trial) (schedule : List Pick) (place : Place) (core : ℕ) → IsAt trial place schedule →
    ((now : Situation) → StandsFor place.machine now.state now.doomed →
    DrainsAsItSteps (machine_setting place.machine) now core) →
    IsUntouchedBehind trial schedule core event.Drain
undrained_at trial schedule place core at drains = λ end now is_run same.
    let setting : Setting = trial_setting trial in
    ap (λ (o : Outcome). option_map (with_state setting now core o) (step setting now.state core o))
    (subst (λ (s : Setting). DrainsAsItSteps s now core) at.rules
    (drains now (stands_same trial schedule place end now at is_run same)))

-- so it is known of each event by what was asked of the place
pub known_at : (trial : Trial) (nodes : List Node) (index core : ℕ) (place : Place) (followed : Followed) →
    core < length trial.program.now.entries →
    ((schedules : List (List Pick)) → IsTree trial nodes schedules → IsAt trial place (schedule_at schedules index)) →
    followed.was_open ≡ is_open (view_at place.machine core).mode →
    (followed.drains_apart ≡ true → are_pending (pending_at place.machine core) ≡ true) →
    (followed.drains_apart ≡ false → (now : Situation) → StandsFor place.machine now.state now.doomed →
    DrainsAsItSteps (machine_setting place.machine) now core) →
    AreKnownAt trial nodes index core followed
known_at trial nodes index core place followed is_core at opened pends same =
    record { untouched = not_befallen; befallen = befallen }
  where
    not_befallen : (by : Event) → befalls followed by ≡ false → IsUntouchedAt trial nodes index core by
    not_befallen (event.Abort by) none schedules tree =
        untouched_at trial (schedule_at schedules index) place core (event.Abort by) is_core (at schedules tree)
        (sym opened ∙ none)
    not_befallen event.Drain none schedules tree =
        undrained_at trial (schedule_at schedules index) place core (at schedules tree) (same none)

    befallen : (by : Event) → befalls followed by ≡ true → BefallsAt trial nodes index core by
    befallen (event.Abort by) some schedules tree =
        befallen_at trial (schedule_at schedules index) place core (event.Abort by) is_core (at schedules tree)
        (sym opened ∙ some)
    befallen event.Drain some schedules tree =
        befallen_at trial (schedule_at schedules index) place core event.Drain is_core (at schedules tree) (pends some)
