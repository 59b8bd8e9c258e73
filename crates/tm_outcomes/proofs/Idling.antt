-- A core that has stopped, and of which no store is pending, stays where it is, under each event.
use Rattle.std.proofs.Common.{◌≡◌, ℕ, ◌<◌, Bool, true, false, cond, List, [], Option, Some, None, length, refl, sym, ap}
use Rattle.std.proofs.Common.{◌∙◌, arith}
use Rattle.std.specs.Prelude.{nat_eq, nat_lt, option_map}
use Rattle.std.proofs.lemmas.Bool.{eqb-true, lt-ltb}
use Rattle.ia_regs.specs.declared.Regs.{Regs}
use Rattle.tm_rule.specs.declared.kinds.Stop.{Stop}
use Rattle.tm_core.specs.Theorem.{pending_at, view_at}
use Rattle.tm_model.proofs.NonePending.{pending_stays}
use Rattle.tm_model.specs.Conflicts.{addresses_loaded_by, addresses_written_by, doom_after_other, doom_after_own}
use Rattle.tm_model.specs.Owed.{owed_under}
use Rattle.tm_model.specs.Setting.{Setting}
use Rattle.tm_model.specs.State.{Core, Halted, Pending, seen_by}
use Rattle.tm_model.specs.Steps.{Change, Next, after_step, settled, store_buffered}
use Rattle.tm_model.specs.Types.{Store}
use Rattle.tm_model.specs.declared.outcome.Event.{Event}
use Rattle.tm_model.specs.declared.outcome.Event.TheVariants as event
use Rattle.tm_model.specs.declared.outcome.Outcome.TheVariants.{Idle}
use Rattle.tm_model.specs.declared.outcome.Pick.{Pick}
use Rattle.tm_outcomes.specs.Nodes.{LeadsAlong, schedule_at}
use Rattle.tm_outcomes.specs.Outcomes.{trial_setting}
use Rattle.tm_outcomes.specs.Places.{IsAt, has_stopped}
use Rattle.tm_outcomes.specs.Schedules.{Situation, after_pick}
use Rattle.tm_outcomes.specs.declared.place.Place.{Place}
use Rattle.tm_outcomes.specs.declared.trial.Trial.{Trial}
use Rattle.tm_outcomes.proofs.Crossing.{moved, picks, same_situation}
use Rattle.tm_outcomes.proofs.Leads.{leads_stands, shows}
use Rattle.tm_outcomes.proofs.Shown.{halted_is}
use Rattle.tm_outcomes.proofs.UnseenCores.{at_once, untouched}

-- ---- a step that stores nothing leaves memory, and nothing pending

settles : (memory : List ℕ) (next : Core) (store : Option Store) (change : Change) → store ≡ None
    → change ≡ Some (memory, next) → option_map (settled memory [] store) change ≡ Some (memory, ([], next))
settles memory next store change none is =
    ap (λ (w : Option Store). option_map (settled memory [] w) change) none
    ∙ ap (option_map (settled memory [] None)) is

unbuffered : (t : Bool) (store : Option Store) → store ≡ None → cond t None store ≡ None
unbuffered true store none = refl
unbuffered false store none = none

owed_idle : (by : Option Event) (setting : Setting) (memory : List ℕ) (regs : Regs) (stop : Stop) (doom : Option ℕ) →
    owed_under by setting memory [] (Halted regs stop) doom ≡ Idle
owed_idle None setting memory regs stop doom = refl
owed_idle (Some event.Drain) setting memory regs stop doom = refl
owed_idle (Some (event.Abort by)) setting memory regs stop doom = refl

module _ (setting : Setting) (now : Situation) (core : ℕ) (regs : Regs) (stop : Stop)
    (halted : now.state.cores core ≡ Halted regs stop) (left : now.state.pending core ≡ []) where
  abbrev memory : List ℕ
  memory = now.state.memory

  abbrev idle : Next
  idle = (memory, ([], Halted regs stop))

  -- its own core is written as it was
  core_stays : (number : ℕ) (own : Bool) → nat_eq number core ≡ own
      → cond own (Halted regs stop) (now.state.cores number) ≡ now.state.cores number
  core_stays number true is = sym halted ∙ ap now.state.cores (sym (eqb-true number core is))
  core_stays number false is = refl

  abbrev loads : Core → List ℕ
  loads x = addresses_loaded_by setting (seen_by now.state core) x Idle

  abbrev writes : Core → List ℕ
  writes x = addresses_written_by setting memory (now.state.pending core) x Idle

  doom_stays : (number : ℕ) (own : Bool) → nat_eq number core ≡ own →
      cond own (doom_after_own Idle (now.doomed core))
      (doom_after_other setting (seen_by now.state number) (loads (now.state.cores core))
      (writes (now.state.cores core)) (now.state.cores number) (now.doomed number))
      ≡ now.doomed number
  doom_stays number true is = ap now.doomed (sym (eqb-true number core is))
  doom_stays number false is =
      let seen : List ℕ = seen_by now.state number in
      ap (λ (x : Core). doom_after_other setting seen (loads x) (writes x) (now.state.cores number) (now.doomed number))
      halted
      ∙ (ap (λ (l : List ℕ). doom_after_other setting seen [] l (now.state.cores number) (now.doomed number))
      (at_once (store_buffered setting (seen_by now.state core) (Halted regs stop) Idle) [] refl)
      ∙ untouched setting seen (now.state.cores number) (now.doomed number))

  stays : moved setting now core Idle idle ≡ now
  stays = same_situation (moved setting now core Idle idle) now refl refl
      (λ number. core_stays number (nat_eq number core) refl) (λ number. pending_stays now.state core number left)
      (λ number. doom_stays number (nat_eq number core) refl)

  idles : (by : Option Event) → nat_lt core now.state.count ≡ true
      → after_pick setting now (record { core = core; event = by }) ≡ Some now
  idles by below =
      picks setting now (record { core = core; event = by }) Idle idle below
      (ap (λ (q : Pending). owed_under by setting memory q (now.state.cores core) (now.doomed core)) left
      ∙ (ap (λ (x : Core). owed_under by setting memory [] x (now.doomed core)) halted
      ∙ owed_idle by setting memory regs stop (now.doomed core)))
      (ap (λ (q : Pending). after_step setting memory q (now.state.cores core) Idle) left
      ∙ (ap (λ (x : Core). after_step setting memory [] x Idle) halted
      ∙ settles memory (Halted regs stop) (store_buffered setting memory (Halted regs stop) Idle)
      (Some (memory, Halted regs stop)) (unbuffered (nat_eq setting.store_buffer 0) None refl) refl))
      ∙ ap Some stays

-- a node leads to itself by a core that has stopped and of which no store is pending
pub leads_back : (trial : Trial) (schedules : List (List Pick)) (index : ℕ) (place : Place) (pick : Pick) →
    pick.core < length trial.program.now.entries → IsAt trial place (schedule_at schedules index) →
    has_stopped (view_at place.machine pick.core).mode ≡ true → pending_at place.machine pick.core ≡ [] →
    LeadsAlong trial schedules index pick index
leads_back trial schedules index place pick is_core at stopped none = λ now leads.
    let setting : Setting = trial_setting trial in
    let stands = leads_stands trial schedules index place now at leads in
    let below : pick.core < now.state.count = (let count = leads.count in omega arith) in
    let here : pick.core < length place.machine.views = (let count = at.count in omega arith) in
    let left : now.state.pending pick.core ≡ [] = sym (stands.same_pending pick.core here) ∙ none in
    let halted = halted_is setting (seen_by now.state pick.core) (now.state.cores pick.core) (now.doomed pick.core)
    (view_at place.machine pick.core) (shows place.machine setting now at.rules stands pick.core here) stopped in
    record {
      next = now;
      is_next = idles setting now pick.core halted.0 halted.1.0 halted.1.1 left pick.event
          (lt-ltb pick.core now.state.count below);
      rest = [];
      end = now;
      rests = refl;
      leads = leads;
    }
