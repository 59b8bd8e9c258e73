-- What is shown of a core tells what the core is.
use Rattle.std.proofs.Common.{◌≡◌, ℕ, Bool, true, false, cond, List, [], ◌∷◌, Option, Some, None, refl, sym, ap, ◌∙◌}
use Rattle.std.proofs.Common.{subst}
use Rattle.std.specs.Prelude.{option_and_then, nat_eq}
use Rattle.tm_outcomes.proofs.Somes.{same_in}
use Rattle.ia_regs.specs.declared.Regs.{Regs}
use Rattle.tm_rule.specs.declared.kinds.OutsideResult.{OutsideResult}
use Rattle.tm_rule.specs.declared.kinds.OutsideResult.TheVariants.{Goes, Begins, Stops}
use Rattle.tm_rule.specs.declared.kinds.Stop.{Stop}
use Rattle.std.proofs.lemmas.Bool.{false≢true}
use Rattle.tm_model.specs.Isolated.{Body, isolated_body}
use Rattle.tm_model.specs.Owed.{owed_outcome, owed_under}
use Rattle.tm_model.specs.Setting.{Setting}
use Rattle.tm_model.specs.Shown.{View, view_inside, view_midway, view_of, view_of_body, view_outside}
use Rattle.tm_model.specs.State.{Closed, Core, Halted, Midway, Opened, Pending, seen_memory}
use Rattle.tm_model.specs.Steps.{must_wait}
use Rattle.tm_model.specs.declared.outcome.Event.{Event}
use Rattle.tm_model.specs.declared.outcome.Event.TheVariants as event
use Rattle.tm_model.specs.declared.outcome.Interference.{Interference}
use Rattle.tm_model.specs.declared.outcome.Outcome.{Outcome}
use Rattle.tm_model.specs.declared.outcome.Outcome.TheVariants.{Drained}
use Rattle.tm_model.specs.declared.outcome.CoreState.{CoreState}
use Rattle.tm_model.specs.declared.outcome.CoreState.TheVariants.{Running, Mid, Open, Condemned, Stopped as AtStop}
use Rattle.tm_outcomes.specs.Outcomes.{Befalls, regs_of}
use Rattle.tm_outcomes.specs.Places.{DrainsAsItSteps, are_pending, has_stopped, is_open}
use Rattle.tm_outcomes.specs.Schedules.{Situation}
use Rattle.tm_outcomes.specs.Verdicts.{HasStoppedBy}

-- ---- each core's registers

base_midway : (regs : Regs) (value : ℕ) (result : OutsideResult) (view : View)
    → view_midway regs value result ≡ Some view → (view.base ≡ regs) × (view.mode ≡ Mid)
base_midway regs value (Goes next store) view e =
    subst (λ (v : View). (v.base ≡ regs) × (v.mode ≡ Mid)) (same_in e) (refl, refl)
base_midway regs value (Begins next) view e = absurd (cc)
base_midway regs value (Stops stop) view e = absurd (cc)

inside : (regs : Regs) (body : Body) (ended : Bool) (view : View)
    → cond ended None (Some (view_of_body regs body)) ≡ Some view
    → (view.base ≡ regs) × ((depth : ℕ) × (view.mode ≡ Open depth))
inside regs body true view e = absurd (cc)
inside regs body false view e =
    subst (λ (v : View). (v.base ≡ regs) × ((depth : ℕ) × (v.mode ≡ Open depth))) (same_in e) (refl, (body.depth, refl))

base_inside : (regs : Regs) (body : Option Body) (view : View) → option_and_then (view_inside regs) body ≡ Some view
    → (view.base ≡ regs) × ((depth : ℕ) × (view.mode ≡ Open depth))
base_inside regs (Some body) view e = inside regs body (nat_eq body.depth 0) view e
base_inside regs None view e = absurd (cc)

base_outside : (mode : CoreState) (regs : Regs) (view : View) → Some (view_outside mode regs) ≡ Some view
    → view.base ≡ regs
base_outside mode regs view e = subst (λ (v : View). v.base ≡ regs) (same_in e) refl

pub base_is : (setting : Setting) (memory : List ℕ) (core : Core) (doom : Option ℕ) (view : View) →
    view_of setting memory core doom ≡ Some view → view.base ≡ regs_of core
base_is setting memory (Closed regs) None view e = base_outside Running regs view e
base_is setting memory (Midway regs value) None view e = (base_midway regs value (setting.outside regs value) view e).0
base_is setting memory (Halted regs stop) None view e = base_outside (AtStop stop) regs view e
base_is setting memory (Opened regs steps) None view e =
    (base_inside regs (isolated_body setting regs memory steps) view e).0
base_is setting memory (Opened regs steps) (Some depth) view e = base_outside (Condemned depth) regs view e
base_is setting memory (Closed regs) (Some depth) view e = cc
base_is setting memory (Midway regs value) (Some depth) view e = cc
base_is setting memory (Halted regs stop) (Some depth) view e = cc

-- ---- cores that have stopped

abbrev pub IsHalted : Core → Type 0
IsHalted core = (regs : Regs) × ((stop : Stop) × (core ≡ Halted regs stop))

not_stopped : (core : Core) (mode : CoreState) (view : View) → has_stopped mode ≡ false → view.mode ≡ mode
    → has_stopped view.mode ≡ true → IsHalted core
not_stopped core mode view goes is stopped = absurd (false≢true (sym goes ∙ (ap has_stopped (sym is) ∙ stopped)))

outside_mode : (mode : CoreState) (regs : Regs) (view : View) → Some (view_outside mode regs) ≡ Some view
    → view.mode ≡ mode
outside_mode mode regs view e = subst (λ (v : View). v.mode ≡ mode) (same_in e) refl

pub halted_is : (setting : Setting) (memory : List ℕ) (core : Core) (doom : Option ℕ) (view : View) →
    view_of setting memory core doom ≡ Some view → has_stopped view.mode ≡ true → IsHalted core
halted_is setting memory (Halted regs stop) None view e stopped = (regs, (stop, refl))
halted_is setting memory (Closed regs) None view e stopped =
    not_stopped _ Running view refl (outside_mode Running regs view e) stopped
halted_is setting memory (Midway regs value) None view e stopped =
    not_stopped _ Mid view refl (base_midway regs value (setting.outside regs value) view e).1 stopped
halted_is setting memory (Opened regs steps) None view e stopped =
    let known = base_inside regs (isolated_body setting regs memory steps) view e in
    not_stopped _ (Open known.1.0) view refl known.1.1 stopped
halted_is setting memory (Opened regs steps) (Some depth) view e stopped =
    not_stopped _ (Condemned depth) view refl (outside_mode (Condemned depth) regs view e) stopped
halted_is setting memory (Closed regs) (Some depth) view e stopped = absurd (cc)
halted_is setting memory (Midway regs value) (Some depth) view e stopped = absurd (cc)
halted_is setting memory (Halted regs stop) (Some depth) view e stopped = absurd (cc)

pub stopped_is : (setting : Setting) (memory : List ℕ) (core : Core) (doom : Option ℕ) (view : View) →
    view_of setting memory core doom ≡ Some view → IsHalted core → has_stopped view.mode ≡ true
stopped_is setting memory (Halted regs stop) None view e halted =
    ap has_stopped (outside_mode (AtStop stop) regs view e)
stopped_is setting memory (Halted regs stop) (Some depth) view e halted = absurd (cc)
stopped_is setting memory (Closed regs) doom view e halted =
    absurd (let h : Closed regs ≡ Halted halted.0 halted.1.0 = halted.1.1 in cc)
stopped_is setting memory (Midway regs value) doom view e halted =
    absurd (let h : Midway regs value ≡ Halted halted.0 halted.1.0 = halted.1.1 in cc)
stopped_is setting memory (Opened regs steps) doom view e halted =
    absurd (let h : Opened regs steps ≡ Halted halted.0 halted.1.0 = halted.1.1 in cc)

-- ---- why they have

other_mode : (core : Core) (mode : CoreState) (why : Stop) (view : View) → has_stopped mode ≡ false → view.mode ≡ mode →
    view.mode ≡ AtStop why → HasStoppedBy core why
other_mode core mode why view goes is stopped =
    absurd (false≢true (sym goes ∙ ap has_stopped (sym is ∙ stopped)))

pub stopped_by : (setting : Setting) (memory : List ℕ) (core : Core) (doom : Option ℕ) (view : View) (why : Stop) →
    view_of setting memory core doom ≡ Some view → view.mode ≡ AtStop why → HasStoppedBy core why
stopped_by setting memory (Halted regs stop) None view why e is =
    let mode : view.mode ≡ AtStop stop = outside_mode (AtStop stop) regs view e in
    let same : stop ≡ why = (let both : AtStop stop ≡ AtStop why = sym mode ∙ is in cc) in
    (regs, ap (Halted regs) same)
stopped_by setting memory (Closed regs) None view why e is =
    other_mode _ Running why view refl (outside_mode Running regs view e) is
stopped_by setting memory (Midway regs value) None view why e is =
    other_mode _ Mid why view refl (base_midway regs value (setting.outside regs value) view e).1 is
stopped_by setting memory (Opened regs steps) None view why e is =
    let known = base_inside regs (isolated_body setting regs memory steps) view e in
    other_mode _ (Open known.1.0) why view refl known.1.1 is
stopped_by setting memory (Opened regs steps) (Some depth) view why e is =
    other_mode _ (Condemned depth) why view refl (outside_mode (Condemned depth) regs view e) is
stopped_by setting memory (Closed regs) (Some depth) view why e is = absurd (cc)
stopped_by setting memory (Midway regs value) (Some depth) view why e is = absurd (cc)
stopped_by setting memory (Halted regs stop) (Some depth) view why e is = absurd (cc)

pub by_stop : (setting : Setting) (memory : List ℕ) (core : Core) (doom : Option ℕ) (view : View) (why : Stop) →
    view_of setting memory core doom ≡ Some view → HasStoppedBy core why → view.mode ≡ AtStop why
by_stop setting memory (Halted regs stop) None view why e halted =
    let same : stop ≡ why = (let h : Halted regs stop ≡ Halted halted.0 why = halted.1 in cc) in
    outside_mode (AtStop stop) regs view e ∙ ap (λ (s : Stop). AtStop s) same
by_stop setting memory (Halted regs stop) (Some depth) view why e halted = absurd (cc)
by_stop setting memory (Closed regs) doom view why e halted =
    absurd (let h : Closed regs ≡ Halted halted.0 why = halted.1 in cc)
by_stop setting memory (Midway regs value) doom view why e halted =
    absurd (let h : Midway regs value ≡ Halted halted.0 why = halted.1 in cc)
by_stop setting memory (Opened regs steps) doom view why e halted =
    absurd (let h : Opened regs steps ≡ Halted halted.0 why = halted.1 in cc)

-- ---- cores that no event aborts

-- whether an event befalls a core that shows this, of which these stores are pending
abbrev pub befalls_shown : Event → CoreState → Pending → Bool
befalls_shown (event.Abort by) mode pending = is_open mode
befalls_shown event.Drain mode pending = are_pending pending

-- what a core owes under an event that does not befall it is what it owes under none
pub same_under : (by : Event) (setting : Setting) (memory seen : List ℕ) (pending : Pending) (core : Core)
    (doom : Option ℕ) (view : View) → view_of setting seen core doom ≡ Some view →
    befalls_shown by view.mode pending ≡ false →
    owed_under (Some by) setting memory pending core doom ≡ owed_under None setting memory pending core doom
same_under event.Drain setting memory seen [] core doom view e closed = refl
same_under event.Drain setting memory seen (oldest ∷ younger) core doom view e closed =
    absurd (false≢true (sym closed))
same_under (event.Abort by) setting memory seen pending (Opened regs steps) None view e closed =
    let known = base_inside regs (isolated_body setting regs seen steps) view e in
    absurd (false≢true (sym closed ∙ ap is_open known.1.1))
same_under (event.Abort by) setting memory seen pending (Opened regs steps) (Some depth) view e closed = refl
same_under (event.Abort by) setting memory seen pending (Closed regs) doom view e closed = refl
same_under (event.Abort by) setting memory seen pending (Midway regs value) doom view e closed = refl
same_under (event.Abort by) setting memory seen pending (Halted regs stop) doom view e closed = refl

-- ---- cores that an event aborts

-- what an abort from outside of the program befalls
abbrev IsOpen : Core → Option ℕ → Type 0
IsOpen core doom = (by : Interference) (pending : Pending) → Befalls (Some (event.Abort by)) pending core doom

closed_mode : (core : Core) (doom : Option ℕ) (mode : CoreState) (view : View) → is_open mode ≡ false
    → view.mode ≡ mode →
    is_open view.mode ≡ true → IsOpen core doom
closed_mode core doom mode view closed is opened = absurd (false≢true (sym closed ∙ (ap is_open (sym is) ∙ opened)))

open_is : (setting : Setting) (memory : List ℕ) (core : Core) (doom : Option ℕ) (view : View) →
    view_of setting memory core doom ≡ Some view → is_open view.mode ≡ true → IsOpen core doom
open_is setting memory (Opened regs steps) None view e opened = λ by pending. tt
open_is setting memory (Opened regs steps) (Some depth) view e opened =
    closed_mode (Opened regs steps) (Some depth) (Condemned depth) view refl
    (outside_mode (Condemned depth) regs view e) opened
open_is setting memory (Closed regs) None view e opened =
    closed_mode (Closed regs) None Running view refl (outside_mode Running regs view e) opened
open_is setting memory (Midway regs value) None view e opened =
    closed_mode (Midway regs value) None Mid view refl
    (base_midway regs value (setting.outside regs value) view e).1 opened
open_is setting memory (Halted regs stop) None view e opened =
    closed_mode (Halted regs stop) None (AtStop stop) view refl (outside_mode (AtStop stop) regs view e) opened
open_is setting memory (Closed regs) (Some depth) view e opened = absurd (cc)
open_is setting memory (Midway regs value) (Some depth) view e opened = absurd (cc)
open_is setting memory (Halted regs stop) (Some depth) view e opened = absurd (cc)

pub befallen : (by : Event) (setting : Setting) (seen : List ℕ) (pending : Pending) (core : Core) (doom : Option ℕ)
    (view : View) → view_of setting seen core doom ≡ Some view → befalls_shown by view.mode pending ≡ true →
    Befalls (Some by) pending core doom
befallen event.Drain setting seen [] core doom view e befalls = absurd (false≢true befalls)
befallen event.Drain setting seen (oldest ∷ younger) core doom view e befalls = tt
befallen (event.Abort by) setting seen pending core doom view e befalls =
    open_is setting seen core doom view e befalls by pending

pub none_pending : (pending : Pending) → are_pending pending ≡ false → pending ≡ []
none_pending [] none = refl
none_pending (oldest ∷ younger) none = absurd (false≢true (sym none))

-- a drain of nothing that is pending is the core's step, and so is one where the core waits
pub undrained : (setting : Setting) (now : Situation) (core : ℕ) → now.state.pending core ≡ [] →
    DrainsAsItSteps setting now core
undrained setting now core none =
    let memory : List ℕ = now.state.memory in
    let x : Core = now.state.cores core in
    let doom : Option ℕ = now.doomed core in
    ap (λ (q : Pending). owed_under (Some event.Drain) setting memory q x doom) none
    ∙ sym (ap (λ (q : Pending). owed_under None setting memory q x doom) none)

pub waits_drains : (setting : Setting) (memory : List ℕ) (pending : Pending) (core : Core) (doom : Option ℕ) →
    must_wait setting (seen_memory memory pending) pending core
    (owed_outcome setting (seen_memory memory pending) core doom) ≡ true →
    owed_under (Some event.Drain) setting memory pending core doom ≡ owed_under None setting memory pending core doom
waits_drains setting memory [] core doom waits = refl
waits_drains setting memory (oldest ∷ younger) core doom waits =
    let outcome : Outcome = owed_outcome setting (seen_memory memory (oldest ∷ younger)) core doom in
    sym (ap (λ t. cond t Drained outcome) waits)

-- a core that has stopped is in no transaction
pub stopped_closed : (mode : CoreState) → has_stopped mode ≡ true → is_open mode ≡ false
stopped_closed (AtStop stop) e = refl
stopped_closed Running e = absurd (false≢true e)
stopped_closed Mid e = absurd (false≢true e)
stopped_closed (Open depth) e = absurd (false≢true e)
stopped_closed (Condemned depth) e = absurd (false≢true e)
