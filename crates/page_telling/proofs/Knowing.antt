-- What is known of a machine that is told: what it stands for, and that each byte that its transactions keep is among
-- those known.
use Rattle.std.proofs.Common.{◌≡◌, ◌∙◌, ℕ, ◌<◌, ◌%◌, Bool, true, false, List, [], ◌∷◌, ◌&&◌, ◌||◌, Option, Some}
use Rattle.std.proofs.Common.{None, ap, length, refl, sym, subst, ⊎_elim, if◌then◌else◌}
use Rattle.std.specs.FinMap as map_of
use Rattle.std.specs.FinSet as set
use Rattle.std.specs.Option.{option_or}
use Rattle.std.specs.Ordering.{nat_cmp}
use Rattle.std.specs.Prelude.{nat_eq, option_and_then, option_map, slice_index}
use Rattle.std.proofs.lemmas.Bool.{cases_eq, eq-eqb, ne_eqb}
use Rattle.std.proofs.lemmas.Option.{same_Some}
use Rattle.tm_model.specs.Conflicts.{doomed_after}
use Rattle.tm_model.specs.Runs.{IsOwedUnder}
use Rattle.tm_model.specs.Shown.{View}
use Rattle.tm_model.specs.Steps.{step}
use Rattle.tm_model.specs.declared.outcome.Outcome.{Outcome}
use Rattle.tm_model.specs.declared.outcome.Pick.{Pick}
use Rattle.ia_image.specs.Program.{ProgramValue as Program, start_regs}
use Rattle.elide_setup.specs.Runs.{IsMachineStep, IsRunOf}
use Rattle.tm_core.specs.declared.limits.Limits.{Limits}
use Rattle.tm_core.specs.Theorem.{IsRun, ShownMachine as Machine, StandsFor, TakesStepUnder, machine_setting}
use Rattle.tm_core.specs.Theorem.{pending_at, view_at}
use Rattle.tm_model.specs.Setting.{Setting}
use Rattle.tm_model.specs.State.{State, opening_state}
use Rattle.tm_page.proofs.Own.{IsOutside, outside_closed}
use Rattle.tm_page.proofs.Step.{differences}
use Rattle.tm_page.specs.Applied.{Page, PageCore, applied, hit_on, is_listed, other_after, own_after, stored_at}
use Rattle.tm_model.specs.declared.explain.Reach.{Reach}
use Rattle.tm_page.specs.Difference.{IsDifference, IsReachSaid, IsTold}
use Rattle.tm_page.specs.Shows.{IsAddress, Shows, private_byte}
use Rattle.tm_page.specs.Types.{Aborted, AbortedBy, Begun, Committed, Drained, Hit, Idle, Inside, Loaded, Plain}
use Rattle.tm_page.specs.Types.{Stopped}
use Rattle.tm_page.specs.declared.delta.PageDelta.{PageDelta}
use Rattle.tm_page.specs.declared.delta.StoredByte.{StoredByte}
use Rattle.page_telling.specs.Kept.{AreAllKept, IsKeptBehind, is_kept, is_stored}
use Rattle.page_telling.specs.Telling.{IsMade}
use Rattle.page_telling.specs.Told.{IsStepTold, ToldStep}
use Rattle.page_telling.specs.declared.kept.KeptByte.{KeptByte}

pub record IsKnown (machine : Machine) (bytes : List KeptByte) : Type 0 where
  pub state : State
  pub doomed : ℕ → Option ℕ
  pub stands : StandsFor machine state doomed
  pub kept : AreAllKept machine bytes

-- ---- a step of a machine that stands for a state

took : (state : State) (doomed : ℕ → Option ℕ) (before after : Machine) (pick : Pick) (outcome : Outcome) (last : State)
    (t : Option State) →
    IsOwedUnder pick.event (machine_setting before) state doomed pick.core outcome
    → step (machine_setting before) state pick.core outcome ≡ t →
    option_and_then (λ next. Some next) t ≡ Some last →
    StandsFor after last
    (elim t [ None ↦ doomed | Some next ↦ doomed_after (machine_setting before) state doomed pick.core outcome ]) →
    TakesStepUnder pick.event before after state doomed pick.core outcome
took state doomed before after pick outcome last None owed is run stands = cc
took state doomed before after pick outcome last (Some next) owed is run stands = record {
  is_owed = owed;
  next = next;
  is_step = is;
  stands =
      subst (λ (s : State). StandsFor after s (doomed_after (machine_setting before) state doomed pick.core outcome))
      (sym (same_Some next last run)) stands;
}

takes_step : (before after : Machine) (pick : Pick) (outcome : Outcome) → IsMachineStep before pick outcome after →
    (state : State) (doomed : ℕ → Option ℕ) → StandsFor before state doomed
    → TakesStepUnder pick.event before after state doomed pick.core outcome
takes_step before after pick outcome h state doomed stands =
    let none : IsRun before before state doomed [] = record {
      same = record { rules = refl; cores = refl };
      takes = record { are_owed = tt; last = state; is_run = refl; stands = stands };
    } in
    let gone : IsRun before after state doomed ((pick.core, outcome) ∷ []) = h.goes_on before state doomed [] none in
    took state doomed before after pick outcome gone.takes.last (step (machine_setting before) state pick.core outcome)
    (h.under state doomed stands).0 refl
    gone.takes.is_run gone.takes.stands

-- a step that was made, told of a machine of which this is known
pub told_of : (before after : Machine) (pick : Pick) (outcome : Outcome) (reach : Reach) (row : List ℕ)
    (old : List KeptByte) (delta : PageDelta) →
    IsMachineStep before pick outcome after → pick.core < length before.views → IsReachSaid before pick.core reach →
    ((address : ℕ) → is_listed row address ≡ is_kept old pick.core address) →
    IsDifference before after pick.core outcome reach row delta →
    (state : State) (doomed : ℕ → Option ℕ) → StandsFor before state doomed → AreAllKept before old
    → IsTold before after pick.core outcome delta
told_of before after pick outcome reach row old delta made within said listed difference state doomed stands all =
    record {
      within = within;
      same = made.same;
      event = pick.event;
      state = state;
      doomed = doomed;
      stands = stands;
      takes = takes_step before after pick outcome made state doomed stands;
      reach = reach;
      said = said;
      kept = row;
      are_kept = λ address below none. all pick.core address within below (sym (listed address) ∙ none);
      difference = difference;
    }

-- ---- what the page makes of the machine itself

abbrev core_of : View → PageCore
core_of view = record {
  mode = view.mode;
  base = view.base;
  regs = view.regs;
  reads = set.contains view.reads;
  writes = set.contains view.writes;
  private = private_byte view;
}

abbrev page_of : Machine → Page
page_of machine = record {
  memory = slice_index machine.memory;
  cores = λ number. core_of (view_at machine number);
  pending = pending_at machine;
}

shows_itself : (machine : Machine) → Shows machine (page_of machine)
shows_itself machine = record {
  memory = λ address below. refl;
  cores = λ number within. record {
    mode = refl;
    base = refl;
    regs = refl;
    reads = λ line. refl;
    writes = λ line. refl;
    private = λ address below. refl;
  };
  pending = λ number within. refl;
}

-- ---- the bytes that are kept behind a step

or_none : (a b : Bool) → (a || b) ≡ false → (a ≡ false) × (b ≡ false)
or_none false false e = (refl, refl)
or_none true b e = cc
or_none false true e = cc

not_stored : (stored : List StoredByte) (address : ℕ) → is_stored stored address ≡ false
    → stored_at stored address ≡ None
not_stored [] address e = refl
not_stored (byte ∷ stored) address e =
    let both = or_none (nat_eq address byte.address) (is_stored stored address) e in
    on (nat_eq address byte.address) both.0 (not_stored stored address both.1)
  where
    on : (t : Bool) → t ≡ false → stored_at stored address ≡ None
        → (if t then Some byte.byte else stored_at stored address) ≡ None
    on true f none = cc
    on false f none = none

-- of the core that stepped
own_none : (outcome : Outcome) (delta : PageDelta) (view : View) (core address : ℕ) (old new : List KeptByte) →
    IsKeptBehind outcome core delta.stored.items old new → is_kept new core address ≡ false →
    (is_kept old core address ≡ false → private_byte view address ≡ None) →
    (own_after outcome delta (core_of view)).private address ≡ None
own_none Inside delta view core address old new kept none was =
    let both = or_none (is_kept old core address) (nat_eq core core && is_stored delta.stored.items address)
    (sym (kept core address) ∙ none) in
    let stored : is_stored delta.stored.items address ≡ false =
    sym (ap (λ t. t && is_stored delta.stored.items address) (eq-eqb core core refl)) ∙ both.1 in
    ap (λ o. option_or o (private_byte view address)) (not_stored delta.stored.items address stored) ∙ was both.0
own_none Begun delta view core address old new kept none was = refl
own_none Plain delta view core address old new kept none was = refl
own_none Loaded delta view core address old new kept none was = refl
own_none (Stopped stop) delta view core address old new kept none was = refl
own_none Idle delta view core address old new kept none was = refl
own_none Committed delta view core address old new kept none was = refl
own_none (Aborted status) delta view core address old new kept none was = refl
own_none (AbortedBy by status) delta view core address old new kept none was = refl
own_none Drained delta view core address old new kept none was = was (sym (kept core address) ∙ none)

-- of another core
other_none : (hit : Option Hit) (view : View) (address : ℕ) → private_byte view address ≡ None →
    (other_after hit (core_of view)).private address ≡ None
other_none None view address e = e
other_none (Some hit) view address e = refl

or_first : (a s : Bool) → (a || (false && s)) ≡ a
or_first true s = refl
or_first false s = refl

others_stay : (outcome : Outcome) (stored : List StoredByte) (core other address : ℕ) (old new : List KeptByte) →
    IsKeptBehind outcome core stored old new → (other ≡ core → ⊥)
    → is_kept new other address ≡ is_kept old other address
others_stay Inside stored core other address old new kept apart =
    kept other address
    ∙ ap (λ t. is_kept old other address || (t && is_stored stored address)) (ne_eqb other core apart)
    ∙ or_first (is_kept old other address) (is_stored stored address)
others_stay Begun stored core other address old new kept apart = kept other address apart
others_stay Plain stored core other address old new kept apart = kept other address apart
others_stay Loaded stored core other address old new kept apart = kept other address apart
others_stay (Stopped stop) stored core other address old new kept apart = kept other address apart
others_stay Idle stored core other address old new kept apart = kept other address apart
others_stay Committed stored core other address old new kept apart = kept other address apart
others_stay (Aborted status) stored core other address old new kept apart = kept other address apart
others_stay (AbortedBy by status) stored core other address old new kept apart = kept other address apart
others_stay Drained stored core other address old new kept apart = kept other address

-- of each core
all_none : (delta : PageDelta) (view : View) (core number address : ℕ) (outcome : Outcome) (old new : List KeptByte) →
    delta.core ≡ number → delta.outcome ≡ outcome →
    IsKeptBehind outcome number delta.stored.items old new → is_kept new core address ≡ false →
    (is_kept old core address ≡ false → private_byte view address ≡ None) →
    (if nat_eq core delta.core then own_after delta.outcome delta (core_of view)
    else other_after (hit_on delta core) (core_of view)).private address ≡ None
all_none delta view core number address outcome old new is_core is_outcome kept none was =
    ⊎_elim
    (λ (e : core ≡ number).
    ap (λ t. (if t then own_after delta.outcome delta (core_of view)
    else other_after (hit_on delta core) (core_of view)).private address)
    (eq-eqb core delta.core (e ∙ sym is_core))
    ∙ ap (λ o. (own_after o delta (core_of view)).private address) is_outcome
    ∙ own_none outcome delta view number address old new kept (ap (λ n. is_kept new n address) (sym e) ∙ none)
    (λ f. was (ap (λ n. is_kept old n address) e ∙ f)))
    (λ (e : core ≡ number → ⊥).
    ap (λ t. (if t then own_after delta.outcome delta (core_of view)
    else other_after (hit_on delta core) (core_of view)).private address)
    (ne_eqb core delta.core (λ same. e (same ∙ is_core)))
    ∙ other_none (hit_on delta core) view address
    (was (sym (others_stay outcome delta.stored.items number core address old new kept e) ∙ none)))
    (cases_eq core number)

-- ---- steps

pub told_step : (before after : Machine) (old new : List KeptByte) (told : ToldStep) →
    IsMade before old told after new → IsKnown before old → IsStepTold before told after
told_step before after old new told made known = record {
  step = made.step;
  mode = made.mode;
  told = made.told known.state known.doomed known.stands known.kept;
}

pub known_behind : (before after : Machine) (old new : List KeptByte) (told : ToldStep) →
    IsMade before old told after new → IsKnown before old → IsKnown after new
known_behind before after old new told made known =
    let is : IsTold before after told.pick.core told.outcome told.delta =
    made.told known.state known.doomed known.stands known.kept in
    let takes = takes_step before after told.pick told.outcome made.step known.state known.doomed known.stands in
    let shows : Shows after (applied told.delta (page_of before)) =
    differences before after told.pick.core told.outcome told.delta is (page_of before) (shows_itself before) in
    let size : length after.memory ≡ length before.memory = ap (λ (k : Setting). k.size) made.step.same.rules in
    record {
      state = takes.next;
      doomed = doomed_after (machine_setting before) known.state known.doomed told.pick.core told.outcome;
      stands = takes.stands;
      kept = λ core address within below none.
          (shows.cores core within).private address below
          ∙ all_none told.delta (view_at before core) core told.pick.core address told.outcome old new
          is.difference.core is.difference.outcome made.kept none
          (known.kept core address (subst (λ n. core < n) made.step.same.cores within)
          (subst (λ n. IsAddress n address) size below));
    }

-- before the first step no transaction is open
pub known_first : (program : Program) (limits : Limits) (machine : Machine) → IsRunOf program limits [] machine
    → IsKnown machine []
known_first program limits machine run =
    let last : State = run.is_run.takes.last in
    let same : opening_state program ≡ last = same_Some (opening_state program) last run.is_run.takes.is_run in
    let stands : StandsFor machine (opening_state program) (λ _. None) =
    subst (λ (s : State). StandsFor machine s (λ _. None)) (sym same) run.is_run.takes.stands in
    record {
      state = opening_state program;
      doomed = λ _. None;
      stands = stands;
      kept = λ core address within below none.
          let out : IsOutside (view_at machine core) =
          outside_closed (machine_setting machine) (opening_state program).memory (start_regs program core) None
          (view_at machine core) (stands.each core within) in
          ap (λ b. option_map (λ x. x % 256) (map_of.get b address)) out.buffer
          ∙ ap (option_map (λ x. x % 256)) (map_of.get-empty nat_cmp address);
    }
