-- An unseen step, and a step of another core or a drain of its own: in either order they lead to the same situation.
use Rattle.std.proofs.Common.{◌≡◌, ℕ, Bool, true, false, cond, List, [], ◌∷◌, Option, Some, None, refl, sym, ap, ◌∙◌}
use Rattle.std.proofs.Common.{subst}
use Rattle.std.specs.Prelude.{nat_eq, nat_lt, option_map}
use Rattle.std.proofs.Math.Path.{fun_ext}
use Rattle.std.proofs.lemmas.Bool.{eq-eqb, eqb-true, false≢true, true≢false}
use Rattle.tm_model.specs.Access.{stored_addresses, stores_of}
use Rattle.tm_model.specs.Conflicts.{addresses_drained, addresses_loaded_by, addresses_written_by, doom_after_other}
use Rattle.tm_model.specs.Conflicts.{doom_after_own}
use Rattle.tm_model.specs.Owed.{owed_outcome, owed_under}
use Rattle.tm_model.specs.Setting.{Setting}
use Rattle.tm_model.specs.State.{Closed, Core, Halted, Midway, Opened, Pending, seen_by, seen_memory, with_store}
use Rattle.tm_model.specs.Steps.{Next, after_drain, after_step, must_wait, state_with, step}
use Rattle.tm_model.specs.Types.{Store}
use Rattle.tm_model.specs.declared.outcome.Event.{Event}
use Rattle.tm_model.specs.declared.outcome.Event.TheVariants as event
use Rattle.tm_model.specs.declared.outcome.Outcome.{Outcome}
use Rattle.tm_model.specs.declared.outcome.Outcome.TheVariants.{Drained}
use Rattle.tm_model.specs.declared.outcome.Pick.{Pick}
use Rattle.tm_outcomes.specs.Schedules.{Situation, after_pick, owed_by, with_state}
use Rattle.tm_outcomes.specs.Unseen.{IsUnseen, drains, is_unseen}
use Rattle.tm_outcomes.proofs.Somes.{same_in}
use Rattle.tm_outcomes.proofs.UnseenCores.{IsUnseenStep, pushed, unseen_step, untouched}

pub same_situation : (a b : Situation) → a.state.memory ≡ b.state.memory → a.state.count ≡ b.state.count →
    ((number : ℕ) → a.state.cores number ≡ b.state.cores number)
    → ((number : ℕ) → a.state.pending number ≡ b.state.pending number)
    → ((number : ℕ) → a.doomed number ≡ b.doomed number) → a ≡ b
same_situation a b memory count cores pending doomed = λ i. record {
  state = record {
    memory = memory i;
    count = count i;
    cores = fun_ext cores i;
    pending = fun_ext pending i;
  };
  doomed = fun_ext doomed i;
}

-- ---- a step, by what it makes of memory, of what is pending and of its core

abbrev pub moved : Setting → Situation → ℕ → Outcome → Next → Situation
moved setting now core outcome to = with_state setting now core outcome (state_with now.state core to)

pub record IsPicked (setting : Setting) (now : Situation) (pick : Pick) (next : Situation) : Type 0 where
  pub below : nat_lt pick.core now.state.count ≡ true
  pub to : Next
  pub is_to : after_step setting now.state.memory (now.state.pending pick.core) (now.state.cores pick.core)
      (owed_by setting now pick) ≡ Some to
  pub is_next : next ≡ moved setting now pick.core (owed_by setting now pick) to

picked_by : (setting : Setting) (now next : Situation) (pick : Pick) (there : Bool) (after : Option Next) →
    nat_lt pick.core now.state.count ≡ there →
    after_step setting now.state.memory (now.state.pending pick.core) (now.state.cores pick.core)
    (owed_by setting now pick) ≡ after →
    option_map (with_state setting now pick.core (owed_by setting now pick))
    (cond there (option_map (state_with now.state pick.core) after) None) ≡ Some next →
    IsPicked setting now pick next
picked_by setting now next pick true (Some to) there is e =
    record { below = there; to = to; is_to = is; is_next = sym (same_in e) }
picked_by setting now next pick true None there is e = absurd (cc)
picked_by setting now next pick false after there is e = absurd (cc)

pub picked : (setting : Setting) (now next : Situation) (pick : Pick) → after_pick setting now pick ≡ Some next →
    IsPicked setting now pick next
picked setting now next pick e =
    picked_by setting now next pick (nat_lt pick.core now.state.count)
    (after_step setting now.state.memory (now.state.pending pick.core) (now.state.cores pick.core)
    (owed_by setting now pick)) refl refl e

pub picks : (setting : Setting) (now : Situation) (pick : Pick) (outcome : Outcome) (to : Next) →
    nat_lt pick.core now.state.count ≡ true → owed_by setting now pick ≡ outcome →
    after_step setting now.state.memory (now.state.pending pick.core) (now.state.cores pick.core) outcome ≡ Some to →
    after_pick setting now pick ≡ Some (moved setting now pick.core outcome to)
picks setting now pick outcome to below owed is_to =
    let made : Option Next =
    after_step setting now.state.memory (now.state.pending pick.core) (now.state.cores pick.core) outcome in
    ap (λ (o : Outcome). option_map (with_state setting now pick.core o) (step setting now.state pick.core o)) owed
    ∙ (ap (λ t. option_map (with_state setting now pick.core outcome)
    (cond t (option_map (state_with now.state pick.core) made) None)) below
    ∙ ap (λ (x : Option Next). option_map (with_state setting now pick.core outcome)
    (option_map (state_with now.state pick.core) x)) is_to)

-- ---- an unseen step

-- the next one of the core of this number, which need not wait for what is pending
pub record IsNext (setting : Setting) (now : Situation) (number : ℕ) (core : Core) (doom : Option ℕ)
    (is : IsUnseenStep setting core doom) : Type 0 where
  pub core_is : now.state.cores number ≡ core
  pub doom_is : now.doomed number ≡ doom
  pub goes : is.waits (now.state.pending number) ≡ false

-- after it
abbrev pub rested : (setting : Setting) (now : Situation) (number : ℕ) (core : Core) (doom : Option ℕ)
    → IsUnseenStep setting core doom → Situation
rested setting now number core doom is =
    moved setting now number is.outcome
    (now.state.memory, (pushed (now.state.pending number) is.store, is.next))

itself : (number : ℕ) → nat_eq number number ≡ true
itself number = eq-eqb number number refl

module _ (setting : Setting) (now : Situation) (number : ℕ) (core : Core) (doom : Option ℕ)
    (is : IsUnseenStep setting core doom) (is_next : IsNext setting now number core doom is) where
  abbrev pending : Pending
  pending = now.state.pending number

  abbrev after : Situation
  after = rested setting now number core doom is

  -- whatever the event, but for a drain
  pub unseen_is : (by : Option Event) → drains by pending ≡ false → nat_lt number now.state.count ≡ true
      → after_pick setting now (record { core = number; event = by }) ≡ Some after
  unseen_is by apart below =
      let memory : List ℕ = now.state.memory in
      picks setting now (record { core = number; event = by }) is.outcome
      (memory, (pushed pending is.store, is.next)) below
      (ap (λ (x : Core). owed_under by setting memory pending x (now.doomed number)) is_next.core_is
      ∙ (ap (λ (d : Option ℕ). owed_under by setting memory pending core d) is_next.doom_is
      ∙ is.is_owed by memory pending apart is_next.goes))
      (ap (λ (x : Core). after_step setting memory pending x is.outcome) is_next.core_is
      ∙ is.is_made memory pending is_next.goes)

  -- it does not wait
  pub unseen_goes : must_wait setting (seen_by now.state number) pending (now.state.cores number)
      (owed_outcome setting (seen_by now.state number) (now.state.cores number) (now.doomed number)) ≡ false
  unseen_goes =
      let seen : List ℕ = seen_by now.state number in
      ap (λ (x : Core). must_wait setting seen pending x (owed_outcome setting seen x (now.doomed number)))
      is_next.core_is
      ∙ (ap (λ (d : Option ℕ). must_wait setting seen pending core (owed_outcome setting seen core d)) is_next.doom_is
      ∙ (ap (must_wait setting seen pending core) (is.is_outcome seen) ∙ (is.must seen pending ∙ is_next.goes)))

  unseen_still : (by : Option Event) → drains by pending ≡ false
      → IsUnseen setting now (record { core = number; event = by })
  unseen_still by apart =
      let memory : List ℕ = now.state.memory in (
        apart,
        ap (λ (x : Core). is_unseen setting memory pending x (now.doomed number)) is_next.core_is
            ∙ (ap (λ (d : Option ℕ). is_unseen setting memory pending core d) is_next.doom_is
            ∙ is.still memory pending is_next.goes),
      )

  -- other cores stay, what is pending of them, and their dooms
  pub rested_core : (other : ℕ) → nat_eq other number ≡ false → after.state.cores other ≡ now.state.cores other
  rested_core other e = ap (λ t. cond t is.next (now.state.cores other)) e

  pub rested_left : (other : ℕ) → nat_eq other number ≡ false → after.state.pending other ≡ now.state.pending other
  rested_left other e = ap (λ t. cond t (pushed pending is.store) (now.state.pending other)) e

  pub rested_doom : (other : ℕ) → nat_eq other number ≡ false → after.doomed other ≡ now.doomed other
  rested_doom other e =
      let own : List ℕ = seen_by now.state number in
      let seen : List ℕ = seen_by now.state other in
      let memory : List ℕ = now.state.memory in
      let loads : List ℕ = addresses_loaded_by setting own (now.state.cores number) is.outcome in
      let writes : List ℕ = addresses_written_by setting memory pending (now.state.cores number) is.outcome in
      ap (λ t. cond t (doom_after_own is.outcome (now.doomed number))
      (doom_after_other setting seen loads writes (now.state.cores other) (now.doomed other))) e
      ∙ (ap (λ l. doom_after_other setting seen l writes (now.state.cores other) (now.doomed other))
      (ap (λ (x : Core). addresses_loaded_by setting own x is.outcome) is_next.core_is ∙ is.loads own)
      ∙ (ap (λ s. doom_after_other setting seen [] s (now.state.cores other) (now.doomed other))
      (ap (λ (x : Core). addresses_written_by setting memory pending x is.outcome) is_next.core_is
      ∙ is.writes memory pending)
      ∙ untouched setting seen (now.state.cores other) (now.doomed other)))

  own_core : after.state.cores number ≡ is.next
  own_core = ap (λ t. cond t is.next (now.state.cores number)) (itself number)

  own_left : after.state.pending number ≡ pushed pending is.store
  own_left = ap (λ t. cond t (pushed pending is.store) pending) (itself number)

  own_doom : (other : ℕ) → nat_eq other number ≡ true → after.doomed other ≡ doom_after_own is.outcome doom
  own_doom other e =
      ap (λ t. cond t (doom_after_own is.outcome (now.doomed number))
      (doom_after_other setting (seen_by now.state other)
      (addresses_loaded_by setting (seen_by now.state number) (now.state.cores number) is.outcome)
      (addresses_written_by setting now.state.memory pending (now.state.cores number) is.outcome)
      (now.state.cores other) (now.doomed other))) e
      ∙ ap (doom_after_own is.outcome) is_next.doom_is

-- the step of a core whose next one is unseen
pub record IsUnseenAt (setting : Setting) (now : Situation) (number : ℕ) : Type 0 where
  pub step : IsUnseenStep setting (now.state.cores number) (now.doomed number)
  pub is_next : IsNext setting now number (now.state.cores number) (now.doomed number) step

pub unseen_at : (setting : Setting) (now : Situation) (pick : Pick) → IsUnseen setting now pick
    → IsUnseenAt setting now pick.core
unseen_at setting now pick unseen =
    let here = unseen_step setting now.state.memory (now.state.pending pick.core) (now.state.cores pick.core)
    (now.doomed pick.core) unseen.1 in
    record { step = here.step; is_next = record { core_is = refl; doom_is = refl; goes = here.goes } }

-- what it leads to
pub unseen_leads : (setting : Setting) (now next : Situation) (pick : Pick) → (unseen : IsUnseen setting now pick)
    → after_pick setting now pick ≡ Some next →
    rested setting now pick.core (now.state.cores pick.core) (now.doomed pick.core)
    (unseen_at setting now pick unseen).step ≡ next
unseen_leads setting now next pick unseen goes =
    let at = unseen_at setting now pick unseen in
    let step = picked setting now next pick goes in
    same_in
    (sym (unseen_is setting now pick.core (now.state.cores pick.core) (now.doomed pick.core) at.step at.is_next
    pick.event unseen.0 step.below) ∙ goes)

-- ---- in either order

swap : {A : Type 0} (a b : Bool) (x y z : A) → (a ≡ true → b ≡ true → ⊥) → cond a x (cond b y z) ≡ cond b y (cond a x z)
swap true true x y z apart = absurd (apart refl refl)
swap true false x y z apart = refl
swap false b x y z apart = refl

-- of an unseen step and another pick
pub record Crosses (setting : Setting) (one other : Pick) (after_one after_other : Situation) : Type 0 where
  pub end : Situation
  pub other_last : after_pick setting after_one other ≡ Some end
  pub one_last : after_pick setting after_other one ≡ Some end
  pub still : IsUnseen setting after_other one

-- ---- a step of another core

module _ (setting : Setting) (now : Situation) (one other : Pick) (core : Core) (doom : Option ℕ)
    (is : IsUnseenStep setting core doom) (is_next : IsNext setting now one.core core doom is)
    (no_drain : drains one.event (now.state.pending one.core) ≡ false)
    (below_one : nat_lt one.core now.state.count ≡ true) (below_other : nat_lt other.core now.state.count ≡ true)
    (to : Next)
    (is_to :
    after_step setting now.state.memory (now.state.pending other.core) (now.state.cores other.core)
    (owed_by setting now other) ≡ Some to)
    (apart : nat_eq other.core one.core ≡ false) (apart_too : nat_eq one.core other.core ≡ false) where
  abbrev outcome : Outcome
  outcome = owed_by setting now other

  abbrev memory : List ℕ
  memory = now.state.memory

  -- memory as a core sees it
  abbrev sees : ℕ → List ℕ
  sees number = seen_by now.state number

  -- after the unseen one
  abbrev first : Situation
  first = rested setting now one.core core doom is

  -- after the other
  abbrev second : Situation
  second = moved setting now other.core outcome to

  first_core : (number : ℕ) → nat_eq number one.core ≡ false → first.state.cores number ≡ now.state.cores number
  first_core = rested_core setting now one.core core doom is is_next

  first_left : (number : ℕ) → nat_eq number one.core ≡ false → first.state.pending number ≡ now.state.pending number
  first_left = rested_left setting now one.core core doom is is_next

  first_doom : (number : ℕ) → nat_eq number one.core ≡ false → first.doomed number ≡ now.doomed number
  first_doom = rested_doom setting now one.core core doom is is_next

  first_sees : (number : ℕ) → nat_eq number one.core ≡ false → seen_by first.state number ≡ sees number
  first_sees number e = ap (seen_memory memory) (first_left number e)

  owed_first : owed_by setting first other ≡ outcome
  owed_first =
      ap (λ (left : Pending). owed_under other.event setting memory left (first.state.cores other.core)
      (first.doomed other.core)) (first_left other.core apart)
      ∙ (ap (λ (x : Core). owed_under other.event setting memory (now.state.pending other.core) x
      (first.doomed other.core)) (first_core other.core apart)
      ∙ ap (λ (d : Option ℕ). owed_under other.event setting memory (now.state.pending other.core)
      (now.state.cores other.core) d) (first_doom other.core apart))

  other_last : after_pick setting first other ≡ Some (moved setting first other.core outcome to)
  other_last =
      picks setting first other outcome to below_other owed_first
      (ap (λ (left : Pending). after_step setting memory left (first.state.cores other.core) outcome)
      (first_left other.core apart)
      ∙ (ap (λ (x : Core). after_step setting memory (now.state.pending other.core) x outcome)
      (first_core other.core apart) ∙ is_to))

  abbrev loads : List ℕ
  loads = addresses_loaded_by setting (sees other.core) (now.state.cores other.core) outcome

  abbrev writes : List ℕ
  writes = addresses_written_by setting memory (now.state.pending other.core) (now.state.cores other.core) outcome

  second_left : second.state.pending one.core ≡ now.state.pending one.core
  second_left = ap (λ t. cond t to.1.0 (now.state.pending one.core)) apart_too

  second_doom : second.doomed one.core ≡ doom
  second_doom =
      ap (λ t. cond t (doom_after_own outcome (now.doomed other.core))
      (doom_after_other setting (sees one.core) loads writes (now.state.cores one.core) (now.doomed one.core)))
      apart_too
      ∙ (ap (λ (x : Core). doom_after_other setting (sees one.core) loads writes x (now.doomed one.core))
      is_next.core_is
      ∙ (ap (λ (d : Option ℕ). doom_after_other setting (sees one.core) loads writes core d) is_next.doom_is
      ∙ is.before (sees one.core) loads writes))

  second_next : IsNext setting second one.core core doom is
  second_next = record {
    core_is = ap (λ t. cond t to.1.1 (now.state.cores one.core)) apart_too ∙ is_next.core_is;
    doom_is = second_doom;
    goes = ap is.waits second_left ∙ is_next.goes;
  }

  second_no_drain : drains one.event (second.state.pending one.core) ≡ false
  second_no_drain = ap (drains one.event) second_left ∙ no_drain

  -- and the unseen one behind it
  abbrev last : Situation
  last = rested setting second one.core core doom is

  one_last : after_pick setting second one ≡ Some last
  one_last = unseen_is setting second one.core core doom is second_next one.event second_no_drain below_one

  not_both : (number : ℕ) → nat_eq number other.core ≡ true → nat_eq number one.core ≡ true → ⊥
  not_both number is_other is_one =
      false≢true (sym apart ∙ (ap (λ n. nat_eq n one.core) (sym (eqb-true number other.core is_other)) ∙ is_one))

  -- the other hits the same
  abbrev then_loads : List ℕ
  then_loads = addresses_loaded_by setting (seen_by first.state other.core) (first.state.cores other.core) outcome

  abbrev then_writes : List ℕ
  then_writes =
      addresses_written_by setting memory (first.state.pending other.core) (first.state.cores other.core) outcome

  same_loads : then_loads ≡ loads
  same_loads =
      ap (λ (seen : List ℕ). addresses_loaded_by setting seen (first.state.cores other.core) outcome)
      (first_sees other.core apart)
      ∙ ap (λ (x : Core). addresses_loaded_by setting (sees other.core) x outcome) (first_core other.core apart)

  same_writes : then_writes ≡ writes
  same_writes =
      ap (λ (left : Pending). addresses_written_by setting memory left (first.state.cores other.core) outcome)
      (first_left other.core apart)
      ∙ ap (λ (x : Core). addresses_written_by setting memory (now.state.pending other.core) x outcome)
      (first_core other.core apart)

  abbrev behind : Situation
  behind = moved setting first other.core outcome to

  hits : (number : ℕ) → nat_eq number other.core ≡ false → behind.doomed number
      ≡ doom_after_other setting (seen_by first.state number) loads writes (first.state.cores number)
      (first.doomed number)
  hits number e =
      let seen : List ℕ = seen_by first.state number in
      let x : Core = first.state.cores number in
      let d : Option ℕ = first.doomed number in
      ap (λ t. cond t (doom_after_own outcome (first.doomed other.core))
      (doom_after_other setting seen then_loads then_writes x d)) e
      ∙ (ap (λ l. doom_after_other setting seen l then_writes x d) same_loads
      ∙ ap (λ w. doom_after_other setting seen loads w x d) same_writes)

  dooms : (number : ℕ) (is_other is_one : Bool) → nat_eq number other.core ≡ is_other
      → nat_eq number one.core ≡ is_one → behind.doomed number ≡ last.doomed number
  dooms number true true a b = absurd (not_both number a b)
  dooms number true false a b =
      ap (λ t. cond t (doom_after_own outcome (first.doomed other.core))
      (doom_after_other setting (seen_by first.state number) then_loads then_writes (first.state.cores number)
      (first.doomed number))) a
      ∙ (ap (doom_after_own outcome) (first_doom other.core apart)
      ∙ sym (rested_doom setting second one.core core doom is second_next number b
      ∙ ap (λ t. cond t (doom_after_own outcome (now.doomed other.core))
      (doom_after_other setting (sees number) loads writes (now.state.cores number) (now.doomed number))) a))
  dooms number false true a b =
      let seen : List ℕ = seen_by first.state number in
      hits number a
      ∙ (ap (λ t. doom_after_other setting seen loads writes (cond t is.next (now.state.cores number))
      (first.doomed number)) b
      ∙ (ap (λ (d : Option ℕ). doom_after_other setting seen loads writes is.next d)
      (own_doom setting now one.core core doom is is_next number b)
      ∙ (is.after seen loads writes ∙ sym (own_doom setting second one.core core doom is second_next number b))))
  dooms number false false a b =
      hits number a
      ∙ (ap (λ (seen : List ℕ). doom_after_other setting seen loads writes (first.state.cores number)
      (first.doomed number)) (first_sees number b)
      ∙ (ap (λ (x : Core). doom_after_other setting (sees number) loads writes x (first.doomed number))
      (first_core number b)
      ∙ (ap (λ (d : Option ℕ). doom_after_other setting (sees number) loads writes (now.state.cores number) d)
      (first_doom number b)
      ∙ sym (rested_doom setting second one.core core doom is second_next number b
      ∙ ap (λ t. cond t (doom_after_own outcome (now.doomed other.core))
      (doom_after_other setting (sees number) loads writes (now.state.cores number) (now.doomed number))) a))))

  same_left : (number : ℕ) → behind.state.pending number ≡ last.state.pending number
  same_left number =
      swap (nat_eq number other.core) (nat_eq number one.core) to.1.0
      (pushed (now.state.pending one.core) is.store) (now.state.pending number) (not_both number)
      ∙ ap (λ (left : Pending). cond (nat_eq number one.core) (pushed left is.store)
      (cond (nat_eq number other.core) to.1.0 (now.state.pending number))) (sym second_left)

  crosses : Crosses setting one other first second
  crosses = record {
    end = behind;
    other_last = other_last;
    one_last = one_last ∙ ap Some (sym (same_situation behind last refl refl
        (λ number. swap (nat_eq number other.core) (nat_eq number one.core) to.1.1 is.next (now.state.cores number)
        (not_both number))
        same_left (λ number. dooms number (nat_eq number other.core) (nat_eq number one.core) refl refl)));
    still = unseen_still setting second one.core core doom is second_next one.event second_no_drain;
  }

pub unseen_first : (setting : Setting) (now after_one after_other : Situation) (one other : Pick) →
    IsUnseen setting now one → nat_eq other.core one.core ≡ false → nat_eq one.core other.core ≡ false →
    after_pick setting now one ≡ Some after_one → after_pick setting now other ≡ Some after_other →
    Crosses setting one other after_one after_other
unseen_first setting now after_one after_other one other unseen apart apart_too goes goes_other =
    let at = unseen_at setting now one unseen in
    let core : Core = now.state.cores one.core in
    let doom : Option ℕ = now.doomed one.core in
    let step_one = picked setting now after_one one goes in
    let step_other = picked setting now after_other other goes_other in
    subst (λ (x : Situation). Crosses setting one other x after_other)
    (unseen_leads setting now after_one one unseen goes)
    (subst (λ (x : Situation). Crosses setting one other (rested setting now one.core core doom at.step) x)
    (sym step_other.is_next)
    (crosses setting now one other core doom at.step at.is_next unseen.0 step_one.below step_other.below step_other.to
    step_other.is_to apart apart_too))

-- ---- a drain of its own

abbrev pub the_drain : ℕ → Pick
the_drain number = record { core = number; event = Some event.Drain }

pub drained : (setting : Setting) (now : Situation) (number : ℕ) (oldest : Store) (younger : Pending)
    → now.state.pending number ≡ oldest ∷ younger → nat_lt number now.state.count ≡ true
    → after_pick setting now (the_drain number)
    ≡ Some (moved setting now number Drained
    (with_store now.state.memory oldest, (younger, now.state.cores number)))
drained setting now number oldest younger left below =
    let memory : List ℕ = now.state.memory in
    let core : Core = now.state.cores number in
    picks setting now (the_drain number) Drained (with_store memory oldest, (younger, core)) below
    (ap (λ (q : Pending). owed_under (Some event.Drain) setting memory q core (now.doomed number)) left)
    (ap (λ (q : Pending). after_drain memory q core) left)

pushed_front : (oldest : Store) (younger : Pending) (store : Option Store)
    → pushed (oldest ∷ younger) store ≡ oldest ∷ pushed younger store
pushed_front oldest younger None = refl
pushed_front oldest younger (Some store) = refl

-- a drain loads nothing
drain_loads : (setting : Setting) (seen : List ℕ) (core : Core) → addresses_loaded_by setting seen core Drained ≡ []
drain_loads setting seen (Closed regs) = refl
drain_loads setting seen (Midway regs value) = refl
drain_loads setting seen (Halted regs stop) = refl
drain_loads setting seen (Opened regs steps) = refl

merged : {A : Type 0} (t : Bool) (x y z : A) → cond t x (cond t y z) ≡ cond t x z
merged true x y z = refl
merged false x y z = refl

-- a pick that drains nothing now drains nothing where fewer are pending
drains_fewer : (by : Option Event) (oldest : Store) (younger : Pending) → drains by (oldest ∷ younger) ≡ false
    → drains by younger ≡ false
drains_fewer None oldest younger e = refl
drains_fewer (Some event.Drain) oldest younger e = absurd (true≢false e)
drains_fewer (Some (event.Abort by)) oldest younger e = refl

module _ (setting : Setting) (now : Situation) (one : Pick) (core : Core) (doom : Option ℕ)
    (is : IsUnseenStep setting core doom) (is_next : IsNext setting now one.core core doom is)
    (no_drain : drains one.event (now.state.pending one.core) ≡ false)
    (below : nat_lt one.core now.state.count ≡ true) (oldest : Store) (younger : Pending)
    (left : now.state.pending one.core ≡ oldest ∷ younger) where
  abbrev drained_memory : List ℕ
  drained_memory = with_store now.state.memory oldest

  abbrev stepped : Situation
  stepped = rested setting now one.core core doom is

  abbrev then_drained : Situation
  then_drained =
      moved setting stepped one.core Drained
      (drained_memory, (pushed younger is.store, stepped.state.cores one.core))

  abbrev first_drained : Situation
  first_drained = moved setting now one.core Drained (drained_memory, (younger, now.state.cores one.core))

  abbrev then_stepped : Situation
  then_stepped = rested setting first_drained one.core core doom is

  stepped_left : stepped.state.pending one.core ≡ oldest ∷ pushed younger is.store
  stepped_left =
      own_left setting now one.core core doom is is_next
      ∙ (ap (λ (q : Pending). pushed q is.store) left ∙ pushed_front oldest younger is.store)

  drained_left : first_drained.state.pending one.core ≡ younger
  drained_left = ap (λ t. cond t younger (now.state.pending one.core)) (itself one.core)

  drained_next : IsNext setting first_drained one.core core doom is
  drained_next = record {
    core_is = merged_self (nat_eq one.core one.core) (now.state.cores one.core) ∙ is_next.core_is;
    doom_is = ap (λ t. cond t (now.doomed one.core) (doom_after_other setting (seen_by now.state one.core)
        (addresses_loaded_by setting (seen_by now.state one.core) (now.state.cores one.core) Drained)
        (addresses_drained (now.state.pending one.core)) (now.state.cores one.core) (now.doomed one.core)))
        (itself one.core)
        ∙ is_next.doom_is;
    goes = ap is.waits drained_left ∙ is.fewer oldest younger (ap is.waits (sym left) ∙ is_next.goes);
  }
    where
      merged_self : (t : Bool) (x : Core) → cond t x x ≡ x
      merged_self true x = refl
      merged_self false x = refl

  drained_no_drain : drains one.event (first_drained.state.pending one.core) ≡ false
  drained_no_drain =
      ap (drains one.event) drained_left
      ∙ drains_fewer one.event oldest younger (ap (drains one.event) (sym left) ∙ no_drain)

  -- a drain hits the same cores behind the step
  hits_other : (number : ℕ) → nat_eq number one.core ≡ false
      → then_drained.doomed number ≡ first_drained.doomed number
  hits_other number e =
      let written : List ℕ = stored_addresses (stores_of (Some oldest)) in
      let own : Core = now.state.cores one.core in
      let seen : List ℕ = seen_by stepped.state number in
      let x : Core = stepped.state.cores number in
      let d : Option ℕ = stepped.doomed number in
      let own_loads : List ℕ =
      addresses_loaded_by setting (seen_by stepped.state one.core) (stepped.state.cores one.core) Drained in
      ap (λ t. cond t (stepped.doomed one.core)
      (doom_after_other setting seen own_loads (addresses_drained (stepped.state.pending one.core)) x d)) e
      ∙ (ap (λ l. doom_after_other setting seen l (addresses_drained (stepped.state.pending one.core)) x d)
      (drain_loads setting (seen_by stepped.state one.core) (stepped.state.cores one.core))
      ∙ (ap (λ (q : Pending). doom_after_other setting seen [] (addresses_drained q) x d) stepped_left
      ∙ (ap (λ (q : Pending). doom_after_other setting (seen_memory now.state.memory q) [] written x d)
      (rested_left setting now one.core core doom is is_next number e)
      ∙ (ap (λ (x : Core). doom_after_other setting (seen_by now.state number) [] written x d)
      (rested_core setting now one.core core doom is is_next number e)
      ∙ (ap (λ (d : Option ℕ). doom_after_other setting (seen_by now.state number) [] written
      (now.state.cores number) d) (rested_doom setting now one.core core doom is is_next number e)
      ∙ sym (ap (λ t. cond t (now.doomed one.core) (doom_after_other setting (seen_by now.state number)
      (addresses_loaded_by setting (seen_by now.state one.core) own Drained)
      (addresses_drained (now.state.pending one.core)) (now.state.cores number) (now.doomed number))) e
      ∙ (ap (λ l. doom_after_other setting (seen_by now.state number) l
      (addresses_drained (now.state.pending one.core)) (now.state.cores number) (now.doomed number))
      (drain_loads setting (seen_by now.state one.core) own)
      ∙ ap (λ (q : Pending). doom_after_other setting (seen_by now.state number) [] (addresses_drained q)
      (now.state.cores number) (now.doomed number)) left)))))))

  same_dooms : (number : ℕ) (own : Bool) → nat_eq number one.core ≡ own
      → then_drained.doomed number ≡ then_stepped.doomed number
  same_dooms number true e =
      ap (λ t. cond t (stepped.doomed one.core) (doom_after_other setting (seen_by stepped.state number)
      (addresses_loaded_by setting (seen_by stepped.state one.core) (stepped.state.cores one.core) Drained)
      (addresses_drained (stepped.state.pending one.core)) (stepped.state.cores number) (stepped.doomed number))) e
      ∙ (own_doom setting now one.core core doom is is_next one.core (itself one.core)
      ∙ sym (own_doom setting first_drained one.core core doom is drained_next number e))
  same_dooms number false e =
      hits_other number e ∙ sym (rested_doom setting first_drained one.core core doom is drained_next number e)

  same_cores : (number : ℕ) → then_drained.state.cores number ≡ then_stepped.state.cores number
  same_cores number =
      let test : Bool = nat_eq number one.core in
      let there : Core = now.state.cores number in
      ap (λ (x : Core). cond test x (cond test is.next there)) (own_core setting now one.core core doom is is_next)
      ∙ (merged test is.next is.next there ∙ sym (merged test is.next (now.state.cores one.core) there))

  same_pending : (number : ℕ) → then_drained.state.pending number ≡ then_stepped.state.pending number
  same_pending number =
      let test : Bool = nat_eq number one.core in
      let there : Pending = now.state.pending number in
      merged test (pushed younger is.store) (pushed (now.state.pending one.core) is.store) there
      ∙ (sym (merged test (pushed younger is.store) younger there)
      ∙ ap (λ (q : Pending). cond test (pushed q is.store) (cond test younger there)) (sym drained_left))

  crosses_drain : Crosses setting one (the_drain one.core) stepped first_drained
  crosses_drain = record {
    end = then_drained;
    other_last = drained setting stepped one.core oldest (pushed younger is.store) stepped_left below;
    one_last = unseen_is setting first_drained one.core core doom is drained_next one.event drained_no_drain below
        ∙ ap Some (sym (same_situation then_drained then_stepped refl refl same_cores same_pending
        (λ number. same_dooms number (nat_eq number one.core) refl)));
    still = unseen_still setting first_drained one.core core doom is drained_next one.event drained_no_drain;
  }

-- a pick that is a drain
record IsDrain (by : Option Event) (pending : Pending) : Type 0 where
  is : by ≡ Some event.Drain
  oldest : Store
  younger : Pending
  left : pending ≡ oldest ∷ younger

drain_of : (by : Option Event) (pending : Pending) → drains by pending ≡ true → IsDrain by pending
drain_of (Some event.Drain) (oldest ∷ younger) e =
    record { is = refl; oldest = oldest; younger = younger; left = refl }
drain_of (Some event.Drain) [] e = absurd (false≢true e)
drain_of (Some (event.Abort by)) left e = absurd (false≢true e)
drain_of None left e = absurd (false≢true e)

pub drain_first : (setting : Setting) (now after_one after_other : Situation) (one other : Pick) →
    IsUnseen setting now one → one.core ≡ other.core → drains other.event (now.state.pending one.core) ≡ true →
    after_pick setting now one ≡ Some after_one → after_pick setting now other ≡ Some after_other →
    Crosses setting one other after_one after_other
drain_first setting now after_one after_other one other unseen same is_drain goes goes_other =
    let at = unseen_at setting now one unseen in
    let core : Core = now.state.cores one.core in
    let doom : Option ℕ = now.doomed one.core in
    let below = (picked setting now after_one one goes).below in
    let drain = drain_of other.event (now.state.pending one.core) is_drain in
    let its : other ≡ the_drain one.core = λ i. record { core = sym same i; event = drain.is i } in
    let there : moved setting now one.core Drained
    (with_store now.state.memory drain.oldest, (drain.younger, core)) ≡ after_other =
    same_in
    (sym (drained setting now one.core drain.oldest drain.younger drain.left below)
    ∙ (ap (after_pick setting now) (sym its) ∙ goes_other)) in
    subst (λ (x : Situation). Crosses setting one other x after_other)
    (unseen_leads setting now after_one one unseen goes)
    (subst (λ (x : Situation). Crosses setting one other (rested setting now one.core core doom at.step) x) there
    (subst (λ (x : Pick). Crosses setting one x (rested setting now one.core core doom at.step)
    (moved setting now one.core Drained (with_store now.state.memory drain.oldest, (drain.younger, core)))) (sym its)
    (crosses_drain setting now one core doom at.step at.is_next unseen.0 below drain.oldest drain.younger drain.left)))

-- an unseen step is the same whatever its event, but for a drain
pub same_under_any : (setting : Setting) (now next : Situation) (one other : Pick) → IsUnseen setting now one →
    one.core ≡ other.core → drains other.event (now.state.pending one.core) ≡ false →
    after_pick setting now one ≡ Some next → after_pick setting now other ≡ Some next
same_under_any setting now next one other unseen same no_drain goes =
    let at = unseen_at setting now one unseen in
    let core : Core = now.state.cores one.core in
    let doom : Option ℕ = now.doomed one.core in
    let below = (picked setting now next one goes).below in
    subst (λ n. after_pick setting now (record { core = n; event = other.event }) ≡ Some next) same
    (unseen_is setting now one.core core doom at.step at.is_next other.event no_drain below
    ∙ ap Some (unseen_leads setting now next one unseen goes))
