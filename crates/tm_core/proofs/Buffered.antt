-- A machine with store buffers by what it would show without them: where none may be pending it is the same, and a step
-- of that with a row of pending stores is a step of the machine.
use Rattle.std.proofs.Common.{◌≡◌, ℕ, ◌+◌, ◌<◌, ◌≤◌, true, false, cond, eqb, List, [], ◌∷◌, length, get_or, set}
use Rattle.std.proofs.Common.{Err, Ok, Option, Some, None, suc, zero, refl, sym, ap, ◌∙◌, subst, arith, length-set}
use Rattle.std.specs.Prelude.{All, IfOk, Result, Vec, if◌then◌else◌, nat_eq, vec_capacity, slice_index_or}
use Rattle.std.proofs.lemmas.Bool.{cond_both, eqb-false, eqb-true, ne_eqb}
use Rattle.std.proofs.lemmas.List.Elements.{All-nil}
use Rattle.std.proofs.lemmas.List.{get_or_default, get_or-map, get_or-set_other, get_or-set_same, map-set}
use Rattle.std.proofs.lemmas.List.{nil_from_length}
use Rattle.tm_model.specs.Conflicts.{doomed_after}
use Rattle.tm_model.specs.Runs.{is_aborted_by}
use Rattle.tm_model.specs.Setting.{Setting, program_setting}
use Rattle.tm_model.specs.Shown.{View, view_of, view_outside}
use Rattle.ia_image.specs.Program.{ProgramValue as Program}
use Rattle.tm_model.specs.State.{Pending, State, opening_state, seen_by, seen_memory}
use Rattle.tm_model.specs.Steps.{must_wait}
use Rattle.tm_core.specs.Buffered.{AreCopied, AreGivenUp, AreRows, HaveRoom, IsBuffered, IsCopied, IsEmptyRow}
use Rattle.tm_core.specs.Buffered.{IsGivenUp, IsOpenedWith, IsRow, MakesPending, StepsRows}
use Rattle.tm_core.specs.Buffered.{pending_in, setting_at, with_pending}
use Rattle.tm_core.specs.PendingStep.{PendingResult, core_like, drains, pending_then, settles, stepped_pending}
use Rattle.tm_core.specs.PendingStep.{views_then}
use Rattle.tm_core.specs.StepRefinement.{Touched, condemn_view, lines_hit, stepped, view_after_hit}
use Rattle.tm_core.specs.Stepping.{MakesStep}
use Rattle.tm_core.specs.StoreBuffers.{IsStorable}
use Rattle.tm_core.specs.Theorem.{SameMachine, ShownMachine, StandsFor, TakesStepUnder, machine_setting}
use Rattle.tm_core.specs.Theorem.{no_regs, pending_at, view_at}
use Rattle.tm_core.specs.Types.{AtStop, Event, Outcome, Running, Stop, Store}
use Rattle.tm_core.proofs.MachineLemmas.{stands_at, stands_like}
use Rattle.tm_core.proofs.StepTheorem.{one_step, right_pending}
use Rattle.tm_core.proofs.StoreBufferStep.{Right}
use Rattle.tm_core.proofs.Table.{sound}
use Rattle.tm_core.proofs.Told.{stepped_tells}

-- ---- where none may be pending

pub same_plain : (s : ShownMachine) (most : ℕ) (ps : List Pending) → s.store_buffer ≡ 0 → s.pending ≡ [] → most ≡ 0
    → ps ≡ [] → with_pending s most ps ≡ s
same_plain s most ps plain none off empty = λ i. record {
  code = s.code;
  base = s.base;
  read_lines = s.read_lines;
  write_lines = s.write_lines;
  store_buffer = (off ∙ sym plain) i;
  memory = s.memory;
  views = s.views;
  pending = (empty ∙ sym none) i;
}

module _ {Z : Type 0} {s : ShownMachine} {direct most : ℕ} {rows : List (Vec Store Z)} {under : Vec Store Z}
    (is : IsBuffered s direct most rows under) where
  pub no_rows : most ≡ 0 → pending_in rows ≡ []
  no_rows off =
      ap pending_in (nil_from_length rows (is.count ∙ ap (λ n. if nat_eq n 0 then 0 else length s.views) off))

  pub as_plain : most ≡ 0 → with_pending s most (pending_in rows) ≡ s
  as_plain off = same_plain s most (pending_in rows) is.plain is.none off (no_rows off)

  -- what it makes without store buffers it makes with them
  pub lifted : (R : ShownMachine → ShownMachine → Type 0) {S t : ShownMachine} → R s t
      → with_pending s most (pending_in rows) ≡ S → t.store_buffer ≡ 0 → t.pending ≡ [] → most ≡ 0
      → R S (with_pending t most (pending_in rows))
  lifted R {S} {t} made view plain none off =
      let was : s ≡ S = sym (as_plain off) ∙ view in
      let now : t ≡ with_pending t most (pending_in rows) =
      sym (same_plain t most (pending_in rows) plain none off (no_rows off)) in
      subst (λ (x : ShownMachine). R x (with_pending t most (pending_in rows))) was (subst (R s) now made)

  -- its rows are those of another machine with as many cores and as much memory
  pub still_buffered : (t : ShownMachine) → SameMachine s t → t.store_buffer ≡ 0 → t.pending ≡ []
      → IsBuffered t direct most rows under
  still_buffered t same plain none = record {
    plain = plain;
    none = none;
    direct_is = is.direct_is ∙ ap (λ n. if nat_eq most 0 then n else 0) (sym same.cores);
    count = is.count ∙ ap (λ n. if nat_eq most 0 then 0 else n) (sym same.cores);
    each = λ j d below. subst (λ n. IsRow n most (slice_index_or rows j d)) (sym (ap (λ (k : Setting). k.size)
        same.rules))
        (is.each j d below);
    laid = is.laid;
  }

-- ---- a step with a row of pending stores

drains_tell : (m : List ℕ) (p : Pending) (v : View) → is_aborted_by (drains m p v).outcome ≡ false
drains_tell m [] v = refl
drains_tell m (oldest ∷ younger) v = refl

pending_tells : (k : Setting) (m : List ℕ) (p : Pending) (v : View)
    → is_aborted_by (stepped_pending None k m p v).outcome ≡ false
pending_tells k m p v =
    let seen : List ℕ = seen_memory m p in
    cond_both (must_wait k seen p (core_like v v.mode) (stepped k seen v v.mode).outcome) (drains m p v)
    (settles k m p v (stepped k seen v v.mode)) (λ (q : PendingResult). is_aborted_by q.outcome ≡ false)
    (λ _. drains_tell m p v) (λ _. stepped_tells k seen v v.mode)

drains_view : (m : List ℕ) (p : Pending) (v : View) → (drains m p v).view ≡ v
drains_view m [] v = refl
drains_view m (oldest ∷ younger) v = refl

-- a core that has stopped shows what it did
pending_stops : (k : Setting) (m : List ℕ) (p : Pending) (v : View) (stop : Stop) → v.mode ≡ AtStop stop
    → (stepped_pending None k m p v).view.mode ≡ AtStop stop
pending_stops k m p v stop at =
    let seen : List ℕ = seen_memory m p in
    cond_both (must_wait k seen p (core_like v v.mode) (stepped k seen v v.mode).outcome) (drains m p v)
    (settles k m p v (stepped k seen v v.mode)) (λ (q : PendingResult). q.view.mode ≡ AtStop stop)
    (λ _. ap (λ (u : View). u.mode) (drains_view m p v) ∙ at)
    (λ _. ap (λ mode. (stepped k seen v mode).view.mode) at ∙ at)

hit_stops : (touched : Touched) (v : View) (stop : Stop) → v.mode ≡ AtStop stop
    → (view_after_hit touched v).mode ≡ AtStop stop
hit_stops touched v stop at =
    cond_both (lines_hit v.reads v.writes touched) (condemn_view v.mode v) v (λ (u : View). u.mode ≡ AtStop stop)
    (λ _. ap (λ mode. (condemn_view mode v).mode) at ∙ at) (λ _. at)

module _ (event : Option Event) (most : ℕ) (s t : ShownMachine) (ps ps2 : List Pending) (p2 : Pending) (c : ℕ)
    (o : Outcome) (made : MakesPending event most s t (slice_index_or ps c []) p2 c o)
    (own : slice_index_or ps2 c [] ≡ p2)
    (others : (j : ℕ) → (j ≡ c → ⊥) → slice_index_or ps2 j [] ≡ slice_index_or ps j [])
    (below : c < length s.views) where
  abbrev before : ShownMachine
  before = with_pending s most ps

  abbrev after : ShownMachine
  after = with_pending t most ps2

  same_rules : machine_setting after ≡ machine_setting before
  same_rules = ap (λ (k : Setting). record k { store_buffer = most }) made.same.rules

  pub pending_same : SameMachine before after
  pending_same = record { rules = same_rules; cores = made.same.cores }

  pub pending_takes : (st : State) (d : ℕ → Option ℕ) → StandsFor before st d
      → TakesStepUnder event before after st d c o
  pending_takes st d stands =
      let k : Setting = machine_setting before in
      let n : ℕ = length before.views in
      let p : ℕ → Pending = pending_at before in
      let views : ℕ → View = view_at before in
      let r : PendingResult = stepped_pending event k s.memory (p c) (views c) in
      let views2 : ℕ → View = views_then views c r in
      let right : Right event k n st d c r.outcome r.memory views2 (pending_then p c r) =
      one_step event k (sound s.code s.base (length s.memory) s.read_lines s.write_lines most) n s.memory views p st d
      c refl below stands in
      let left : Right event k n st d c r.outcome r.memory views2 (pending_at after) =
      right_pending event k n st d c r.outcome r.memory views2 (pending_then p c r) (pending_at after)
      (λ j h. (elim (eqb j c) as (λ b. eqb j c ≡ b → pending_at after j ≡ cond b r.pending (p j)) [
        | true ↦ λ e. ap (pending_at after) (eqb-true j c e) ∙ own ∙ made.step.left
        | false ↦ λ e. others j (eqb-false j c e)
      ]) refl) right in
      let told : Right event k n st d c o t.memory views2 (pending_at after) =
      subst (λ l. Right event k n st d c o l views2 (pending_at after)) (sym made.step.new_memory)
      (subst (λ x. Right event k n st d c x r.memory views2 (pending_at after)) (sym made.step.outcome_is) left) in
      let dd : ℕ → Option ℕ = doomed_after k st d c o in
      record {
        is_owed = told.owes;
        next = told.next;
        is_step = told.steps;
        stands = stands_at k (machine_setting after) n (length after.views) t.memory (view_at after) told.next dd
            (sym same_rules) (sym made.same.cores)
            (stands_like k n t.memory views2 (view_at after) told.next dd (λ j h. sym (made.step.each j h))
            told.stands);
      }

-- under no event, a step as others make it
pub pending_makes : (most : ℕ) (s t : ShownMachine) (ps ps2 : List Pending) (p2 : Pending) (c : ℕ) (o : Outcome)
    → MakesPending None most s t (slice_index_or ps c []) p2 c o → slice_index_or ps2 c [] ≡ p2
    → ((j : ℕ) → (j ≡ c → ⊥) → slice_index_or ps2 j [] ≡ slice_index_or ps j []) → c < length s.views
    → MakesStep (with_pending s most ps) (with_pending t most ps2) c o
pending_makes most s t ps ps2 p2 c o made own others below =
    let k : Setting = setting_at s most in
    let p : Pending = slice_index_or ps c [] in
    let r : PendingResult = stepped_pending None k s.memory p (view_at s c) in
    record {
      same = pending_same None most s t ps ps2 p2 c o made own others below;
      ok = pending_takes None most s t ps ps2 p2 c o made own others below;
      told = ap is_aborted_by made.step.outcome_is ∙ pending_tells k s.memory p (view_at s c);
      stops = λ j stop within at.
          ap (λ (v : View). v.mode) (made.step.each j within)
          ∙ cond_both (eqb j c) r.view (view_after_hit r.touched (view_at s j)) (λ (v : View). v.mode ≡ AtStop stop)
          (λ e. pending_stops k s.memory p (view_at s c) stop
          (ap (λ i. (view_at s i).mode) (sym (eqb-true j c e)) ∙ at))
          (λ _. hit_stops r.touched (view_at s j) stop at);
    }

-- ---- the row of a core

module _ {Z : Type 0} (rows : List (Vec Store Z)) (c : ℕ) (row row2 : Vec Store Z) (is : row
    ≡ slice_index_or rows c row)
    (below : c < length rows) where
  pub row_at : slice_index_or (pending_in rows) c [] ≡ row.items
  row_at = get_or-map (λ (v : Vec Store Z). v.items) rows c row [] below ∙ ap (λ (v : Vec Store Z). v.items) (sym is)

  put_is : pending_in (set rows c row2) ≡ set (pending_in rows) c row2.items
  put_is = map-set (λ (v : Vec Store Z). v.items) rows c row2

  pub row_put : slice_index_or (pending_in (set rows c row2)) c [] ≡ row2.items
  row_put =
      get_or-map (λ (v : Vec Store Z). v.items) (set rows c row2) c row [] (omega (arith, length-set rows c row2))
      ∙ ap (λ (v : Vec Store Z). v.items) (get_or-set_same rows c row2 row below)

  pub row_other : (j : ℕ) → (j ≡ c → ⊥)
      → slice_index_or (pending_in (set rows c row2)) j [] ≡ slice_index_or (pending_in rows) j []
  row_other j apart =
      ap (λ l. get_or l j []) put_is ∙ get_or-set_other (pending_in rows) c j row2.items [] apart

-- the rows behind a step of one core
pub steps_rows : {Z : Type 0} (event : Option Event) (most : ℕ) (s t : ShownMachine) (rows : List (Vec Store Z))
    (c : ℕ) (row row2 : Vec Store Z) (o : Outcome) → row ≡ slice_index_or rows c row → c < length rows
    → MakesPending event most s t row.items row2.items c o → AreRows (length s.memory) most rows
    → IsRow (length t.memory) most row2 → StepsRows event most s t rows (set rows c row2) c o
steps_rows event most s t rows c row row2 o is below made each own = record {
  made =
      subst (λ (p : Pending). MakesPending event most s t p (slice_index_or (pending_in (set rows c row2)) c []) c o)
      (sym (row_at rows c row row2 is below))
      (subst (λ (p : Pending). MakesPending event most s t row.items p c o) (sym (row_put rows c row row2 is below))
      made);
  others = row_other rows c row row2 is below;
  count = length-set rows c row2;
  each = λ j d within. (elim (eqb j c)
      as (λ b. eqb j c ≡ b → IsRow (length t.memory) most (get_or (set rows c row2) j d)) [
        | true ↦ λ e.
            subst (IsRow (length t.memory) most)
            (sym (ap (λ i. get_or (set rows c row2) i d) (eqb-true j c e) ∙ get_or-set_same rows c row2 d below)) own
        | false ↦ λ e.
            subst (IsRow (length t.memory) most) (sym (get_or-set_other rows c j row2 d (eqb-false j c e)))
            (subst (λ n. IsRow n most (get_or rows j d)) (sym (ap (λ (k : Setting). k.size) made.same.rules))
            (each j d (subst (λ n. j < n) (length-set rows c row2) within)))
      ]) refl;
}

-- rows that are given up
emptied : {Z : Type 0} (rows : List (Vec Store Z))
    → ((i : ℕ) (d : Vec Store Z) → i < length rows → (get_or rows i d).items ≡ []) → (j : ℕ)
    → get_or (pending_in rows) j [] ≡ []
emptied [] all j = refl
emptied (row ∷ rows) all zero = all 0 row (omega arith)
emptied (row ∷ rows) all (suc j) = emptied rows (λ i d below. all (suc i) d (omega arith)) j

module _ {Z : Type 0} {s : ShownMachine} {direct most : ℕ} {rows : List (Vec Store Z)} {under : Vec Store Z}
    (is : IsBuffered s direct most rows under) (t : ShownMachine) (rows2 : List (Vec Store Z))
    (count : length rows2 ≡ length rows)
    (given : (i : ℕ) (d : Vec Store Z) → i < length rows → IsGivenUp (get_or rows i d) (get_or rows2 i d)) where
  pub none_left : (j : ℕ) → get_or (pending_in rows2) j [] ≡ []
  none_left = emptied rows2 (λ i d below. (given i d (subst (λ n. i < n) count below)).none)

  pub given_up : SameMachine s t → t.store_buffer ≡ 0 → t.pending ≡ [] → IsBuffered t direct most rows2 under
  given_up same plain none = record {
    plain = plain;
    none = none;
    direct_is = is.direct_is ∙ ap (λ n. if nat_eq most 0 then n else 0) (sym same.cores);
    count = count ∙ is.count ∙ ap (λ n. if nat_eq most 0 then 0 else n) (sym same.cores);
    each = λ j d below.
        let within : j < length rows = subst (λ n. j < n) count below in
        let up : IsGivenUp (get_or rows j d) (get_or rows2 j d) = given j d within in
        record {
          storable = subst (All (IsStorable (length t.memory))) (sym up.none) (All-nil (IsStorable (length t.memory)));
          few = subst (λ (p : Pending). length p ≤ most) (sym up.none) (omega arith);
          room = subst (λ n. most ≤ n) (sym up.room) (is.each j d within).room;
        };
    laid = is.laid;
  }

-- a machine before its first step, with no store pending
pub opened_with : (p : Program) (t : ShownMachine) (most : ℕ) (ps : List Pending)
    → StandsFor t (opening_state p) (λ _. None) → ((j : ℕ) → slice_index_or ps j [] ≡ [])
    → StandsFor (with_pending t most ps) (opening_state p) (λ _. None)
opened_with p t most ps stands none = record {
  same_memory = stands.same_memory;
  same_count = stands.same_count;
  each = stands.each;
  same_pending = λ j below. none j;
}

-- ---- which core makes its steps on memory itself

pub direct_told : (direct most n c : ℕ) → direct ≡ (if nat_eq most 0 then n else 0) → c < direct
    → (most ≡ 0) × (c < n)
direct_told direct most n c =
    (elim (nat_eq most 0)
    as (λ t. nat_eq most 0 ≡ t → direct ≡ (if t then n else 0) → c < direct → (most ≡ 0) × (c < n)) [
      | true ↦ λ e is below. (eqb-true most 0 e, omega arith)
      | false ↦ λ e is below. absurd (omega arith)
    ]) refl

pub buffered_told : (direct most n c : ℕ) → direct ≡ (if nat_eq most 0 then n else 0) → direct ≤ c → c < n → 0 < most
buffered_told direct most n c =
    (elim (nat_eq most 0)
    as (λ t. nat_eq most 0 ≡ t → direct ≡ (if t then n else 0) → direct ≤ c → c < n → 0 < most) [
      | true ↦ λ e is past below. absurd (omega arith)
      | false ↦ λ e is past below. let some : most ≡ 0 → ⊥ = eqb-false most 0 e in omega arith
    ]) refl

-- ---- a step of one core, over its row

module _ {Z : Type 0} {s S : ShownMachine} {direct most : ℕ} {rows : List (Vec Store Z)} {under : Vec Store Z}
    (is : IsBuffered s direct most rows under) (view : with_pending s most (pending_in rows) ≡ S) where
  pub off_of : S.store_buffer ≡ 0 → most ≡ 0
  off_of plain = ap (λ (x : ShownMachine). x.store_buffer) view ∙ plain

  pub some_of : 0 < S.store_buffer → 0 < most
  some_of some = subst (λ n. 0 < n) (sym (ap (λ (x : ShownMachine). x.store_buffer) view)) some

  pub core_of : (c : ℕ) → c < length S.views → c < length s.views
  core_of c below = subst (λ (x : ShownMachine). c < length x.views) (sym view) below

  -- each core has a row
  pub has_row : (c : ℕ) → 0 < most → c < length s.views → c < length rows
  has_row c some below =
      subst (λ n. c < n)
      (sym (is.count ∙ ap (λ t. if t then 0 else length s.views) (ne_eqb most 0 (omega arith)))) below

  module _ (event : Option Event) (t : ShownMachine) (rows2 : List (Vec Store Z)) (c : ℕ) (o : Outcome)
      (steps : StepsRows event most s t rows rows2 c o) (below : c < length S.views) where
    abbrev now : ShownMachine
    now = with_pending t most (pending_in rows2)

    pub row_takes : (st : State) (d : ℕ → Option ℕ) → StandsFor S st d → TakesStepUnder event S now st d c o
    row_takes st d =
        subst (λ (x : ShownMachine). StandsFor x st d → TakesStepUnder event x now st d c o) view
        (pending_takes event most s t (pending_in rows) (pending_in rows2) (slice_index_or (pending_in rows2) c []) c o
        steps.made refl steps.others (core_of c below) st d)

    pub row_same : SameMachine S now
    row_same =
        subst (λ (x : ShownMachine). SameMachine x now) view
        (pending_same event most s t (pending_in rows) (pending_in rows2) (slice_index_or (pending_in rows2) c []) c o
        steps.made refl steps.others (core_of c below))

    -- its invariant again
    pub rows_after : {under2 : Vec Store Z} → t.store_buffer ≡ 0 → t.pending ≡ []
        → vec_capacity under2 ≡ vec_capacity under → IsBuffered t direct most rows2 under2
    rows_after plain none room = record {
      plain = plain;
      none = none;
      direct_is = is.direct_is ∙ ap (λ n. if nat_eq most 0 then n else 0) (sym steps.made.same.cores);
      count = steps.count ∙ is.count ∙ ap (λ n. if nat_eq most 0 then 0 else n) (sym steps.made.same.cores);
      each = steps.each;
      laid = subst (λ n. most ≤ n) (sym room) is.laid;
    }

  pub row_makes : (t : ShownMachine) (rows2 : List (Vec Store Z)) (c : ℕ) (o : Outcome)
      → StepsRows None most s t rows rows2 c o → c < length S.views
      → MakesStep S (with_pending t most (pending_in rows2)) c o
  row_makes t rows2 c o steps below =
      subst (λ (x : ShownMachine). MakesStep x (with_pending t most (pending_in rows2)) c o) view
      (pending_makes most s t (pending_in rows) (pending_in rows2) (slice_index_or (pending_in rows2) c []) c o
      steps.made refl steps.others (core_of c below))

  -- the rows stay
  pub rows_take : (event : Option Event) (t : ShownMachine) (c : ℕ) (o : Outcome) → c < length S.views →
      MakesPending event most s t (slice_index_or (pending_in rows) c []) (slice_index_or (pending_in rows) c []) c o →
      (st : State) (d : ℕ → Option ℕ) → StandsFor S st d
      → TakesStepUnder event S (with_pending t most (pending_in rows)) st d c o
  rows_take event t c o below made st d =
      subst (λ (x : ShownMachine). StandsFor x st d
      → TakesStepUnder event x (with_pending t most (pending_in rows)) st d c o) view
      (pending_takes event most s t (pending_in rows) (pending_in rows) (slice_index_or (pending_in rows) c []) c o made
      refl (λ j apart. refl) (core_of c below) st d)

  pub rows_same : (t : ShownMachine) → SameMachine s t → SameMachine S (with_pending t most (pending_in rows))
  rows_same t same =
      subst (λ (x : ShownMachine). SameMachine x (with_pending t most (pending_in rows))) view
      (record { rules = ap (λ (k : Setting). record k { store_buffer = most }) same.rules; cores = same.cores })

-- a core of which a store is pending has a row
pub pends_somewhere : {Z : Type 0} (rows : List (Vec Store Z)) (c : ℕ)
    → 0 < length (slice_index_or (pending_in rows) c []) → c < length rows
pends_somewhere [] c some = absurd (omega arith)
pends_somewhere (row ∷ rows) zero some = omega arith
pends_somewhere (row ∷ rows) (suc c) some = let below : c < length rows = pends_somewhere rows c some in omega arith

-- ---- rows are given up one by one

pub record GivenUpTo {Z : Type 0} (so_far : ℕ) (before after : List (Vec Store Z)) : Type 0 where
  pub count : length after ≡ length before
  pub done : (i : ℕ) (d : Vec Store Z) → i < so_far → IsGivenUp (get_or before i d) (get_or after i d)
  pub left : (i : ℕ) (d : Vec Store Z) → so_far ≤ i → get_or after i d ≡ get_or before i d

pub given_none : {Z : Type 0} (rows : List (Vec Store Z)) → GivenUpTo 0 rows rows
given_none rows = record { count = refl; done = λ i d below. absurd (omega arith); left = λ i d past. refl }

pub given_more : {Z : Type 0} (before after : List (Vec Store Z)) (n : ℕ) (any row : Vec Store Z)
    → GivenUpTo n before after → n < length after → row.items ≡ []
    → vec_capacity row ≡ vec_capacity (get_or after n any)
    → GivenUpTo (n + 1) before (set after n row)
given_more before after n any row up within none room = record {
  count = length-set after n row ∙ up.count;
  done = λ i d below. (elim (eqb i n)
      as (λ b. eqb i n ≡ b → IsGivenUp (get_or before i d) (get_or (set after n row) i d)) [
        | true ↦ λ e.
            let same : i ≡ n = eqb-true i n e in
            let here : get_or (set after n row) i d ≡ row =
            ap (λ j. get_or (set after n row) j d) same ∙ get_or-set_same after n row d within in
            let was : get_or after n any ≡ get_or before i d =
            get_or_default after n any d within ∙ up.left n d (omega arith) ∙ ap (λ j. get_or before j d) (sym same) in
            record {
              none = ap (λ (v : Vec Store _). v.items) here ∙ none;
              room = ap vec_capacity here ∙ room ∙ ap vec_capacity was;
            }
        | false ↦ λ e.
            let other : i ≡ n → ⊥ = eqb-false i n e in
            subst (IsGivenUp (get_or before i d)) (sym (get_or-set_other after n i row d other))
            (up.done i d (omega arith))
      ]) refl;
  left = λ i d past. get_or-set_other after n i row d (omega arith) ∙ up.left i d (omega arith);
}

pub given_all : {Z : Type 0} (before after : List (Vec Store Z)) (n : ℕ) → GivenUpTo n before after
    → length before ≤ n → AreGivenUp before after
given_all before after n up all = record { count = up.count; each = λ i d below. up.done i d (omega arith) }

-- what no step changes, whatever is pending
pub same_rows : {s S : ShownMachine} {most : ℕ} {ps : List Pending} → with_pending s most ps ≡ S → (t : ShownMachine)
    (ps2 : List Pending) → SameMachine s t → SameMachine S (with_pending t most ps2)
same_rows {s} {S} {most} {ps} view t ps2 same =
    subst (λ (x : ShownMachine). SameMachine x (with_pending t most ps2)) view
    (record { rules = ap (λ (k : Setting). record k { store_buffer = most }) same.rules; cores = same.cores })

-- ---- before the first step

-- where no store may be pending there is no row, and else one for each core
pub opened_rows : {Z : Type 0} (s : ShownMachine) (direct most : ℕ) (rows : List (Vec Store Z)) (under : Vec Store Z)
    → s.store_buffer ≡ 0 → s.pending ≡ [] → direct ≡ (if nat_eq most 0 then length s.views else 0)
    → length rows ≡ (if nat_eq most 0 then 0 else length s.views)
    → ((i : ℕ) (d : Vec Store Z) → i < length rows → IsEmptyRow most (get_or rows i d)) → most ≤ vec_capacity under
    → IsBuffered s direct most rows under
opened_rows s direct most rows under plain none direct_is count each laid = record {
  plain = plain;
  none = none;
  direct_is = direct_is;
  count = count;
  each = λ j d below.
      let own : IsEmptyRow most (get_or rows j d) = each j d below in
      record {
        storable = subst (All (IsStorable (length s.memory))) (sym own.none) (All-nil (IsStorable (length s.memory)));
        few = subst (λ (p : Pending). length p ≤ most) (sym own.none) (omega arith);
        room = own.room;
      };
  laid = laid;
}

pub opened_as : {Z : Type 0} (s : ShownMachine) (most : ℕ) (rows : List (Vec Store Z))
    → ((i : ℕ) (d : Vec Store Z) → i < length rows → IsEmptyRow most (get_or rows i d))
    → IsOpenedWith s most (with_pending s most (pending_in rows))
opened_as s most rows each = record {
  pending = pending_in rows;
  shown = refl;
  none = emptied rows (λ i d below. (each i d below).none);
}

-- it stands for the program's first state
pub opened_stands : (p : Program) (s t : ShownMachine) (most : ℕ) → IsOpenedWith s most t
    → StandsFor s (opening_state p) (λ _. None) → StandsFor t (opening_state p) (λ _. None)
opened_stands p s t most opened stands =
    subst (λ (x : ShownMachine). StandsFor x (opening_state p) (λ _. None)) (sym opened.shown)
    (opened_with p s most opened.pending stands opened.none)

-- past the rows nothing is pending
pub past_rows : {Z : Type 0} (rows : List (Vec Store Z)) (c : ℕ) → length rows ≤ c
    → slice_index_or (pending_in rows) c [] ≡ []
past_rows [] c past = refl
past_rows (row ∷ rows) zero past = absurd (omega arith)
past_rows (row ∷ rows) (suc c) past = past_rows rows c (omega arith)

-- what holds of each machine that is opened so
pub opened_ok : {E : Type 0} (s : ShownMachine) (most : ℕ) (P : ShownMachine → Type 0) (r : Result ShownMachine E)
    → IfOk r (IsOpenedWith s most) → ((t : ShownMachine) → IsOpenedWith s most t → P t) → IfOk r P
opened_ok s most P (Ok t) opened all = all t opened
opened_ok s most P (Err e) opened all = tt

pub opened_rules : (p : Program) (s t : ShownMachine) (reads writes most : ℕ) → IsOpenedWith s most t
    → machine_setting s ≡ program_setting p reads writes 0 → machine_setting t ≡ program_setting p reads writes most
opened_rules p s t reads writes most opened rules =
    ap machine_setting opened.shown ∙ ap (λ (k : Setting). record k { store_buffer = most }) rules

-- ---- machines that show the same

pub stands_same : (s t : ShownMachine) → machine_setting t ≡ machine_setting s → t.memory ≡ s.memory
    → t.views ≡ s.views → t.pending ≡ s.pending → (st : State) (d : ℕ → Option ℕ) → StandsFor s st d → StandsFor t st d
stands_same s t rules memory views pending st d stands =
    let within : (j : ℕ) → j < length t.views → j < length s.views =
    λ j below. subst (λ n. j < n) (ap length views) below in
    record {
      same_memory = memory ∙ stands.same_memory;
      same_count = ap length views ∙ stands.same_count;
      each = λ j below.
          subst (λ k. view_of k (seen_by st j) (st.cores j) (d j) ≡ Some (view_at t j)) (sym rules)
          (stands.each j (within j below)
          ∙ ap (λ (l : List View). Some (slice_index_or l j (view_outside Running no_regs))) (sym views));
      same_pending = λ j below.
          ap (λ (l : List Pending). slice_index_or l j []) pending ∙ stands.same_pending j (within j below);
    }

-- ---- the row of a core, whether there is one or not

module _ {Z : Type 0} {s S : ShownMachine} {direct most : ℕ} {rows : List (Vec Store Z)} {under : Vec Store Z}
    (is : IsBuffered s direct most rows under) (view : with_pending s most (pending_in rows) ≡ S) where
  -- what is pending of a core has a place in memory, and there is room for no more
  pub row_storable : (c : ℕ) → (row : Vec Store Z) → c < length rows → row ≡ slice_index_or rows c row
      → All (IsStorable (length S.memory)) row.items
  row_storable c row below at =
      subst (λ (x : ShownMachine). All (IsStorable (length x.memory)) row.items) view
      (subst (λ (v : Vec Store Z). All (IsStorable (length s.memory)) v.items) (sym at) (is.each c row below).storable)

  pub row_few : (c : ℕ) → (row : Vec Store Z) → c < length rows → row ≡ slice_index_or rows c row
      → length row.items ≤ S.store_buffer
  row_few c row below at =
      subst (λ (x : ShownMachine). length row.items ≤ x.store_buffer) view
      (subst (λ (v : Vec Store Z). length v.items ≤ most) (sym at) (is.each c row below).few)

  pub row_shown : (c : ℕ) → (row : Vec Store Z) → c < length rows → row ≡ slice_index_or rows c row
      → row.items ≡ pending_at S c
  row_shown c row below at =
      sym (row_at rows c row row at below) ∙ ap (λ (x : ShownMachine). pending_at x c) view

-- ---- rows are taken over one by one

pub record CopiedTo {Z : Type 0} (so_far : ℕ) (before twins after : List (Vec Store Z)) : Type 0 where
  pub count : length after ≡ length before
  pub done : (i : ℕ) (d : Vec Store Z) → i < so_far → IsCopied (get_or before i d) (get_or twins i d) (get_or after i d)
  pub left : (i : ℕ) (d : Vec Store Z) → so_far ≤ i → get_or after i d ≡ get_or before i d

pub copied_none : {Z : Type 0} (rows twins : List (Vec Store Z)) → CopiedTo 0 rows twins rows
copied_none rows twins = record { count = refl; done = λ i d below. absurd (omega arith); left = λ i d past. refl }

pub copied_more : {Z : Type 0} (before twins after : List (Vec Store Z)) (n : ℕ) (any twin row : Vec Store Z)
    → CopiedTo n before twins after → n < length after → n < length twins → row.items ≡ (get_or twins n twin).items
    → vec_capacity row ≡ vec_capacity (get_or after n any) → CopiedTo (n + 1) before twins (set after n row)
copied_more before twins after n any twin row up within there same room = record {
  count = length-set after n row ∙ up.count;
  done = λ i d below. (elim (eqb i n)
      as (λ b. eqb i n ≡ b → IsCopied (get_or before i d) (get_or twins i d) (get_or (set after n row) i d)) [
        | true ↦ λ e.
            let at : i ≡ n = eqb-true i n e in
            let here : get_or (set after n row) i d ≡ row =
            ap (λ j. get_or (set after n row) j d) at ∙ get_or-set_same after n row d within in
            let was : get_or after n any ≡ get_or before i d =
            get_or_default after n any d within ∙ up.left n d (omega arith) ∙ ap (λ j. get_or before j d) (sym at) in
            let other : get_or twins n twin ≡ get_or twins i d =
            get_or_default twins n twin d there ∙ ap (λ j. get_or twins j d) (sym at) in
            record {
              same = ap (λ (v : Vec Store _). v.items) here ∙ same ∙ ap (λ (v : Vec Store _). v.items) other;
              room = ap vec_capacity here ∙ room ∙ ap vec_capacity was;
            }
        | false ↦ λ e.
            let other : i ≡ n → ⊥ = eqb-false i n e in
            subst (IsCopied (get_or before i d) (get_or twins i d)) (sym (get_or-set_other after n i row d other))
            (up.done i d (omega arith))
      ]) refl;
  left = λ i d past. get_or-set_other after n i row d (omega arith) ∙ up.left i d (omega arith);
}

pub copied_all : {Z : Type 0} (before twins after : List (Vec Store Z)) (n : ℕ) → CopiedTo n before twins after
    → length before ≤ n → AreCopied before twins after
copied_all before twins after n up all = record { count = up.count; each = λ i d below. up.done i d (omega arith) }

-- the same stores are pending then
pub same_items : {Z : Type 0} (rows twins : List (Vec Store Z)) → length rows ≡ length twins
    → ((i : ℕ) (d : Vec Store Z) → i < length rows → (get_or rows i d).items ≡ (get_or twins i d).items)
    → pending_in rows ≡ pending_in twins
same_items [] [] count each = refl
same_items [] (twin ∷ twins) count each = absurd (omega arith)
same_items (row ∷ rows) [] count each = absurd (omega arith)
same_items (row ∷ rows) (twin ∷ twins) count each = λ j. each 0 row (omega arith) j
    ∷ same_items rows twins (omega arith) (λ i d below. each (suc i) d (omega arith)) j

-- ---- a machine that becomes as another one of the same rules is

module _ {Z : Type 0} {s S o O : ShownMachine} {direct direct2 most most2 : ℕ} {rows twins : List (Vec Store Z)}
    {under under2 : Vec Store Z} (is : IsBuffered s direct most rows under)
    (view : with_pending s most (pending_in rows) ≡ S) (is2 : IsBuffered o direct2 most2 twins under2)
    (view2 : with_pending o most2 (pending_in twins) ≡ O) (same : SameMachine S O) where
  rules_same : setting_at o most2 ≡ setting_at s most
  rules_same =
      ap machine_setting view2 ∙ same.rules ∙ sym (ap machine_setting view)

  most_same : most2 ≡ most
  most_same = ap (λ (k : Setting). k.store_buffer) rules_same

  cores_same : length o.views ≡ length s.views
  cores_same =
      ap (λ (x : ShownMachine). length x.views) view2 ∙ same.cores
      ∙ sym (ap (λ (x : ShownMachine). length x.views) view)

  -- the two without their store buffers
  pub unbuffered_same : SameMachine s o
  unbuffered_same = record {
    rules = ap (setting_at o) is2.plain ∙ ap (λ (k : Setting). record k { store_buffer = 0 }) rules_same
        ∙ sym (ap (setting_at s) is.plain);
    cores = cores_same;
  }

  pub as_many_rows : length twins ≡ length rows
  as_many_rows =
      is2.count
      ∙ ap (λ n. if nat_eq n 0 then 0 else length o.views) most_same
      ∙ ap (λ n. if nat_eq most 0 then 0 else n) cores_same
      ∙ sym is.count

  pub rows_have_room : HaveRoom rows twins
  rows_have_room j d below =
      let here : most ≤ vec_capacity (get_or rows j d) = (is.each j d below).room in
      let there : length (get_or twins j d).items ≤ most2 =
      (is2.each j d (subst (λ n. j < n) (sym as_many_rows) below)).few in
      omega (arith, here, there, most_same)

  module _ (t : ShownMachine) (rows2 : List (Vec Store Z)) (copied : AreCopied rows twins rows2)
      (now : SameMachine s t) where
    pub rows_copied : pending_in rows2 ≡ pending_in twins
    rows_copied =
        same_items rows2 twins (copied.count ∙ sym as_many_rows)
        (λ i d below. (copied.each i d (subst (λ n. i < n) copied.count below)).same)

    -- its invariant again
    pub copied_buffered : t.store_buffer ≡ 0 → t.pending ≡ [] → IsBuffered t direct most rows2 under
    copied_buffered plain none = record {
      plain = plain;
      none = none;
      direct_is = is.direct_is ∙ ap (λ n. if nat_eq most 0 then n else 0) (sym now.cores);
      count = copied.count ∙ is.count ∙ ap (λ n. if nat_eq most 0 then 0 else n) (sym now.cores);
      each = λ j d below.
          let within : j < length rows = subst (λ n. j < n) copied.count below in
          let own : IsCopied (get_or rows j d) (get_or twins j d) (get_or rows2 j d) = copied.each j d within in
          let there : IsRow (length o.memory) most2 (get_or twins j d) =
          is2.each j d (subst (λ n. j < n) (sym as_many_rows) within) in
          let size : length o.memory ≡ length t.memory =
          ap (λ (k : Setting). k.size) rules_same ∙ sym (ap (λ (k : Setting). k.size) now.rules) in
          record {
            storable = subst (λ (p : Pending). All (IsStorable (length t.memory)) p) (sym own.same)
                (subst (λ n. All (IsStorable n) (get_or twins j d).items) size there.storable);
            few = subst (λ (p : Pending). length p ≤ most) (sym own.same)
                (subst (λ n. length (get_or twins j d).items ≤ n) most_same there.few);
            room = subst (λ n. most ≤ n) (sym own.room) (is.each j d within).room;
          };
      laid = is.laid;
    }

    -- it stands for what the other one does
    pub copied_stands : t.memory ≡ o.memory → t.views ≡ o.views → (st : State) (d : ℕ → Option ℕ) → StandsFor O st d
        → StandsFor (with_pending t most (pending_in rows2)) st d
    copied_stands memory views st d stands =
        stands_same (with_pending o most2 (pending_in twins)) (with_pending t most (pending_in rows2))
        (ap (λ (k : Setting). record k { store_buffer = most }) now.rules ∙ sym rules_same) memory views
        rows_copied st d (subst (λ (x : ShownMachine). StandsFor x st d) (sym view2) stands)
