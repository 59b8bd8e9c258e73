-- What a step that is no drain makes of memory, of its core and of what is pending, by a delta that is the difference.
use Rattle.std.proofs.Common.{◌≡◌, ℕ, suc, ◌%◌, Bool, true, false, cond, List, [], drop, length, get_or, Option}
use Rattle.std.proofs.Common.{Some, None, refl, sym, ap, ◌∙◌, subst, ⊎_elim}
use Rattle.std.specs.Prelude.{option_and_then, option_map, slice_get, unwrap_or}
use Rattle.std.proofs.lemmas.Bool.{eq-eqb}
use Rattle.std.proofs.lemmas.Option.{same_Some}
use Rattle.std.specs.Ordering.{nat_cmp}
use Rattle.tm_model.specs.Access.{loaded_addresses, stored_addresses, stores_of}
use Rattle.tm_model.specs.Conflicts.{Doomed, addresses_at_once, addresses_loaded_by, addresses_written_by}
use Rattle.tm_model.specs.Conflicts.{doom_after_other, doom_after_own, doomed_after}
use Rattle.tm_model.specs.Explained.{addresses_stored_after, addresses_stored_at}
use Rattle.tm_model.specs.Isolated.{isolated_body}
use Rattle.tm_model.specs.Owed.{owed_after, owed_outcome}
use Rattle.tm_model.specs.Runs.{is_aborted_by}
use Rattle.tm_model.specs.Setting.{Setting, outside_at}
use Rattle.tm_model.specs.Shown.{View, view_inside, view_of}
use Rattle.tm_model.specs.State.{Closed, Core, Halted, Midway, Opened, Pending, State, seen_by}
use Rattle.tm_model.specs.declared.explain.Reach.{Reach}
use Rattle.tm_core.specs.Seen.{byte_seen}
use Rattle.tm_core.specs.Theorem.{ShownMachine, machine_setting, pending_at, seen_at, view_at}
use Rattle.tm_core.specs.Types.{Aborted, AbortedBy, Begun, Committed, Drained, Idle, Inside, Loaded, Outcome, Plain}
use Rattle.tm_core.specs.Types.{Regs, Stopped, Store}
use Rattle.tm_why.specs.Watched.{is_drain}
use Rattle.tm_page.proofs.Memory.{commit_kept, not_private, plain_stores}
use Rattle.tm_page.proofs.Moved.{BeginsHere, GoesOnHere, IsMoved, IsOut, is_opened, stays_in, stores_there}
use Rattle.tm_page.proofs.Own.{IsBegun, IsGrown, IsOutside, begun, grows, outside_closed, outside_halted}
use Rattle.tm_page.proofs.Own.{outside_midway, private_grown, shows_outside}
use Rattle.tm_page.proofs.Parts.{first_joined, grown, joined}
use Rattle.tm_page.proofs.Stepped.{IsStepped, byte_then, core_then, moves, owes_alone, pending_then, seen_then}
use Rattle.tm_page.proofs.Stepped.{stands_behind, stepped, store}
use Rattle.tm_page.specs.Applied.{Page, PageCore, core_outside, is_listed, memory_with, own_after, patched}
use Rattle.tm_page.specs.Applied.{pending_after, pending_with, stored_at}
use Rattle.tm_page.specs.Difference.{IsTold, addresses_told, byte_told}
use Rattle.tm_page.specs.Shows.{IsAddress, Shows, ShowsCore}
use Rattle.tm_page.specs.Types.{PageDelta, StoredByte}
use Rattle.tm_page.proofs.StepOthers.{byte_shown, each, same_size, there}
use Rattle.std.specs.FinMap as map_of
use Rattle.std.specs.FinSet as set

-- ---- the owed outcome

-- a doomed transaction neither goes on nor commits
on_inside : (k : Setting) (m : List ℕ) (s : Regs) (n : ℕ) (doom : Option ℕ)
    → Inside ≡ owed_outcome k m (Opened s n) doom → doom ≡ None
on_inside k m s n None e = refl
on_inside k m s n (Some depth) e = cc

on_commit : (k : Setting) (m : List ℕ) (s : Regs) (n : ℕ) (doom : Option ℕ)
    → Committed ≡ owed_outcome k m (Opened s n) doom → doom ≡ None
on_commit k m s n None e = refl
on_commit k m s n (Some depth) e = cc

-- ---- its own core

outside_any : (k : Setting) (m : List ℕ) (core : Core) (doom : Option ℕ) (v : View) → is_opened core ≡ false
    → view_of k m core doom ≡ Some v → IsOutside v
outside_any k m (Closed s) doom v h e = outside_closed k m s doom v e
outside_any k m (Midway s value) doom v h e = outside_midway k m s value doom v e
outside_any k m (Halted s stop) doom v h e = outside_halted k m s stop doom v e
outside_any k m (Opened s n) doom v h e = cc

record AreBegun (s : Regs) (v w : View) : Type 0 where
  was : IsOutside v
  regs : v.base ≡ s
  is : IsBegun s w

are_begun : (k : Setting) (m : List ℕ) (s : Regs) (doom : Option ℕ) (v w : View) → view_of k m (Closed s) doom ≡ Some v
    → view_of k m (Opened s 1) doom ≡ Some w → AreBegun s v w
are_begun k m s None v w e f = record {
  was = outside_closed k m s None v e;
  regs = ap (λ x. x.base) (sym (same_Some _ v e));
  is = begun s (k.load_of s) (outside_at k s m) w f;
}
are_begun k m s (Some depth) v w e f = cc

are_grown : (k : Setting) (m : List ℕ) (s : Regs) (n : ℕ) (doom : Option ℕ) (v w : View) → doom ≡ None
    → view_of k m (Opened s n) doom ≡ Some v → view_of k m (Opened s (suc n)) doom ≡ Some w →
    IsGrown k m s n v w
are_grown k m s n None v w none e f = grows k m s n v w e f
are_grown k m s n (Some depth) v w none e f = cc

-- a step that leaves its core outside
own_out : (size : ℕ) (w : View) (o : Outcome) (delta : PageDelta) (core : PageCore) → stays_in o ≡ false →
    ShowsCore size w (core_outside delta.state (patched delta.registers core.regs))
    → ShowsCore size w (own_after o delta core)
own_out size w Plain delta core out h = h
own_out size w Loaded delta core out h = h
own_out size w (Stopped stop) delta core out h = h
own_out size w Idle delta core out h = h
own_out size w Committed delta core out h = h
own_out size w (Aborted status) delta core out h = h
own_out size w (AbortedBy by status) delta core out h = h
own_out size w Drained delta core out h = cc
own_out size w Begun delta core out h = cc
own_out size w Inside delta core out h = cc

-- ---- memory

pub unwrapped : (t : Bool) (o : Option ℕ) (new old : ℕ) → o ≡ cond t (Some new) None → (t ≡ false → new ≡ old)
    → new ≡ unwrap_or o old
unwrapped true o new old e h = sym (ap (λ x. unwrap_or x old) e)
unwrapped false o new old e h = h refl ∙ sym (ap (λ x. unwrap_or x old) e)

memory_case : (o : Outcome) (reach : Reach) (kept : List ℕ) (pended oldest : Option Store) (after : ShownMachine)
    (c : ℕ) (stored : List StoredByte) (memory : ℕ → ℕ) (a : ℕ) →
    stored_at stored a
    ≡ cond (is_listed (addresses_told o reach kept pended oldest) a) (Some (byte_told o after c a)) None →
    (is_listed (addresses_told o reach kept pended oldest) a ≡ false → get_or after.memory a 0 ≡ memory a) →
    (o ≡ Inside → get_or after.memory a 0 ≡ memory a) →
    get_or after.memory a 0 ≡ memory_with o stored memory a
memory_case Inside reach kept pended oldest after c stored memory a e h inside = inside refl
memory_case Plain reach kept pended oldest after c stored memory a e h inside =
    unwrapped (is_listed (addresses_at_once pended (loaded_addresses reach.store)) a) (stored_at stored a)
    (get_or after.memory a 0) (memory a) e h
memory_case Committed reach kept pended oldest after c stored memory a e h inside =
    unwrapped (is_listed kept a) (stored_at stored a) (get_or after.memory a 0) (memory a) e h
memory_case Loaded reach kept pended oldest after c stored memory a e h inside =
    unwrapped false (stored_at stored a) (get_or after.memory a 0) (memory a) e h
memory_case (Stopped stop) reach kept pended oldest after c stored memory a e h inside =
    unwrapped false (stored_at stored a) (get_or after.memory a 0) (memory a) e h
memory_case Idle reach kept pended oldest after c stored memory a e h inside =
    unwrapped false (stored_at stored a) (get_or after.memory a 0) (memory a) e h
memory_case Begun reach kept pended oldest after c stored memory a e h inside =
    unwrapped false (stored_at stored a) (get_or after.memory a 0) (memory a) e h
memory_case (Aborted status) reach kept pended oldest after c stored memory a e h inside =
    unwrapped false (stored_at stored a) (get_or after.memory a 0) (memory a) e h
memory_case (AbortedBy by status) reach kept pended oldest after c stored memory a e h inside =
    unwrapped false (stored_at stored a) (get_or after.memory a 0) (memory a) e h
memory_case Drained reach kept pended oldest after c stored memory a e h inside =
    unwrapped (is_listed (stored_addresses (stores_of oldest)) a) (stored_at stored a) (get_or after.memory a 0)
    (memory a) e h

-- where a step of which no store is pending tells of no byte, it stores none
no_store : (k : Setting) (m m2 : List ℕ) (core next : Core) (doom : Option ℕ) (o : Outcome) (v : View) (reach : Reach)
    (kept : List ℕ) (oldest : Option Store) (a : ℕ) →
    (h : IsMoved k m core o m2 next) → view_of k m core doom ≡ Some v
    → (is_aborted_by o ≡ false → o ≡ owed_outcome k m core doom) →
    loaded_addresses reach.store ≡ addresses_stored_at k m core (owed_outcome k m core doom) →
    (is_listed kept a ≡ false → map_of.get v.buffer a ≡ None) →
    is_listed (addresses_told o reach kept None oldest) a ≡ false → is_listed (stored_addresses h.stores) a ≡ false
no_store k m m2 core next doom Plain v reach kept oldest a h e owes reached covered none =
    ap (λ xs. is_listed xs a)
    (h.stored ∙ sym (plain_stores k m core) ∙ ap (addresses_stored_at k m core) (owes refl) ∙ sym reached) ∙ none
no_store k m m2 (Closed s) next doom Committed v reach kept oldest a h e owes reached covered none =
    ap (λ xs. is_listed xs a) h.stored
no_store k m m2 (Midway s value) next doom Committed v reach kept oldest a h e owes reached covered none =
    ap (λ xs. is_listed xs a) h.stored
no_store k m m2 (Halted s stop) next doom Committed v reach kept oldest a h e owes reached covered none =
    ap (λ xs. is_listed xs a) h.stored
no_store k m m2 (Opened s n) next doom Committed v reach kept oldest a h e owes reached covered none =
    let free : doom ≡ None = on_commit k m s n doom (owes refl) in
    let shown_open : option_and_then (view_inside s) (isolated_body k s m n) ≡ Some v =
    subst (λ d. view_of k m (Opened s n) d ≡ Some v) free e in
    let owed : owed_after k m (isolated_body k s m n) ≡ Committed =
    sym (subst (λ d. Committed ≡ owed_outcome k m (Opened s n) d) free (owes refl)) in
    ap (λ xs. is_listed xs a) h.stored ∙ commit_kept k m s n v a shown_open owed (covered none)
no_store k m m2 core next doom Inside v reach kept oldest a h e owes reached covered none =
    ap (λ ws. is_listed (stored_addresses ws) a) (h.quiet refl)
no_store k m m2 core next doom Loaded v reach kept oldest a h e owes reached covered none =
    ap (λ ws. is_listed (stored_addresses ws) a) (h.quiet refl)
no_store k m m2 core next doom (Stopped stop) v reach kept oldest a h e owes reached covered none =
    ap (λ ws. is_listed (stored_addresses ws) a) (h.quiet refl)
no_store k m m2 core next doom Idle v reach kept oldest a h e owes reached covered none =
    ap (λ ws. is_listed (stored_addresses ws) a) (h.quiet refl)
no_store k m m2 core next doom Begun v reach kept oldest a h e owes reached covered none =
    ap (λ ws. is_listed (stored_addresses ws) a) (h.quiet refl)
no_store k m m2 core next doom (Aborted status) v reach kept oldest a h e owes reached covered none =
    ap (λ ws. is_listed (stored_addresses ws) a) (h.quiet refl)
no_store k m m2 core next doom (AbortedBy by status) v reach kept oldest a h e owes reached covered none =
    ap (λ ws. is_listed (stored_addresses ws) a) (h.quiet refl)
no_store k m m2 core next doom Drained v reach kept oldest a h e owes reached covered none =
    ap (λ ws. is_listed (stored_addresses ws) a) (h.quiet refl)

inside_quiet : (k : Setting) (m m2 : List ℕ) (core next : Core) (o : Outcome)
    → (h : IsMoved k m core o m2 next) → o ≡ Inside → h.stores ≡ []
inside_quiet k m m2 core next o h e = h.quiet (ap stores_there e)

-- ---- what a step makes of memory, of its core and of what is pending

pub record Follows (before after : ShownMachine) (c : ℕ) (o : Outcome) (delta : PageDelta) : Type 0 where
  pub own : (core : PageCore) → ShowsCore (length before.memory) (view_at before c) core →
      ShowsCore (length after.memory) (view_at after c) (own_after o delta core)
  pub memory : (page : Page) → Shows before page → (a : ℕ) → IsAddress (length after.memory) a →
      get_or after.memory a 0 ≡ memory_with o delta.stored.items page.memory a
  pub pending : pending_at after c ≡ pending_after o delta.pending (pending_at before c)

-- a step that is no drain
module _ (before after : ShownMachine) (c : ℕ) (o : Outcome) (delta : PageDelta)
    (h : IsTold before after c o delta) (goes : is_drain o ≡ false) where
  abbrev k : Setting
  k = machine_setting before

  abbrev s : State
  s = h.state

  abbrev d : Doomed
  d = h.doomed

  -- memory as the core sees it
  abbrev m : List ℕ
  m = seen_by s c

  made : IsStepped k s c o h.takes.next
  made = stepped k s c o h.takes.next goes h.takes.is_step

  abbrev m2 : List ℕ
  m2 = made.change.0

  abbrev core2 : Core
  core2 = made.change.1

  abbrev moved_so : IsMoved k m (s.cores c) o m2 core2
  moved_so = moves k s c o h.takes.next goes made

  abbrev v : View
  v = view_at before c

  abbrev w : View
  w = view_at after c

  size : length after.memory ≡ length before.memory
  size = same_size before after c o delta h

  own_shown : view_of k m2 core2 (doom_after_own o (d c)) ≡ Some w
  own_shown =
      subst (λ t. view_of k m2 core2 (cond t (doom_after_own o (d c))
      (doom_after_other k m (addresses_loaded_by k m (s.cores c) o)
      (addresses_written_by k s.memory (s.pending c) (s.cores c) o) (s.cores c) (d c))) ≡ Some w)
      (eq-eqb c c refl)
      (subst (λ (y : Core). view_of k m2 y (doomed_after k s d c o c) ≡ Some w)
      (core_then k s c o h.takes.next goes made)
      (subst (λ (seen : List ℕ). view_of k seen (h.takes.next.cores c) (doomed_after k s d c o c) ≡ Some w)
      (seen_then k s c o h.takes.next goes made) (each before after c o delta h c h.within)))

  was_shown : view_of k m (s.cores c) (d c) ≡ Some v
  was_shown = h.stands.each c h.within

  owes : is_aborted_by o ≡ false → o ≡ owed_outcome k m (s.cores c) (d c)
  owes free = owes_alone h.event k s.memory (s.pending c) (s.cores c) (d c) o free goes h.takes.is_owed

  reached : loaded_addresses h.reach.store ≡ addresses_stored_at k m (s.cores c) (owed_outcome k m (s.cores c) (d c))
  reached = (h.said s d h.stands).stores

  -- ---- what is pending

  abbrev pended : Option Store
  pended = store k s c o h.takes.next goes made

  left : pending_at after c ≡ pending_with pended (s.pending c)
  left =
      h.takes.stands.same_pending c (there before after c o delta h c h.within)
      ∙ pending_then k s c o h.takes.next goes made

  told : delta.pending ≡ pended
  told =
      h.difference.pending
      ∙ ap (λ (p : Pending). slice_get p (length (pending_at before c))) left
      ∙ ap (λ (p : Pending). slice_get (pending_with pended (s.pending c)) (length p))
      (h.stands.same_pending c h.within)
      ∙ stands_behind (s.pending c) pended

  pending_shown : pending_at after c ≡ pending_after o delta.pending (pending_at before c)
  pending_shown =
      left
      ∙ ap (pending_with pended) (sym (h.stands.same_pending c h.within))
      ∙ ap (λ (x : Option Store). pending_with x (pending_at before c)) (sym told)
      ∙ sym (ap (λ t. cond t (drop 1 (pending_at before c)) (pending_with delta.pending (pending_at before c))) goes)

  -- ---- the core that steps

  own_regs : (core : PageCore) → v.regs ≡ core.regs → w.regs ≡ patched delta.registers core.regs
  own_regs core same = sym h.difference.registers ∙ ap (patched delta.registers) same

  begins_case : (core : PageCore) → ShowsCore (length before.memory) v core
      → BeginsHere m (s.cores c) o m2 core2 → ShowsCore (length after.memory) w (own_after o delta core)
  begins_case core shows b =
      let are : AreBegun b.regs v w =
      are_begun k m b.regs (d c) v w (subst (λ y. view_of k m y (d c) ≡ Some v) b.was was_shown)
      (subst (λ x. view_of k m (Opened b.regs 1) (doom_after_own x (d c)) ≡ Some w) b.outcome
      (subst (λ y. view_of k m y (doom_after_own o (d c)) ≡ Some w) b.is
      (subst (λ n. view_of k n core2 (doom_after_own o (d c)) ≡ Some w) b.same own_shown))) in
      subst (λ x. ShowsCore (length after.memory) w (own_after x delta core)) (sym b.outcome)
      (record {
        mode = sym h.difference.state;
        base = are.is.base ∙ sym are.regs ∙ are.was.base ∙ shows.regs;
        regs = own_regs core shows.regs;
        reads = λ q. first_joined (set.contains w.reads q) (set.contains v.reads q) (is_listed delta.reads.items q)
            (ap (λ ls. set.contains ls q) are.was.reads ∙ set.contains-empty nat_cmp q) (h.difference.reads q);
        writes = λ q. first_joined (set.contains w.writes q) (set.contains v.writes q) (is_listed delta.writes.items q)
            (ap (λ ls. set.contains ls q) are.was.writes ∙ set.contains-empty nat_cmp q) (h.difference.writes q);
        private = λ a below. ap (λ b. option_map (λ x. x % 256) (map_of.get b a)) are.is.buffer
            ∙ ap (option_map (λ x. x % 256)) (map_of.get-empty nat_cmp a);
      })

  abbrev first : Option Store
  first = slice_get (pending_at before c) 0

  goes_case : (core : PageCore) → ShowsCore (length before.memory) v core
      → GoesOnHere m (s.cores c) o m2 core2 → ShowsCore (length after.memory) w (own_after o delta core)
  goes_case core shows b =
      let owed : Inside ≡ owed_outcome k m (Opened b.regs b.steps) (d c) =
      subst (λ y. Inside ≡ owed_outcome k m y (d c)) b.was (sym b.outcome ∙ owes (ap is_aborted_by b.outcome)) in
      let g : IsGrown k m b.regs b.steps v w =
      are_grown k m b.regs b.steps (d c) v w (on_inside k m b.regs b.steps (d c) owed)
      (subst (λ y. view_of k m y (d c) ≡ Some v) b.was was_shown)
      (subst (λ x. view_of k m (Opened b.regs (suc b.steps)) (doom_after_own x (d c)) ≡ Some w) b.outcome
      (subst (λ y. view_of k m y (doom_after_own o (d c)) ≡ Some w) b.is
      (subst (λ n. view_of k n core2 (doom_after_own o (d c)) ≡ Some w) b.same own_shown))) in
      let stores : loaded_addresses h.reach.store ≡ stored_addresses g.stores =
      subst (λ y. loaded_addresses h.reach.store ≡ addresses_stored_at k m y (owed_outcome k m y (d c))) b.was
      reached
      ∙ ap (addresses_stored_at k m (Opened b.regs b.steps)) (sym owed)
      ∙ ap (λ o. addresses_stored_after k m o) g.is
      ∙ sym g.stored in
      subst (λ x. ShowsCore (length after.memory) w (own_after x delta core)) (sym b.outcome)
      (record {
        mode = sym h.difference.state;
        base = g.base ∙ shows.base;
        regs = own_regs core shows.regs;
        reads =
            λ q. joined (set.contains w.reads q) (set.contains v.reads q) (core.reads q) (is_listed delta.reads.items q)
            (λ there. ap (λ ls. set.contains ls q) g.after_reads
            ∙ grown g.loads g.body.loads q (ap (λ ls. set.contains ls q) (sym g.before_reads) ∙ there))
            (shows.reads q) (h.difference.reads q);
        writes = λ q. joined (set.contains w.writes q) (set.contains v.writes q) (core.writes q)
            (is_listed delta.writes.items q)
            (λ there. ap (λ ls. set.contains ls q) g.after_writes
            ∙ grown (stored_addresses g.stores) (stored_addresses g.body.stores) q
            (ap (λ ls. set.contains ls q) (sym g.before_writes) ∙ there)) (shows.writes q) (h.difference.writes q);
        private = λ a below.
            ap (λ b. option_map (λ x. x % 256) (map_of.get b a)) g.after_buffer
            ∙ private_grown g.stores g.body.stores a (stored_at delta.stored.items a) (core.private a)
            (get_or (seen_at after c) a 0)
            (ap (λ b. option_map (λ x. x % 256) (map_of.get b a)) (sym g.before_buffer)
            ∙ shows.private a (subst (λ l. IsAddress l a) size below))
            (subst (λ x. stored_at delta.stored.items a
            ≡ cond (is_listed (addresses_told x h.reach h.kept delta.pending first) a) (Some (byte_told x after c a))
            None)
            b.outcome (h.difference.stored a below)
            ∙ ap (λ xs. cond (is_listed xs a) (Some (byte_seen after c a)) None) stores
            ∙ ap (λ b. cond (is_listed (stored_addresses g.stores) a)
            (Some (unwrap_or (map_of.get b a) (get_or (seen_at after c) a 0) % 256)) None) g.after_buffer);
      })

  out_case : (core : PageCore) → ShowsCore (length before.memory) v core → IsOut o core2
      → ShowsCore (length after.memory) w (own_after o delta core)
  out_case core shows b =
      own_out (length after.memory) w o delta core b.outcome
      (shows_outside (length after.memory) w delta.state (patched delta.registers core.regs)
      (outside_any k m2 core2 (doom_after_own o (d c)) w b.is own_shown)
      h.difference.state (sym (own_regs core shows.regs)))

  own_shows : (core : PageCore) → ShowsCore (length before.memory) v core
      → ShowsCore (length after.memory) w (own_after o delta core)
  own_shows core shows =
      ⊎_elim (begins_case core shows) (⊎_elim (goes_case core shows) (out_case core shows)) moved_so.shape

  -- ---- memory

  memory_shown : (page : Page) → Shows before page → (a : ℕ) → IsAddress (length after.memory) a
      → get_or after.memory a 0 ≡ memory_with o delta.stored.items page.memory a
  memory_shown page shows a below =
      let same : (pended ≡ None → is_listed (stored_addresses moved_so.stores) a ≡ false) →
      get_or after.memory a 0 ≡ page.memory a =
      λ none. ap (λ x. get_or x a 0) h.takes.stands.same_memory
      ∙ byte_then k s c o h.takes.next goes made a none
      ∙ byte_shown before after c o delta h page shows a below in
      memory_case o h.reach h.kept delta.pending first after c delta.stored.items page.memory a
      (h.difference.stored a below)
      (λ none. same (λ nothing.
      no_store k m m2 (s.cores c) core2 (d c) o v h.reach h.kept first a moved_so was_shown owes reached
      (λ not_kept. not_private v a (h.are_kept a (subst (λ l. IsAddress l a) size below) not_kept))
      (subst (λ (x : Option Store). is_listed (addresses_told o h.reach h.kept x first) a ≡ false) (told ∙ nothing)
      none)))
      (λ inside. same (λ nothing.
      ap (λ ws. is_listed (stored_addresses ws) a) (inside_quiet k m m2 (s.cores c) core2 o moved_so inside)))

  pub follows_it : Follows before after c o delta
  follows_it = record { own = own_shows; memory = memory_shown; pending = pending_shown }
