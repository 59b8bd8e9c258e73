-- What the next step loads and stores (its reach), as the model says of a core in a transaction and of one in none.
use Rattle.std.proofs.Common.{◌≡◌, ℕ, Bool, true, false, cond, eqb, List, [], ◌++◌, length, map, Option, Some}
use Rattle.std.proofs.Common.{None, refl, sym, ap, ◌∙◌, subst}
use Rattle.std.proofs.lemmas.Option.{option_and_then_some, same_Some}
use Rattle.std.proofs.lemmas.List.{map-append}
use Rattle.tm_rule.specs.Rule.{inside_of, load_at}
use Rattle.tm_sets.specs.Content.{Content}
use Rattle.tm_model.specs.declared.explain.Reach.{Reach}
use Rattle.tm_model.specs.Access.{Lines, Stores, lines_of, loaded_addresses, loaded_value, stored_addresses, stores_of}
use Rattle.tm_model.specs.Conflicts.{addresses_loaded_after, addresses_loaded_by, addresses_stored_outside}
use Rattle.tm_model.specs.Explained.{IsReachTold, addresses_stored_after, addresses_stored_at, addresses_stored_next}
use Rattle.tm_model.specs.Isolated.{Body, instruction_after, isolated_body, read_set, write_set}
use Rattle.tm_model.specs.Owed.{abort_at, have_room, owed_after, owed_inside, owed_outcome, owed_outside}
use Rattle.tm_model.specs.Setting.{Setting, outside_at}
use Rattle.tm_model.specs.Shown.{View, view_between, view_inside, view_midway, view_of, view_of_body, view_outside}
use Rattle.tm_model.specs.State.{Closed, Core, Halted, Midway, Opened}
use Rattle.tm_core.specs.ExplainedViews.{Reached, reach_inside, reach_outside, reach_shown, reach_told, value_seen}
use Rattle.tm_core.specs.Representation.{parts_setting, setting_with}
use Rattle.tm_core.specs.StepRefinement.{add_all, seen}
use Rattle.tm_core.specs.Types.{Aborted, AbortedBy, Access, AtStop, Begins, Begun, Capacity, Committed, Condemned}
use Rattle.tm_core.specs.Types.{CoreState, Drained, Ends, Fails, Mid}
use Rattle.tm_core.specs.Types.{Goes, GoesOn, Idle, Inside, InsideResult, Loaded, Nests, Open, Outcome, OutsideResult}
use Rattle.tm_core.specs.Types.{Plain, Regs, Running, Stopped, Stops}
use Rattle.tm_core.proofs.BufferLemmas.{add_all-lines, map_seen}
use Rattle.tm_core.proofs.OtherCores.{view_inside_is}
use Rattle.tm_core.proofs.Sound.{InRange, Sound}
use Rattle.tm_core.proofs.SteppingCore.{isolated_body-range}

abbrev nothing_reached : Reached
nothing_reached = ([], [])

-- what the model says of a step of this outcome
abbrev reach_by : Setting → List ℕ → Core → Outcome → Reached
reach_by k m x o = (addresses_loaded_by k m x o, addresses_stored_at k m x o)

-- ---- outside

module _ (k : Setting) (m : List ℕ) (s : Regs) where
  by_result : (two : Bool) (o : OutsideResult) → outside_at k s m ≡ o
      → reach_by k m (Closed s) (owed_outside two o) ≡ reach_outside two (k.load_of s) o
  by_result true (Goes t w) e = refl
  by_result false (Goes t w) e = ap (λ (o : OutsideResult). (k.load_of s, addresses_stored_outside o)) e
  by_result two (Begins t) e = refl
  by_result two (Stops x) e = refl

  closed_reach : reach_by k m (Closed s) (owed_outcome k m (Closed s) None)
      ≡ reach_shown k m (view_outside Running s) Running
  closed_reach = by_result (k.takes_two_steps s) (outside_at k s m) refl

-- ---- inside

module _ (k : Setting) (m : List ℕ) (b : Body) where
  -- of the owed outcome of the instruction after a body
  abbrev by_body : Option Body → Outcome → Reached
  by_body body Inside = (addresses_loaded_after k body, addresses_stored_after k m body)
  by_body body Plain = ([], [])
  by_body body Loaded = ([], [])
  by_body body (Stopped x) = ([], [])
  by_body body Idle = ([], [])
  by_body body Begun = ([], [])
  by_body body Committed = ([], [])
  by_body body (Aborted status) = ([], [])
  by_body body (AbortedBy by status) = ([], [])
  by_body body Drained = ([], [])

  abbrev instruction_reach : Reached
  instruction_reach = (k.load_of b.regs, addresses_stored_next (instruction_after k m b))

  in_room : (t : Bool)
      → by_body (Some b) (cond t Inside (abort_at Capacity b.depth)) ≡ cond t instruction_reach nothing_reached
  in_room true = refl
  in_room false = refl

  ends : (one t : Bool)
      → by_body (Some b) (cond t (cond one Committed Inside) (abort_at Capacity b.depth))
      ≡ cond one nothing_reached (cond t instruction_reach nothing_reached)
  ends true true = refl
  ends true false = refl
  ends false true = refl
  ends false false = refl

  -- the sets that an instruction would make, by the body and by what is shown of it
  same_room : (ws : Stores)
      → have_room k (lines_of (k.load_of b.regs ++ b.loads)) (lines_of (stored_addresses (ws ++ b.stores)))
      ≡ have_room k (add_all (read_set b) (k.load_of b.regs)) (add_all (write_set b) (stored_addresses ws))
  same_room ws =
      ap (λ (t : Lines). have_room k t (lines_of (stored_addresses (ws ++ b.stores))))
      (sym (add_all-lines b.loads (k.load_of b.regs)))
      ∙ ap (λ (t : Lines). have_room k (add_all (read_set b) (k.load_of b.regs)) t)
      (ap lines_of (map-append (λ (w : ℕ × ℕ). w.0) ws b.stores)
      ∙ sym (add_all-lines (stored_addresses b.stores) (stored_addresses ws)))

  abbrev room : Stores → Bool
  room ws = have_room k (lines_of (k.load_of b.regs ++ b.loads)) (lines_of (stored_addresses (ws ++ b.stores)))

  abbrev shown_room : Stores → Bool
  shown_room ws = have_room k (add_all (read_set b) (k.load_of b.regs)) (add_all (write_set b) (stored_addresses ws))

  open_by : (o : InsideResult) → instruction_after k m b ≡ o
      → by_body (Some b) (owed_inside k b o) ≡ reach_inside k (read_set b) (write_set b) b.depth (k.load_of b.regs) o
  open_by (Fails why) e = refl
  open_by (GoesOn t w) e =
      in_room (room (stores_of w))
      ∙ ap (λ (u : Bool). cond u instruction_reach nothing_reached) (same_room (stores_of w))
      ∙ ap (λ (o : InsideResult). cond (shown_room (stores_of w)) (
        k.load_of b.regs,
        addresses_stored_next o,
      ) nothing_reached) e
  open_by (Nests t) e =
      in_room (room [])
      ∙ ap (λ (u : Bool). cond u instruction_reach nothing_reached) (same_room [])
      ∙ ap (λ (o : InsideResult). cond (shown_room []) (k.load_of b.regs, addresses_stored_next o) nothing_reached) e
  open_by (Ends t) e =
      ends (eqb b.depth 1) (room [])
      ∙ ap (λ (u : Bool). cond (eqb b.depth 1) nothing_reached (cond u instruction_reach nothing_reached))
      (same_room [])
      ∙ ap (λ (o : InsideResult). cond (eqb b.depth 1) nothing_reached (cond (shown_room []) (
        k.load_of b.regs,
        addresses_stored_next o,
      ) nothing_reached)) e

  by_outcome : (s : Regs) (n : ℕ) (o : Outcome) → reach_by k m (Opened s n) o ≡ by_body (isolated_body k s m n) o
  by_outcome s n Inside = refl
  by_outcome s n Plain = refl
  by_outcome s n Loaded = refl
  by_outcome s n (Stopped x) = refl
  by_outcome s n Idle = refl
  by_outcome s n Begun = refl
  by_outcome s n Committed = refl
  by_outcome s n (Aborted status) = refl
  by_outcome s n (AbortedBy by status) = refl
  by_outcome s n Drained = refl

-- ---- of a state that a machine stands for, what it shows

module _ (k : Setting) (sound : Sound k) (m : List ℕ) (size : length m ≡ k.size) where
  open_reach : (s : Regs) (n : ℕ) (b : Body) → isolated_body k s m n ≡ Some b
      → reach_by k m (Opened s n) (owed_outcome k m (Opened s n) None)
      ≡ reach_shown k m (view_of_body s b) (Open b.depth)
  open_reach s n b is =
      by_outcome k m b s n (owed_after k m (isolated_body k s m n))
      ∙ ap (λ (body : Option Body). by_body k m b body (owed_after k m body)) is
      ∙ open_by k m b (instruction_after k m b) refl
      ∙ ap (λ (bs : List ℕ). reach_inside k (read_set b) (write_set b) b.depth (k.load_of b.regs)
      (k.inside b.regs b.depth (k.value_of b.regs bs)))
      (sym (map_seen m b.stores (k.load_of b.regs)
      (subst (λ z. InRange z b.stores) (sym size) (isolated_body-range k sound s m n b is))))

  pub reach_is : (x : Core) (dx : Option ℕ) (v : View) → view_of k m x dx ≡ Some v
      → reach_by k m x (owed_outcome k m x dx) ≡ reach_shown k m v v.mode
  reach_is (Closed s) None v e =
      subst (λ (u : View). reach_by k m (Closed s) (owed_outcome k m (Closed s) None) ≡ reach_shown k m u u.mode)
      (same_Some (view_outside Running s) v e) (closed_reach k m s)
  reach_is (Closed s) (Some depth) v e = cc
  reach_is (Midway s value) None v e = midway (k.outside s value) e
    where
      midway : (o : OutsideResult) → view_midway s value o ≡ Some v
          → reach_by k m (Midway s value) Plain ≡ reach_shown k m v v.mode
      midway (Goes t w) e2 = subst (λ (u : View). reach_by k m (Midway s value) Plain ≡ reach_shown k m u u.mode)
          (same_Some (view_between s value) v e2) refl
      midway (Begins t) e2 = cc
      midway (Stops x) e2 = cc
  reach_is (Midway s value) (Some depth) v e = cc
  reach_is (Halted s x) None v e =
      subst (λ (u : View). nothing_reached ≡ reach_shown k m u u.mode) (same_Some (view_outside (AtStop x) s) v e) refl
  reach_is (Halted s x) (Some depth) v e = cc
  reach_is (Opened s n) (Some depth) v e = subst (λ (u : View). nothing_reached ≡ reach_shown k m u u.mode)
      (same_Some (view_outside (Condemned depth) s) v e) refl
  reach_is (Opened s n) None v e =
      option_and_then_some (view_inside s) (isolated_body k s m n) v e (λ b is e2.
      let parts : (eqb b.depth 0 ≡ false) × (view_of_body s b ≡ v) = view_inside_is s b v e2 in
      subst (λ (u : View). reach_by k m (Opened s n) (owed_outcome k m (Opened s n) None) ≡ reach_shown k m u u.mode)
      parts.1 (open_reach s n b is))

-- ---- of a machine's parts

-- the reach of an open core, by the load that was made and the value that was there
pub reach_by_load : (code : List ℕ) (base size : ℕ) (a : Content) (m : List ℕ) (v : View) (depth : ℕ)
    (access : Option Access) (loaded : ℕ) (o : InsideResult) → access ≡ load_at code base size v.regs →
    loaded ≡ loaded_value access (map (seen v.buffer m) (loaded_addresses access))
    → o ≡ inside_of code base size v.regs depth loaded →
    reach_shown (parts_setting code base size a) m v (Open depth)
    ≡ reach_inside (parts_setting code base size a) v.reads v.writes depth (loaded_addresses access) o
reach_by_load code base size a m v depth access loaded o is value e =
    let k : Setting = parts_setting code base size a in
    ap (λ x. reach_inside k v.reads v.writes depth (loaded_addresses x)
    (inside_of code base size v.regs depth (loaded_value x (map (seen v.buffer m) (loaded_addresses x))))) (sym is)
    ∙ ap
    (λ n. reach_inside k v.reads v.writes depth (loaded_addresses access) (inside_of code base size v.regs depth n))
    (sym value)
    ∙ ap (reach_inside k v.reads v.writes depth (loaded_addresses access)) (sym e)

-- what is told of a core that shows this is what the model says
pub reach_as_told : (k : Setting) → Sound k → (m : List ℕ) → length m ≡ k.size → (x : Core) (dx : Option ℕ) (v : View)
    → view_of k m x dx ≡ Some v → (told : Reach) → reach_told told ≡ reach_shown k m v v.mode
    → IsReachTold k m x dx told
reach_as_told k sound m size x dx v shows told e =
    let same : reach_told told ≡ reach_by k m x (owed_outcome k m x dx) =
    e ∙ sym (reach_is k sound m size x dx v shows) in record {
      loads = ap (λ (p : Reached). p.0) same;
      stores = ap (λ (p : Reached). p.1) same;
    }

-- whatever the size of the store buffers
inside_reach : (code : List ℕ) (base size : ℕ) (a : Content) (most : ℕ) (reads writes : Lines) (depth : ℕ)
    (loads : List ℕ) (o : InsideResult) → reach_inside (setting_with code base size a most) reads writes depth loads o
    ≡ reach_inside (parts_setting code base size a) reads writes depth loads o
inside_reach code base size a most reads writes depth loads (Fails cause) = refl
inside_reach code base size a most reads writes depth loads (GoesOn t w) = refl
inside_reach code base size a most reads writes depth loads (Nests t) = refl
inside_reach code base size a most reads writes depth loads (Ends t) = refl

pub reach_same : (code : List ℕ) (base size : ℕ) (a : Content) (most : ℕ) (m : List ℕ) (v : View) (mode : CoreState)
    → reach_shown (setting_with code base size a most) m v mode ≡ reach_shown (parts_setting code base size a) m v mode
reach_same code base size a most m v Running = refl
reach_same code base size a most m v Mid = refl
reach_same code base size a most m v (Open depth) =
    let k : Setting = parts_setting code base size a in
    inside_reach code base size a most v.reads v.writes depth (k.load_of v.regs)
    (k.inside v.regs depth (value_seen k m v))
reach_same code base size a most m v (Condemned depth) = refl
reach_same code base size a most m v (AtStop stop) = refl
