-- A core's step, under an event or under none and with no store pending, is idle only where the core has stopped; there
-- it is.
use Rattle.std.proofs.Common.{◌≡◌, ℕ, Bool, true, false, cond, eqb, List, [], ◌++◌, Option, Some, None}
use Rattle.std.proofs.Common.{refl, sym, ap, ◌∙◌}
use Rattle.std.proofs.lemmas.Option.{option_and_then_some, same_Some}
use Rattle.ia_regs.specs.declared.Regs.{Regs}
use Rattle.tm_rule.specs.declared.kinds.Stop.{Stop}
use Rattle.tm_model.specs.Access.{Stores, lines_of, stored_addresses, stores_of}
use Rattle.tm_model.specs.Isolated.{Body, instruction_after, isolated_body}
use Rattle.tm_model.specs.declared.outcome.Event.{Event}
use Rattle.tm_model.specs.declared.outcome.Event.TheVariants as event
use Rattle.tm_model.specs.Owed.{abort_at, have_room, owed_after, owed_inside, owed_outcome, owed_outside, owed_under}
use Rattle.tm_model.specs.Owed.{owed_with_room}
use Rattle.tm_model.specs.Setting.{Setting, outside_at}
use Rattle.tm_model.specs.Shown.{View, view_inside, view_of, view_outside}
use Rattle.tm_model.specs.State.{Closed, Core, Halted, Midway, Opened}
use Rattle.tm_model.specs.declared.outcome.CoreState.TheVariants.{Stopped as AtStop}
use Rattle.tm_model.specs.declared.outcome.Outcome.{Outcome}
use Rattle.tm_model.specs.declared.outcome.Outcome.TheVariants.{Idle, Inside, Committed}
use Rattle.tm_rule.specs.declared.kinds.OutsideResult.{OutsideResult}
use Rattle.tm_rule.specs.declared.kinds.OutsideResult.TheVariants.{Goes, Begins, Stops}
use Rattle.tm_rule.specs.declared.kinds.InsideResult.{InsideResult}
use Rattle.tm_rule.specs.declared.kinds.InsideResult.TheVariants.{GoesOn, Nests, Ends, Fails}
use Rattle.tm_status.specs.declared.cause.Cause.TheVariants.{Capacity}
use Rattle.tm_hist.specs.Board.{stop_shown}

outside_moves : (two : Bool) (r : OutsideResult) → owed_outside two r ≡ Idle → ⊥
outside_moves two (Stops x) e = cc
outside_moves two (Begins s) e = cc
outside_moves true (Goes s w) e = cc
outside_moves false (Goes s w) e = cc

room_moves : (k : Setting) (b : Body) (w : Stores) (o : Outcome) → (o ≡ Idle → ⊥) → owed_with_room k b w o ≡ Idle → ⊥
room_moves k b w o moves =
    elim (have_room k (lines_of (k.load_of b.regs ++ b.loads)) (lines_of (stored_addresses (w ++ b.stores))))
    as (λ t. cond t o (abort_at Capacity b.depth) ≡ Idle → ⊥) [
      | true ↦ moves
      | false ↦ λ e. cc
    ]

end_moves : (last : Bool) → cond last Committed Inside ≡ Idle → ⊥
end_moves true e = cc
end_moves false e = cc

inside_moves : (k : Setting) (b : Body) (r : InsideResult) → owed_inside k b r ≡ Idle → ⊥
inside_moves k b (Fails cause) e = cc
inside_moves k b (GoesOn s w) e = room_moves k b (stores_of w) Inside (λ f. cc) e
inside_moves k b (Nests s) e = room_moves k b [] Inside (λ f. cc) e
inside_moves k b (Ends s) e = room_moves k b [] (cond (eqb b.depth 1) Committed Inside) (end_moves (eqb b.depth 1)) e

-- the core shows a stop
abbrev pub ShowsStop : View → Type 0
ShowsStop v = (why : Stop) × (stop_shown v.mode ≡ Some why)

pub idle_stops : (k : Setting) (m : List ℕ) (x : Core) (dx : Option ℕ) (v : View) → view_of k m x dx ≡ Some v
    → owed_outcome k m x dx ≡ Idle → ShowsStop v
idle_stops k m (Halted s why) None v e i =
    (why, ap (λ (u : View). stop_shown u.mode) (sym (same_Some (view_outside (AtStop why) s) v e)))
idle_stops k m (Halted s why) (Some depth) v e i = absurd (cc)
idle_stops k m (Closed s) None v e i = absurd (outside_moves (k.takes_two_steps s) (outside_at k s m) i)
idle_stops k m (Closed s) (Some depth) v e i = absurd (cc)
idle_stops k m (Midway s value) None v e i = absurd (cc)
idle_stops k m (Midway s value) (Some depth) v e i = absurd (cc)
idle_stops k m (Opened s n) (Some depth) v e i = absurd (cc)
idle_stops k m (Opened s n) None v e i = absurd (option_and_then_some (view_inside s) (isolated_body k s m n) v e
    (λ b is e2. inside_moves k b (instruction_after k m b) (ap (owed_after k m) (sym is) ∙ i)))

-- no abort by an event is idle
pub idle_stops_under : (event : Option Event) (k : Setting) (m : List ℕ) (x : Core) (dx : Option ℕ) (v : View)
    → view_of k m x dx ≡ Some v → owed_under event k m [] x dx ≡ Idle → ShowsStop v
idle_stops_under None k m x dx v e i = idle_stops k m x dx v e i
idle_stops_under (Some event.Drain) k m x dx v e i = idle_stops k m x dx v e i
idle_stops_under (Some (event.Abort by)) k m (Opened s n) None v e i = absurd (cc)
idle_stops_under (Some (event.Abort by)) k m (Opened s n) (Some depth) v e i =
    idle_stops k m (Opened s n) (Some depth) v e i
idle_stops_under (Some (event.Abort by)) k m (Closed s) dx v e i = idle_stops k m (Closed s) dx v e i
idle_stops_under (Some (event.Abort by)) k m (Midway s value) dx v e i = idle_stops k m (Midway s value) dx v e i
idle_stops_under (Some (event.Abort by)) k m (Halted s why) dx v e i = idle_stops k m (Halted s why) dx v e i

pub halted_idles : (event : Option Event) (k : Setting) (m : List ℕ) (s : Regs) (why : Stop) (dx : Option ℕ)
    → owed_under event k m [] (Halted s why) dx ≡ Idle
halted_idles None k m s why dx = refl
halted_idles (Some event.Drain) k m s why dx = refl
halted_idles (Some (event.Abort by)) k m s why dx = refl
