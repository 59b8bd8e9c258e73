-- The same picks have the same outcomes.
use Rattle.std.proofs.Common.{◌≡◌, ℕ, zero, suc, ◌+◌, List, [], ◌∷◌, ◌++◌, Option, Some, None, refl, sym, ◌∙◌, ap}
use Rattle.std.proofs.Common.{subst, take, arith}
use Rattle.std.proofs.lemmas.Option.{same_Some, slice_get-map}
use Rattle.std.specs.Option.{option_and_then, option_map}
use Rattle.std.specs.Prelude.{MatchOption}
use Rattle.std.specs.List.{slice_get}
use Rattle.ia_image.specs.Program.{ProgramValue as Program}
use Rattle.tm_core.specs.declared.limits.Limits.{Limits}
use Rattle.tm_model.specs.declared.outcome.Event.{Event}
use Rattle.tm_model.specs.declared.outcome.Outcome.{Outcome}
use Rattle.tm_model.specs.declared.outcome.Pick.{Pick}
use Rattle.tm_model.specs.Conflicts.{Doomed, doomed_after}
use Rattle.tm_model.specs.Runs.{AreOwed, IsOwedUnder, doomed_at_end, event_told, pick_of, picks_of}
use Rattle.tm_model.specs.Setting.{Setting, program_setting}
use Rattle.tm_model.specs.State.{State, opening_state}
use Rattle.tm_model.specs.Steps.{run, step}
use Rattle.tm_hist.specs.Board.{IsHistory, IsOwedNext, SameBoard, ShownBoard as Board}
use Rattle.tm_hist.specs.Back.{IsFirst}

-- the pair that a pick tells of
pub record ToldBy (pair : Option (ℕ × Outcome)) (pick : Pick) : Type 0 where
  pub outcome : Outcome
  pub at : pair ≡ Some (pick.core, outcome)
  pub event : event_told outcome ≡ pick.event

told_by : (pair : Option (ℕ × Outcome)) (pick : Pick) → option_map pick_of pair ≡ Some pick → ToldBy pair pick
told_by None pick e = absurd (cc)
told_by (Some pair) pick e =
    let same : pick_of pair ≡ pick = same_Some (pick_of pair) pick e in
    record {
      outcome = pair.1;
      at = ap (λ (p : Pick). Some (p.core, pair.1)) same;
      event = ap (λ (p : Pick). p.event) same;
    }

pub told_at : (history : List (ℕ × Outcome)) (n : ℕ) (pick : Pick) → slice_get (picks_of history) n ≡ Some pick
    → ToldBy (slice_get history n) pick
told_at history n pick at = told_by (slice_get history n) pick (sym (slice_get-map pick_of history n) ∙ at)

-- a step that is allowed
next_some : {G : Type 0} (r : Option State) (P : State → Type 0) → ((next : State) → r ≡ Some next → P next → G)
    → MatchOption r ⊥ P → G
next_some None P f p = absurd p
next_some (Some next) P f p = f next refl p

-- behind the first steps of a history the outcome of its next core, owed under the event that its next outcome tells
-- of, is that outcome
pub owed_next : (setting : Setting) (state : State) (doomed : Doomed) (history : List (ℕ × Outcome)) (n core : ℕ)
    (known made : Outcome) → slice_get history n ≡ Some (core, known) →
    AreOwed setting state doomed history →
    ((end : State) → run setting state (take n history) ≡ Some end
    → IsOwedUnder (event_told known) setting end (doomed_at_end setting state doomed (take n history)) core made) →
    take n history ++ (core, made) ∷ [] ≡ take (suc n) history
owed_next setting state doomed [] n core known made at owed more = absurd (cc)
owed_next setting state doomed (pair ∷ history) zero core known made at owed more =
    let first : pair ≡ (core, known) = cc in
    let known_owed : AreOwed setting state doomed ((core, known) ∷ history) =
    subst (λ (p : ℕ × Outcome). AreOwed setting state doomed (p ∷ history)) first owed in
    let said : known ≡ made = known_owed.0 ∙ sym (more state refl) in
    let back : (core, made) ≡ (core, known) = ap (λ (o : Outcome). (core, o)) (sym said) in
    let same : (core, made) ≡ pair = subst (λ (p : ℕ × Outcome). (core, made) ≡ p) (sym first) back in
    ap (λ (p : ℕ × Outcome). p ∷ []) same
owed_next setting state doomed (pair ∷ history) (suc n) core known made at owed more =
    next_some (step setting state pair.0 pair.1)
    (λ next. AreOwed setting next (doomed_after setting state doomed pair.0 pair.1) history)
    (λ next is h.
    let then : Doomed = doomed_after setting state doomed pair.0 pair.1 in
    let told : (end : State) → run setting next (take n history) ≡ Some end
    → IsOwedUnder (event_told known) setting end (doomed_at_end setting next then (take n history)) core made =
    λ end ran.
    subst (λ (d : Doomed). IsOwedUnder (event_told known) setting end d core made)
    (ap (λ (s : Option State). elim s [ None ↦ doomed | Some x ↦ doomed_at_end setting x then (take n history) ]) is)
    (more end (ap (option_and_then (λ (x : State). run setting x (take n history))) is ∙ ran)) in
    ap (λ (l : List (ℕ × Outcome)). pair ∷ l) (owed_next setting next then history n core known made at h told))
    owed.1

same_then : (a b c : Board) → SameBoard a b → SameBoard b c → SameBoard a c
same_then a b c h k =
    record { program = k.program ∙ h.program; limits = k.limits ∙ h.limits; limit = k.limit ∙ h.limit }

-- the rules of a program's machine under these limits
abbrev setting_under : Program → Limits → Setting
setting_under program limits = program_setting program limits.read_lines limits.write_lines limits.stores

-- what is owed behind a history of a program under these limits
abbrev pub OwedBehind : Option Event → Program → Limits → List (ℕ × Outcome) → ℕ → Outcome → Type 0
OwedBehind event program limits history core outcome =
    (end : State) → run (setting_under program limits) (opening_state program) history ≡ Some end →
    IsOwedUnder event (setting_under program limits) end
    (doomed_at_end (setting_under program limits) (opening_state program) (λ _. None) history) core outcome

-- one step more, under the event that the next outcome tells of
pub first_more : (board before after : Board) (n core : ℕ) (known made : Outcome)
    → slice_get board.history n ≡ Some (core, known) → IsHistory board →
    IsFirst board n before → SameBoard before after → after.history ≡ before.history ++ (core, made) ∷ []
    → IsOwedNext (event_told known) before core made → IsFirst board (n + 1) after
first_more board before after n core known made at law so_far same grown owes =
    let all = same_then board before after so_far.same same in
    let pairs : after.history ≡ take n board.history ++ (core, made) ∷ [] =
    grown ∙ ap (λ l. l ++ (core, made) ∷ []) so_far.history in
    let behind : OwedBehind (event_told known) board.program board.limits (take n board.history) core made =
    subst (λ (p : Program). OwedBehind (event_told known) p board.limits (take n board.history) core made)
    so_far.same.program
    (subst (λ (l : Limits). OwedBehind (event_told known) before.program l (take n board.history) core made)
    so_far.same.limits
    (subst (λ (h : List (ℕ × Outcome)). OwedBehind (event_told known) before.program before.limits h core made)
    so_far.history owes)) in
    let next = owed_next (setting_under board.program board.limits) (opening_state board.program) (λ _. None)
    board.history n core known made at law.are_owed behind in
    let count : suc n ≡ n + 1 = omega arith in
    record { same = all; history = pairs ∙ next ∙ ap (λ k. take k board.history) count }
