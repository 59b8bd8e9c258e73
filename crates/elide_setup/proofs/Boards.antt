-- Steps of one core side by side that a board makes at once.
use Rattle.std.proofs.Common.{◌≡◌, ◌≢◌, ℕ, List, [], ◌∷◌, ◌++◌, replicate, None, Some, refl, sym, ap, ◌∙◌, subst}
use Rattle.std.proofs.Common.{append-nil}
use Rattle.std.specs.Prelude.{All, MatchOption, option_and_then}
use Rattle.std.proofs.lemmas.List.Elements.{All-weaker}
use Rattle.std.proofs.lemmas.Option.{same_Some}
use Rattle.tm_model.specs.Conflicts.{Doomed, doomed_after}
use Rattle.tm_model.specs.Runs.{AreOwed, doomed_at_end}
use Rattle.tm_model.specs.Steps.{run, step}
use Rattle.tm_model.specs.declared.outcome.Outcome.{Outcome}
use Rattle.tm_model.specs.declared.outcome.Outcome.TheVariants.{Idle}
use Rattle.tm_model.specs.declared.outcome.Pick.{Pick}
use Rattle.elide_setup.proofs.Alone.{lone_history, lone_owed, lone_picks, lone_steps}
use Rattle.elide_setup.proofs.Runs.{same_rules}
use Rattle.ia_image.specs.Program.{ProgramValue as Program}
use Rattle.elide_setup.specs.Owing.{AreOwedUnder, history_made}
use Rattle.elide_setup.specs.Runs.{AreBoardSteps}
use Rattle.elide_setup.specs.Schedules.{lone_pick, picks_made}
use Rattle.tm_hist.specs.Board.{AreSteps, IsHistory, ShownBoard as Board, board_setting, pairs_behind}
use Rattle.tm_model.proofs.NonePending.{none_at_end, none_at_first}
use Rattle.tm_model.specs.Setting.{Setting}
use Rattle.tm_model.specs.State.{State, opening_state}

-- the last steps of a run are owed behind the first ones
owed_behind : (k : Setting) (a : State) (d : Doomed) (steps others : List (ℕ × Outcome)) (last : State)
    → AreOwed k a d (steps ++ others) →
    run k a steps ≡ Some last → AreOwed k last (doomed_at_end k a d steps) others
owed_behind k a d [] others last owed is = subst (λ (s : State). AreOwed k s d others) (same_Some a last is) owed
owed_behind k a d (taken ∷ steps) others last owed is =
    (elim (step k a taken.0 taken.1) as (λ t.
    MatchOption t ⊥ (λ b. AreOwed k b (doomed_after k a d taken.0 taken.1) (steps ++ others)) →
    option_and_then (λ b. run k b steps) t ≡ Some last →
    AreOwed k last
    (elim t [ None ↦ d | Some b ↦ doomed_at_end k b (doomed_after k a d taken.0 taken.1) steps ]) others) [
      | None ↦ λ never _. absurd never
      | Some b ↦ λ more e. owed_behind k b (doomed_after k a d taken.0 taken.1) steps others last more e
    ]) owed.1 is

-- each is of the core
own_cores : (core : ℕ) (history : List (ℕ × Outcome))
    → All (λ (pair : ℕ × Outcome). (pair.0 ≡ core) × (pair.1 ≢ Idle)) history →
    All (λ (pair : ℕ × Outcome). pair.0 ≡ core) history
own_cores core history own = All-weaker (λ (pair : ℕ × Outcome). (pair.0 ≡ core) × (pair.1 ≢ Idle))
    (λ (pair : ℕ × Outcome). pair.0 ≡ core) (λ pair h. h.0) history own

-- what a board's own steps come to
pub board_run : (before after : Board) (core count : ℕ) → before.limits.stores ≡ 0 → IsHistory before → IsHistory after
    → AreSteps before after core count →
    (steps : List (Pick × Outcome)) × (picks_made steps ≡ replicate count (lone_pick core))
    × AreBoardSteps before steps after
board_run before after core count off was law made =
    let more : List (ℕ × Outcome) = pairs_behind before after in
    let k : Setting = board_setting before in
    let none : Doomed = λ _. None in
    let by_rules : AreOwed k (opening_state after.program) none after.history =
    subst (λ (s : Setting). AreOwed s (opening_state after.program) none after.history)
    (same_rules before after made.same) law.are_owed in
    let of_program : AreOwed k (opening_state before.program) none after.history =
    subst (λ (p : Program). AreOwed k (opening_state p) none after.history) made.same.program by_rules in
    let owed : AreOwed k (opening_state before.program) none (before.history ++ more) =
    subst (λ (l : List (ℕ × Outcome)). AreOwed k (opening_state before.program) none l) made.history of_program in (
      lone_steps more,
      lone_picks core more (own_cores core more made.own) ∙ ap (λ n. replicate n (lone_pick core)) made.count,
      record {
        same = made.same;
        history = made.history ∙ ap (λ l. before.history ++ l) (sym (lone_history more));
        under = λ end at.
            lone_owed k end (doomed_at_end k (opening_state before.program) none before.history) more off
            (none_at_end k (opening_state before.program) before.history end off (none_at_first before.program) at)
            (owed_behind k (opening_state before.program) none before.history more end owed at) made.alone;
        was = was;
      },
    )

-- no step
pub no_steps : (board : Board) (core : ℕ) → IsHistory board →
    (steps : List (Pick × Outcome)) × (picks_made steps ≡ replicate 0 (lone_pick core))
    × AreBoardSteps board steps board
no_steps board core law = (
  [],
  refl,
  record {
    same = record { program = refl; limits = refl; limit = refl };
    history = sym (append-nil board.history);
    under = λ end at. tt;
    was = law;
  },
)

none_made : (steps : List (Pick × Outcome)) (pick : Pick) → picks_made steps ≡ replicate 0 pick → steps ≡ []
none_made [] pick h = refl
none_made (made ∷ steps) pick h = absurd (cc)

-- none changes the history
pub same_behind_none : (before between : Board) (core count : ℕ) (none : List (Pick × Outcome))
    → picks_made none ≡ replicate count (lone_pick core) → count ≡ 0 →
    AreBoardSteps before none between → between.history ≡ before.history
same_behind_none before between core count none picks zero first =
    let empty : none ≡ [] = none_made none (lone_pick core) (picks ∙ ap (λ n. replicate n (lone_pick core)) zero) in
    first.history ∙ ap (λ l. before.history ++ history_made l) empty ∙ append-nil before.history

-- steps behind none
pub behind_none : (before between after : Board) (core count : ℕ) (none others : List (Pick × Outcome))
    → picks_made none ≡ replicate count (lone_pick core) → count ≡ 0 →
    AreBoardSteps before none between → AreBoardSteps between others after → AreBoardSteps before others after
behind_none before between after core count none others picks zero first then =
    let history : between.history ≡ before.history = same_behind_none before between core count none picks zero first in
    let start : Doomed = λ _. None in
    record {
      same = record {
        program = then.same.program ∙ first.same.program;
        limits = then.same.limits ∙ first.same.limits;
        limit = then.same.limit ∙ first.same.limit;
      };
      history = then.history ∙ ap (λ l. l ++ history_made others) history;
      under = λ end at.
          subst
          (λ (s : Setting). AreOwedUnder s end (doomed_at_end s (opening_state before.program) start before.history)
          others) (same_rules before between first.same)
          (subst (λ (p : Program). AreOwedUnder (board_setting between) end
          (doomed_at_end (board_setting between) (opening_state p) start before.history) others) first.same.program
          (subst (λ (l : List (ℕ × Outcome)). AreOwedUnder (board_setting between) end
          (doomed_at_end (board_setting between) (opening_state between.program) start l) others) history
          (then.under end
          (subst (λ (s : Setting). run s (opening_state between.program) between.history ≡ Some end)
          (sym (same_rules before between first.same))
          (subst (λ (p : Program). run (board_setting before) (opening_state p) between.history ≡ Some end)
          (sym first.same.program)
          (subst (λ (l : List (ℕ × Outcome)). run (board_setting before) (opening_state before.program) l ≡ Some end)
          (sym history) at))))));
      was = first.was;
    }
