-- A machine's run, and what leads on from it.
use Rattle.std.proofs.Common.{◌≡◌, ℕ, List, [], ◌∷◌, ◌++◌, length, Option, Some, None, refl, sym, ap, ◌∙◌, subst}
use Rattle.std.proofs.Common.{append_assoc, append-nil}
use Rattle.std.specs.Prelude.{MatchOption}
use Rattle.tm_model.specs.Runs.{IsOwedUnder, doomed_at_end}
use Rattle.elide_setup.specs.Owing.{AreOwedUnder, history_made}
use Rattle.std.specs.Prelude.{IfOk, Result, Ok, Err}
use Rattle.tm_model.specs.declared.outcome.Event.{Event}
use Rattle.tm_model.specs.declared.outcome.Outcome.{Outcome}
use Rattle.tm_model.specs.declared.outcome.Pick.{Pick}
use Rattle.elide_setup.proofs.Owing.{step_allowed, under_all}
use Rattle.elide_setup.proofs.Walks.{history_on}
use Rattle.ia_image.specs.Program.{ProgramValue as Program}
use Rattle.elide_setup.specs.Runs.{AreBoardSteps, AreMachineSteps, HasMade, IsMachineStep, IsRunOf}
use Rattle.tm_core.specs.declared.limits.Limits.{Limits}
use Rattle.tm_core.specs.Theorem.{IsRun, SameMachine, ShownMachine as Machine, StandsFor, TakesStepUnder}
use Rattle.tm_core.specs.Theorem.{machine_setting}
use Rattle.tm_hist.specs.Board.{IsHistory, IsOwedNext, SameBoard, ShownBoard as Board, board_setting}
use Rattle.tm_model.specs.Conflicts.{Doomed}
use Rattle.tm_model.specs.Steps.{run}
use Rattle.tm_model.specs.Setting.{Setting, program_setting}
use Rattle.tm_model.specs.State.{State, opening_state}
use Rattle.elide_setup.specs.Walks.{Leads, PartsLead, steps_in}

-- before the first step
pub run_of_none : (program : Program) (limits : Limits) (machine : Machine)
    → StandsFor machine (opening_state program) (λ _. None) →
    machine_setting machine ≡ program_setting program limits.read_lines limits.write_lines limits.stores
    → length machine.views ≡ length program.entries →
    IsRunOf program limits [] machine
run_of_none program limits machine stands rules cores = record {
  start = machine;
  rules = rules;
  cores = cores;
  is_run = record {
    same = record { rules = refl; cores = refl };
    takes = record { are_owed = tt; last = opening_state program; is_run = refl; stands = stands };
  };
  under = tt;
}

-- some steps more
run_of_more : (program : Program) (limits : Limits) (steps others : List (Pick × Outcome)) (now after : Machine) →
    IsRunOf program limits steps now → AreMachineSteps now others after → IsRunOf program limits (steps ++ others) after
run_of_more program limits steps others now after run h =
    let opening : State = opening_state program in
    let none : ℕ → Option ℕ = λ _. None in
    let history : List (ℕ × Outcome) = history_made steps in
    let further : IsRun run.start after opening none (history_made (steps ++ others)) =
    subst (λ (l : List (ℕ × Outcome)). IsRun run.start after opening none l) (sym (history_on steps others))
    (h.goes_on run.start opening none history run.is_run) in
    let k : Setting = machine_setting run.start in
    let owed : AreOwedUnder k run.is_run.takes.last (doomed_at_end k opening none history) others =
    subst (λ (s : Setting). AreOwedUnder s run.is_run.takes.last (doomed_at_end k opening none history) others)
    run.is_run.same.rules
    (h.under run.is_run.takes.last (doomed_at_end k opening none history) run.is_run.takes.stands) in
    record {
      start = run.start;
      rules = run.rules;
      cores = run.cores;
      is_run = further;
      under = under_all k opening none steps others run.is_run.takes.last run.under run.is_run.takes.is_run owed;
    }

parts_run : (program : Program) (limits : Limits) (before : List (Pick × Outcome))
    (parts : List (List (Pick × Outcome))) (now after : Machine) →
    IsRunOf program limits before now → PartsLead AreMachineSteps now parts after
    → IsRunOf program limits (before ++ steps_in parts) after
parts_run program limits before [] now after run h =
    subst (λ (l : List (Pick × Outcome)). IsRunOf program limits l after) (sym (append-nil before))
    (subst (λ (m : Machine). IsRunOf program limits before m) (sym h) run)
parts_run program limits before (part ∷ parts) now after run h =
    subst (λ (l : List (Pick × Outcome)). IsRunOf program limits l after) (append_assoc before part (steps_in parts))
    (parts_run program limits (before ++ part) parts h.0 after
    (run_of_more program limits before part now h.0 run h.1) h.2)

-- the steps that lead on are those of the run
pub run_of_all : (program : Program) (limits : Limits) (steps : List (Pick × Outcome)) (now after : Machine) →
    IsRunOf program limits [] now → Leads AreMachineSteps now steps after → IsRunOf program limits steps after
run_of_all program limits steps now after run h =
    subst (λ (l : List (Pick × Outcome)). IsRunOf program limits l after) h.1
    (parts_run program limits [] h.0 now after run h.2)

-- what a machine's own step under this event, or under none, comes to
pub machine_step : {E F : Type 0} (event : Option Event) (before after : Machine) (pick : Pick)
    (made : Result Outcome E) (told : Result Outcome F) →
    pick.event ≡ event → SameMachine before after →
    IfOk made
    (λ outcome. (state : State) (doomed : ℕ → Option ℕ) → StandsFor before state doomed
    → TakesStepUnder event before after state doomed pick.core outcome) →
    IfOk made (λ outcome. (start : Machine) (state : State) (doomed : ℕ → Option ℕ) (history : List (ℕ × Outcome)) →
    IsRun start before state doomed history → IsRun start after state doomed (history ++ (pick.core, outcome) ∷ [])) →
    IfOk told (λ outcome. made ≡ Ok outcome) →
    IfOk told (λ outcome. IsMachineStep before pick outcome after)
machine_step event before after pick made (Err fault) is same takes run told = tt
machine_step {E} event before after pick made (Ok outcome) is same takes run told =
    let k : Setting = machine_setting before in
    let taken :
    (state : State) (doomed : ℕ → Option ℕ) → StandsFor before state doomed
    → TakesStepUnder event before after state doomed pick.core outcome =
    subst (λ (r : Result Outcome E). IfOk r (λ o. (state : State) (doomed : ℕ → Option ℕ)
    → StandsFor before state doomed → TakesStepUnder event before after state doomed pick.core o)) told takes in
    record {
      same = same;
      goes_on =
          subst (λ (r : Result Outcome E). IfOk r
          (λ o. (start : Machine) (state : State) (doomed : ℕ → Option ℕ) (history : List (ℕ × Outcome)) →
          IsRun start before state doomed history → IsRun start after state doomed (history ++ (pick.core, o) ∷ [])))
          told run;
      under = λ state doomed stands. (
        subst (λ (e : Option Event). IsOwedUnder e k state doomed pick.core outcome) (sym is)
            (taken state doomed stands).is_owed,
        subst (λ (t : Option State). MatchOption t ⊥ (λ _. Unit {0})) (sym (taken state doomed stands).is_step) tt,
      );
    }

-- ---- of a board

abbrev rules_with : Program → Limits → Setting
rules_with program limits = program_setting program limits.read_lines limits.write_lines limits.stores

pub same_rules : (before after : Board) → SameBoard before after → board_setting after ≡ board_setting before
same_rules before after same =
    ap (λ (p : Program). rules_with p after.limits) same.program
    ∙ ap (λ (l : Limits). rules_with before.program l) same.limits

-- what a board's own step comes to
pub board_step : (before after : Board) (pick : Pick) (outcome : Outcome) → SameBoard before after →
    after.history ≡ before.history ++ (pick.core, outcome) ∷ [] → IsOwedNext pick.event before pick.core outcome
    → IsHistory before → IsHistory after →
    AreBoardSteps before ((pick, outcome) ∷ []) after
board_step before after pick outcome same history owed was law =
    let k : Setting = board_setting before in
    let opening : State = opening_state before.program in
    let rules : board_setting after ≡ k = same_rules before after same in
    let is : run k opening (before.history ++ (pick.core, outcome) ∷ []) ≡ Some law.end =
    ap (λ (l : List (ℕ × Outcome)). run k opening l) (sym history)
    ∙ ap (λ (s : Setting). run s opening after.history) (sym rules)
    ∙ ap (λ (p : Program). run (board_setting after) (opening_state p) after.history) (sym same.program) ∙ law.is_run in
    record {
      same = same;
      history = history;
      under = λ end at. (owed end at, step_allowed k opening before.history pick.core outcome end law.end at is);
      was = was;
    }

made_more : (steps others : List (Pick × Outcome)) (now after : Board) →
    HasMade now steps → AreBoardSteps now others after → HasMade after (steps ++ others)
made_more steps others now after made h =
    let none : Doomed = λ _. None in
    let k : Setting = board_setting now in
    let opening : State = opening_state now.program in
    let rules : board_setting after ≡ k = same_rules now after h.same in
    let was : run k opening (history_made steps) ≡ Some h.was.end =
    subst (λ (l : List (ℕ × Outcome)). run k opening l ≡ Some h.was.end) made.history h.was.is_run in
    let next : AreOwedUnder k h.was.end (doomed_at_end k opening none (history_made steps)) others =
    subst (λ (l : List (ℕ × Outcome)). AreOwedUnder k h.was.end (doomed_at_end k opening none l) others) made.history
    (h.under h.was.end h.was.is_run) in
    let owed : AreOwedUnder k opening none (steps ++ others) =
    under_all k opening none steps others h.was.end made.under was next in
    record {
      history = h.history ∙ ap (λ l. l ++ history_made others) made.history ∙ sym (history_on steps others);
      under =
          subst (λ (p : Program). AreOwedUnder (board_setting after) (opening_state p) none (steps ++ others))
          (sym h.same.program)
          (subst (λ (s : Setting). AreOwedUnder s opening none (steps ++ others)) (sym rules) owed);
    }

made_on : (before : List (Pick × Outcome)) (parts : List (List (Pick × Outcome))) (now after : Board) →
    HasMade now before → PartsLead AreBoardSteps now parts after
    → HasMade after (before ++ steps_in parts) × SameBoard now after
made_on before [] now after made h =
    subst (λ (b : Board). HasMade b (before ++ []) × SameBoard now b) (sym h) (
      subst (λ (l : List (Pick × Outcome)). HasMade now l) (sym (append-nil before)) made,
      record { program = refl; limits = refl; limit = refl },
    )
made_on before (part ∷ parts) now after made h =
    let more = made_on (before ++ part) parts h.0 after (made_more before part now h.0 made h.1) h.2 in (
      subst (λ (l : List (Pick × Outcome)). HasMade after l) (append_assoc before part (steps_in parts)) more.0,
      record {
        program = more.1.program ∙ h.1.same.program;
        limits = more.1.limits ∙ h.1.same.limits;
        limit = more.1.limit ∙ h.1.same.limit;
      },
    )

-- the steps that lead on from a board without any are those that it has made
pub made_all : (steps : List (Pick × Outcome)) (now after : Board) → now.history ≡ []
    → Leads AreBoardSteps now steps after →
    HasMade after steps × SameBoard now after
made_all steps now after none h =
    let all = made_on [] h.0 now after (record { history = none; under = tt }) h.2 in
    (subst (λ (l : List (Pick × Outcome)). HasMade after l) h.1 all.0, all.1)
