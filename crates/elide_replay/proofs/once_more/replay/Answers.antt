use Rattle.std.proofs.Common.{ℕ, List, Option, subst}
use Rattle.std.proofs.lemmas.Result.{IfOk-weaker}
use Rattle.std.specs.Borrow.{Bor}
use Rattle.std.specs.Prelude.{IfOk, Result, Ok, Err}
use Rattle.tm_model.specs.Runs.{picks_of}
use Rattle.tm_model.specs.declared.outcome.Outcome.{Outcome}
use Rattle.elide_setup.proofs.Schedules.{asked_before}
use Rattle.elide_setup.specs.Setup.{IsAsked}
use Rattle.elide_replay.specs.Printed.{IsPrinted, IsTold}
use Rattle.elide_setup.specs.Recorded.{IsRecorded}
use Rattle.tm_schedule.specs.Schedule.{schedule_text}
use Rattle.elide_setup.specs.Schedules.{picks_made, picks_told}
use Rattle.elide_replay.specs.declared.agreement.Agreement.{Agreement}
use Rattle.std.proofs.lemmas.Result.{IfErr-weaker, err_from_is_err_and}
use Rattle.elide_program.specs.Settings.{has_store_buffer}
use Rattle.elide_replay.proofs.Refusing.{of_opening}
use Rattle.elide_replay.specs.Refused.{IsNotCompared, IsRefused, not_compared, not_made}
use Rattle.elide_replay.proofs.once_more.replay.Goals as goal

-- two facts of what is answered give a third
both : {X E : Type 0} (r : Result X E) (P Q R : X → Type 0) → ((x : X) → P x → Q x → R x) → IfOk r P
    → IfOk r Q → IfOk r R
both (Ok x) P Q R third p q = third x p q
both (Err e) P Q R third p q = tt

pub returns-clause-printed : goal.returns-clause-printed
returns-clause-printed g c =
    let content : List ℕ → Option (List ℕ) = g.P.Paths.content c.args.paths.now in
    let left : List ℕ → Option (List ℕ) = g.P.Paths.content c.compare.new.paths in
    let options = c.args.options.now in
    let setup = c.in_ok-setup.setup in
    let board = c.in_ok-board.board in
    let stepped = c.in_ok-board.ensures.steps in
    let recorded : IfOk c.compare.result (λ _. IsRecorded left options.record (schedule_text (picks_told stepped.0))) =
    IfOk-weaker c.compare.result (λ _. IsRecorded left c.in_ok-path.path (schedule_text (picks_of board.history)))
    (λ _. IsRecorded left options.record (schedule_text (picks_told stepped.0)))
    (λ _ h. subst (λ (path : Option (Bor (List ℕ))). IsRecorded left path (schedule_text (picks_told stepped.0)))
    c.in_ok-path.ensures.given
    (subst (λ (history : List (ℕ × Outcome)). IsRecorded left c.in_ok-path.path (schedule_text (picks_of history)))
    stepped.1.history h))
    c.compare.ensures.recorded in
    both c.compare.result
    (λ (r : Agreement × g.row.O.Denot). IsTold setup options board (g.O.Out.device c.args.out).contents
    (g.O.Out.device r.1).contents)
    (λ (r : Agreement × g.row.O.Denot). IsRecorded left options.record (schedule_text (picks_told stepped.0)))
    (λ (r : Agreement × g.row.O.Denot). IsPrinted content left options (g.O.Out.device c.args.out).contents
    (g.O.Out.device r.1).contents)
    (λ r told recorded. record {
      setup = setup;
      asked = subst (λ (text : Option (List ℕ)). IsAsked text options.machine setup)
          (c.record_path.ensures.kept options.machine.file.now) c.in_ok-setup.ensures.setup;
      board = board;
      made = c.in_ok-board.ensures.made;
      steps = stepped.0;
      stepped = stepped.1;
      scheduled =
          asked_before (has_store_buffer options.machine) content (g.P.Paths.content c.record_path.new.paths)
          options.schedule (picks_made stepped.0)
          c.record_path.ensures.kept (c.in_ok-setup.ensures.course (picks_made stepped.0) stepped.2);
      recorded = recorded;
      told = told;
    })
    c.compare.ensures.told recorded

pub returns-in_err-setup-clause-refused : goal.returns-in_err-setup-clause-refused
returns-in_err-setup-clause-refused g c =
    let p = err_from_is_err_and c.from_residual-in_err-setup.result c.from_residual-in_err-setup.ensures.1 in
    rw (p.1, p.2)
    (of_opening (g.P.Paths.content c.args.paths.now) (g.P.Paths.content c.record_path.new.paths)
    (g.P.Paths.are_one c.args.paths.now) c.args.options.now c.in_err-setup.field-0.0
    c.record_path.ensures.kept c.in_err-setup.ensures.none)

pub returns-in_err-board-clause-refused : goal.returns-in_err-board-clause-refused
returns-in_err-board-clause-refused g c =
    let content : List ℕ → Option (List ℕ) = g.P.Paths.content c.args.paths.now in
    let options = c.args.options.now in
    let setup = c.in_ok-setup.setup in
    let p = err_from_is_err_and c.from_residual-in_err-board.result c.from_residual-in_err-board.ensures.1 in
    rw (p.1, p.2)
    (not_made setup c.in_ok-setup.course
    (subst (λ (text : Option (List ℕ)). IsAsked text options.machine setup)
    (c.record_path.ensures.kept options.machine.file.now) c.in_ok-setup.ensures.setup)
    (λ picks are. asked_before (has_store_buffer options.machine) content (g.P.Paths.content c.record_path.new.paths)
    options.schedule picks
    c.record_path.ensures.kept (c.in_ok-setup.ensures.course picks are))
    c.in_err-board.ensures.none)

pub returns-clause-refused : goal.returns-clause-refused
returns-clause-refused g c =
    let options = c.args.options.now in
    let setup = c.in_ok-setup.setup in
    let board = c.in_ok-board.board in
    let is = subst (λ (text : Option (List ℕ)). IsAsked text options.machine setup)
    (c.record_path.ensures.kept options.machine.file.now) c.in_ok-setup.ensures.setup in
    IfErr-weaker c.compare.result (IsNotCompared setup board c.in_ok-path.path)
    (IsRefused (g.P.Paths.content c.args.paths.now) (g.P.Paths.are_one c.args.paths.now) options)
    (λ why h. not_compared setup board is c.in_ok-board.ensures.made
    (subst (λ (path : Option (Bor (List ℕ))). IsNotCompared setup board path why) c.in_ok-path.ensures.given h))
    c.compare.ensures.refused
