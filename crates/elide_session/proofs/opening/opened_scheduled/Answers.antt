use Rattle.std.proofs.Common.{◌≡◌, ℕ, Bool, List, Option, subst, sym, true}
use Rattle.std.proofs.lemmas.Result.{err_from_is_err_and}
use Rattle.std.specs.Prelude.{is_some}
use Rattle.elide_places.specs.FileSymbols.{AreSymbolsOf}
use Rattle.elide_program.specs.Settings.{has_store_buffer}
use Rattle.elide_setup.specs.Refused.{NamesNoCore}
use Rattle.elide_setup.specs.Schedules.{AreAsked, AreOf, form_of, listed_in}
use Rattle.elide_setup.specs.declared.plan.Course.{Course}
use Rattle.elide_session.proofs.Plans.{board_pends, drawn_for, limited_steps, none_pends}
use Rattle.elide_session.specs.Opened.{AreDrawn, IsLimitedOut, IsOutUnder, NonePends, may_pend}
use Rattle.elide_session.specs.Refused.{beyond, boardless, undrawn, unscheduled}
use Rattle.elide_session.proofs.opening.opened_scheduled.Goals as goal

pub returns-clause-opened : goal.returns-clause-opened
returns-clause-opened g c =
    let loaded = c.in_ok-loaded.ensures.loaded in
    record {
      setup = c.in_ok-loaded.loaded.setup;
      asked = loaded.setup;
      new = c.in_ok-board.ensures.made;
      named = subst (λ symbols. AreSymbolsOf loaded.setup.file symbols.items) (sym c.names_of.ensures)
          (loaded.named c.wants_of-wants.ensures);
    }

pub returns-clause-plan : goal.returns-clause-plan
returns-clause-plan g c =
    let loaded = c.in_ok-loaded.ensures.loaded in
    let setup = c.in_ok-loaded.loaded.setup in
    let picks = c.in_ok-plan.plan.items in
    let schedule = c.args.schedule.now in
    let board = c.in_ok-board.board in
    let asked = c.in_ok-loaded.course in
    let drains = has_store_buffer c.args.machine.now in
    let limited = c.limited-course.ensures in
    let content : List ℕ → Option (List ℕ) = g.P.Paths.content c.args.paths.now in
    let pend : drains ≡ may_pend board =
    board_pends (content c.args.machine.now.file.now) c.args.machine.now setup board loaded.setup
    c.in_ok-board.ensures.made in
    record {
      asked = λ _ which. subst (λ (b : Bool). AreAsked b content schedule picks) pend
          (loaded.course picks
          (limited_steps c.in_ok-loaded.course picks
          (subst (λ (k : Course). AreOf k picks) limited
          (c.in_ok-plan.ensures.picks
          (subst (λ (k : Course). NonePends setup k) (sym limited)
          (none_pends drains schedule setup board asked c.in_ok-board.ensures.made pend loaded.draw loaded.listed
          which))))));
      drawn = λ _ unlisted. subst
          (λ (b : Bool). AreDrawn board.program board.limits (IsLimitedOut b schedule) picks) pend
          (drawn_for drains schedule setup board asked picks c.in_ok-board.ensures.made loaded.draw loaded.listed
          (subst
          (λ (k : Course). is_some (form_of k) ≡ true → AreDrawn setup.program setup.limits (IsOutUnder k) picks)
          limited c.in_ok-plan.ensures.drawn) unlisted);
      unasked = λ none. let some = c.requires in cc;
    }

pub returns-in_err-loaded-clause-none : goal.returns-in_err-loaded-clause-none
returns-in_err-loaded-clause-none g c =
    let p = err_from_is_err_and c.from_residual.result c.from_residual.ensures.1 in
    rw (p.1, p.2) (unscheduled c.requires c.in_err-loaded.ensures.none)

pub returns-in_err-check_cores-clause-none : goal.returns-in_err-check_cores-clause-none
returns-in_err-check_cores-clause-none g c =
    let loaded = c.in_ok-loaded.ensures.loaded in
    let p =
    err_from_is_err_and c.from_residual-in_err-check_cores.result c.from_residual-in_err-check_cores.ensures.1 in
    rw (p.1, p.2) (beyond c.in_ok-loaded.loaded.setup c.limited-course.result loaded.setup
    (λ picks are. loaded.course picks
    (limited_steps c.in_ok-loaded.course picks (subst (λ (k : Course). AreOf k picks) c.limited-course.ensures are)))
    (subst (λ (n : ℕ). NamesNoCore (listed_in c.limited-course.result) n c.in_err-check_cores.field-0.0)
    c.cores.ensures.number c.in_err-check_cores.ensures.none))

pub returns-in_err-board-clause-none : goal.returns-in_err-board-clause-none
returns-in_err-board-clause-none g c =
    let p = err_from_is_err_and c.from_residual-in_err-board.result c.from_residual-in_err-board.ensures.1 in
    rw (p.1, p.2)
    (boardless c.in_ok-loaded.loaded.setup c.in_ok-loaded.ensures.loaded.setup c.in_err-board.ensures.none)

pub returns-in_err-plan-clause-none : goal.returns-in_err-plan-clause-none
returns-in_err-plan-clause-none g c =
    let p = err_from_is_err_and c.from_residual-in_err-plan.result c.from_residual-in_err-plan.ensures.1 in
    rw (p.1, p.2) (undrawn c.in_ok-loaded.loaded.setup c.in_ok-loaded.ensures.loaded.setup c.in_err-plan.ensures.none)
