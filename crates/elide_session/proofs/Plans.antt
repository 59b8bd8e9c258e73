-- The plan of a schedule that is drawn.
use Rattle.std.proofs.Common.{◌≡◌, ◌<◌, ◌≤◌, ◌∙◌, ℕ, Bool, false, true, List, [], Option, None, Some, length, arith, ap}
use Rattle.std.proofs.Common.{◌⊎◌, ◌||◌, refl, subst, sym, inl, inr}
use Rattle.std.specs.Borrow.{Bor}
use Rattle.std.specs.Prelude.{is_some, min, nat_lt, not}
use Rattle.std.specs.Option.{option_copied}
use Rattle.elide_args.specs.declared.subcommand.MachineOptions.{MachineOptions}
use Rattle.elide_args.specs.declared.subcommand.ScheduleOptions.{ScheduleOptions}
use Rattle.elide_program.specs.Settings.{has_store_buffer, is_above_none}
use Rattle.elide_setup.proofs.Drawing.{all_told_under, come_under, no_own, under_come}
use Rattle.elide_setup.proofs.Runs.{run_of_all}
use Rattle.elide_setup.specs.Drawing.{AreUnder, ComeAs, IsCourseDraw, IsSeed, may_tell}
use Rattle.elide_setup.specs.Refused.{IsNoCore, IsNoWalk}
use Rattle.elide_setup.specs.Rounds.{IsDrawnOut, IsOut}
use Rattle.elide_setup.specs.Runs.{AreMachineSteps, IsRunOf}
use Rattle.elide_setup.specs.Setup.{IsAsked}
use Rattle.elide_setup.specs.Schedules.{AreOf, are_listed, form_asked, form_of, picks_made, picks_told}
use Rattle.tm_core.specs.declared.limits.Limits.{Limits}
use Rattle.tm_core.specs.Theorem.{ShownMachine as Machine, machine_setting}
use Rattle.tm_model.proofs.NonePending.{none_at_first}
use Rattle.tm_model.specs.Setting.{Setting}
use Rattle.tm_model.specs.State.{opening_state}
use Rattle.elide_setup.specs.Walks.{Leads}
use Rattle.elide_setup.specs.declared.fault.Refusal.{Refusal}
use Rattle.elide_setup.specs.declared.machine.Setup.{Setup}
use Rattle.elide_setup.specs.declared.plan.Course.{Course}
use Rattle.elide_setup.specs.declared.plan.Course.TheVariants as course
use Rattle.elide_setup.specs.declared.plan.Drawn.{Drawn}
use Rattle.tm_hist.specs.Board.{IsNew, ShownBoard as Board}
use Rattle.tm_model.specs.declared.outcome.Outcome.{Outcome}
use Rattle.tm_model.specs.declared.outcome.Pick.{Pick}
use Rattle.elide_session.specs.Opened.{AreDrawn, IsLimitedOut, IsOutUnder, NonePends, limited_course, may_pend}
use Rattle.elide_session.specs.Opened.{most_drawn}
use Rattle.elide_session.specs.Refused.{IsUndrawn}

-- ---- of a run whose steps are drawn

-- what a walk that keeps its picks comes to
abbrev pub Walked : Drawn → ℕ → Machine → Machine → List Pick → Type 0
Walked drawn cores before after picks =
    (steps : List (Pick × Outcome)) × ComeAs drawn (picks_made steps)
    × Leads AreMachineSteps before steps after
    × (picks ≡ picks_told steps) × IsOut (course.Drawn drawn) cores steps

-- where no store may be pending, the picks that are told come under the events that may be drawn, too
pub plan_come : (drawn : Drawn) (setup : Setup) (cores : ℕ) (before after : Machine) (picks : List Pick)
    → setup.limits.stores ≡ 0 → drawn.drains ≡ false → IsRunOf setup.program setup.limits [] before →
    Walked drawn cores before after picks → ComeAs drawn picks
plan_come drawn setup cores before after picks off none new walked =
    let ran = run_of_all setup.program setup.limits walked.0 before after new walked.2 in
    let own = no_own drawn none in
    come_under drawn picks own
    (subst (λ (l : List Pick). AreUnder drawn.events l) (sym walked.3)
    (all_told_under drawn.events (machine_setting ran.start) (opening_state setup.program) (λ _. None) walked.0
    (ap (λ (k : Setting). k.store_buffer) ran.rules ∙ off) (none_at_first setup.program) ran.under
    (under_come drawn (picks_made walked.0) own walked.1)))

pub plan_run : (drawn : Drawn) (setup : Setup) (cores : ℕ) (before after : Machine) (picks : List Pick)
    → IsRunOf setup.program setup.limits [] before →
    cores ≡ length setup.program.entries → Walked drawn cores before after picks →
    AreDrawn setup.program setup.limits (IsOutUnder (course.Drawn drawn)) picks
plan_run drawn setup cores before after picks new same walked = record {
  steps = walked.0;
  last = after;
  ran = run_of_all setup.program setup.limits walked.0 before after new walked.2;
  out = (subst (λ (n : ℕ). IsOut (course.Drawn drawn) n walked.0) same walked.4, walked.1);
  told = walked.3;
}

-- a machine of the program makes each step that is drawn
pub of_walk : (drawn : Drawn) (setup : Setup) (cores : ℕ) (before : Machine) (why : Refusal)
    → IsRunOf setup.program setup.limits [] before →
    cores ≡ length setup.program.entries → IsNoWalk AreMachineSteps IsNoCore (course.Drawn drawn) cores before why
    → IsUndrawn setup why
of_walk drawn setup cores before why new same (inl h) =
    let ran = run_of_all setup.program setup.limits h.made before h.after new h.lead in
    let kept : length h.after.views ≡ length ran.start.views = ran.is_run.same.cores in
    let first : length ran.start.views ≡ length setup.program.entries = ran.cores in
    let below : h.pick.core < cores = h.due.core in
    let beyond : length h.after.views ≤ h.pick.core = h.refused.beyond in
    absurd (omega arith)
of_walk drawn setup cores before why new same (inr none) = inr (inr none)

-- ---- of the options

-- a course of which no more are drawn is of the same steps
pub limited_steps : (asked : Course) (picks : List Pick) → AreOf (limited_course asked) picks → AreOf asked picks
limited_steps (course.Listed listed) picks h = h
limited_steps (course.Drawn drawn) picks h = h

limited_form : (asked : Course) → form_of (limited_course asked) ≡ form_of asked
limited_form (course.Listed listed) = refl
limited_form (course.Drawn drawn) = refl

seeded : (random : Option (Bor (List ℕ))) (seed : Option ℕ) → IsSeed (option_copied random) seed
    → is_some seed ≡ is_some random
seeded None seed h = ap is_some h
seeded (Some text) None h = absurd (h.1 refl)
seeded (Some text) (Some number) h = refl

drawn_form : (drains : Bool) (options : ScheduleOptions) → are_listed options ≡ false
    → form_asked drains options ≡ Some (is_some options.events || drains)
drawn_form drains options unlisted = rw unlisted refl

listed_form : (drains : Bool) (options : ScheduleOptions) → are_listed options ≡ true
    → form_asked drains options ≡ None
listed_form drains options listed = rw listed refl

limited_out : (drains : Bool) (options : ScheduleOptions) (asked : Course) (cores : ℕ) (steps : List (Pick × Outcome))
    → IsCourseDraw drains options asked →
    form_of asked ≡ form_asked drains options → are_listed options ≡ false
    → IsOutUnder (limited_course asked) cores steps → IsLimitedOut drains options cores steps
limited_out drains options (course.Listed listed) cores steps draw form unlisted h =
    let some = drawn_form drains options unlisted in cc
limited_out drains options (course.Drawn drawn) cores steps draw form unlisted h = record {
  drawn = drawn;
  asked = draw;
  out = subst (λ (b : Bool). IsDrawnOut (not b) cores (min drawn.most most_drawn) steps)
      (seeded options.random drawn.seed draw.seed) h.0;
  come = h.1;
}

-- ---- of a session

-- the picks of a schedule that is drawn are those of a run of its board's program
pub drawn_for : (drains : Bool) (options : ScheduleOptions) (setup : Setup) (board : Board) (asked : Course)
    (picks : List Pick) →
    IsNew setup.program setup.limits 1000000 board → IsCourseDraw drains options asked
    → form_of asked ≡ form_asked drains options →
    (is_some (form_of (limited_course asked)) ≡ true →
    AreDrawn setup.program setup.limits (IsOutUnder (limited_course asked)) picks)
    → are_listed options ≡ false →
    AreDrawn board.program board.limits (IsLimitedOut drains options) picks
drawn_for drains options setup board asked picks new draw form ran unlisted =
    let run = ran (ap is_some (limited_form asked ∙ form ∙ drawn_form drains options unlisted)) in
    let of_setup : AreDrawn setup.program setup.limits (IsLimitedOut drains options) picks = record {
      steps = run.steps;
      last = run.last;
      ran = run.ran;
      out = limited_out drains options asked (length setup.program.entries) run.steps draw form unlisted run.out;
      told = run.told;
    } in
    subst (λ p. AreDrawn p board.limits (IsLimitedOut drains options) picks) (sym new.program)
    (subst (λ l. AreDrawn setup.program l (IsLimitedOut drains options) picks) (sym new.limits) of_setup)

-- a list is no draw, and else no store of the board may be pending
pub none_pends : (drains : Bool) (options : ScheduleOptions) (setup : Setup) (board : Board) (asked : Course) →
    IsNew setup.program setup.limits 1000000 board → drains ≡ may_pend board → IsCourseDraw drains options asked →
    form_of asked ≡ form_asked drains options → (are_listed options ≡ true) ⊎ (board.limits.stores ≡ 0) →
    NonePends setup (limited_course asked)
none_pends drains options setup board (course.Listed listed) new pend draw form which = tt
none_pends drains options setup board (course.Drawn drawn) new pend draw form (inl listed) =
    let none : Some (may_tell drawn) ≡ None = form ∙ listed_form drains options listed in absurd (cc)
none_pends drains options setup board (course.Drawn drawn) new pend draw form (inr off) = (
  ap (λ (l : Limits). l.stores) (sym new.limits) ∙ off,
  draw.may_drain ∙ pend ∙ ap (λ (stores : ℕ). nat_lt 0 stores) off,
)

-- stores may be pending on the board where the options of its machine say so
pub board_pends : (content : Option (List ℕ)) (options : MachineOptions) (setup : Setup) (board : Board)
    → IsAsked content options setup → IsNew setup.program setup.limits 1000000 board
    → has_store_buffer options ≡ may_pend board
board_pends content options setup board asked new =
    ap is_above_none asked.said.stores ∙ ap (λ (stores : ℕ). nat_lt 0 stores) (sym asked.made.stores)
    ∙ ap (λ (l : Limits). nat_lt 0 l.stores) (sym new.limits)
