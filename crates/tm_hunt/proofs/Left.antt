-- The cores of a board that have not stopped.
use Rattle.std.proofs.Common.{◌≡◌, ◌≢◌, ℕ, ◌<◌, true, false, eqb, List, [], ◌∷◌, ◌++◌, length, Option, Some, None, refl}
use Rattle.std.proofs.Common.{sym, ap, ◌∙◌, subst, arith}
use Rattle.std.specs.Prelude.{◌↔◌, All, Contains}
use Rattle.std.proofs.lemmas.Bool.{eqb-true}
use Rattle.std.proofs.lemmas.Bool.Decides.{nat_tests}
use Rattle.std.proofs.lemmas.Option.{same_Some}
use Rattle.ia_image.specs.Program.{ProgramValue as Program}
use Rattle.tm_check.specs.Checks.{HasEnded}
use Rattle.tm_core.specs.Theorem.{machine_setting, view_at}
use Rattle.tm_core.specs.declared.limits.Limits.{Limits}
use Rattle.tm_hist.specs.Board.{IsHistory, IsStopped, SameBoard, ShownBoard as Board, board_setting, stop_shown}
use Rattle.tm_hist.specs.Machine.{core_count, shown_state}
use Rattle.tm_model.specs.Runs.{doomed_at_end}
use Rattle.tm_model.specs.Setting.{program_setting}
use Rattle.tm_model.specs.State.{State, opening_state, seen_by}
use Rattle.tm_model.specs.Steps.{run, step}
use Rattle.tm_model.specs.Types.{Stop}
use Rattle.tm_model.specs.declared.outcome.Outcome.{Outcome}
use Rattle.tm_model.specs.declared.outcome.Outcome.TheVariants.{Plain, Loaded, Stopped, Idle, Begun, Inside, Committed}
use Rattle.tm_model.specs.declared.outcome.Outcome.TheVariants.{Aborted, AbortedBy, Drained}
use Rattle.tm_hunt.specs.Runs.{AreLeft}
use Rattle.tm_hunt.proofs.Halts.{halt_of, halt_told, other_same, own_after, run_last, shows_halt}

-- ---- why a core stopped

-- a core shows why the core of the state stopped
shown_is : (b : Board) (h : IsHistory b) (core : ℕ) → core < core_count b.machine
    → stop_shown (shown_state b.machine core) ≡ halt_of (h.end.cores core)
shown_is b h core below =
    shows_halt (machine_setting b.machine) (seen_by h.end core) (h.end.cores core)
    (doomed_at_end (board_setting b) (opening_state b.program) (λ _. None) b.history core)
    (view_at b.machine core) (h.stands.each core below)

-- no stop
pub not_stopped : (o : Option Stop) → ¬ ((why : Stop) × (o ≡ Some why)) → o ≡ None
not_stopped None none = refl
not_stopped (Some why) none = absurd (none (why, refl))

pub no_stop : (o : Option Stop) → o ≡ None → ¬ ((why : Stop) × (o ≡ Some why))
no_stop o none = λ some. let e : None ≡ Some some.0 = sym none ∙ some.1 in cc

-- ---- one step

-- the step that leads from one board to the other
pub step_is : (before after : Board) (core : ℕ) (outcome : Outcome) (h : IsHistory before) (l : IsHistory after)
    → SameBoard before after →
    after.history ≡ before.history ++ (core, outcome) ∷ [] → step (board_setting before) h.end core outcome ≡ Some l.end
step_is before after core outcome h l same more =
    let more_is :
    run (board_setting after) (opening_state after.program) (before.history ++ (core, outcome) ∷ []) ≡ Some l.end =
    subst (λ (made : List (ℕ × Outcome)). run (board_setting after) (opening_state after.program) made ≡ Some l.end)
    more l.is_run in
    let of_limits :
    run (program_setting after.program before.limits.read_lines before.limits.write_lines before.limits.stores)
    (opening_state after.program) (before.history ++ (core, outcome) ∷ []) ≡ Some l.end =
    subst (λ (limits : Limits). run (program_setting after.program limits.read_lines limits.write_lines limits.stores)
    (opening_state after.program) (before.history ++ (core, outcome) ∷ []) ≡ Some l.end) same.limits more_is in
    let of_program :
    run (board_setting before) (opening_state before.program) (before.history ++ (core, outcome) ∷ []) ≡ Some l.end =
    subst (λ (program : Program).
    run (program_setting program before.limits.read_lines before.limits.write_lines before.limits.stores)
    (opening_state program) (before.history ++ (core, outcome) ∷ []) ≡ Some l.end) same.program of_limits in
    run_last (board_setting before) (opening_state before.program) before.history (core, outcome) h.end l.end
    of_program h.is_run

same_count : (before after : Board) → IsHistory before → IsHistory after → SameBoard before after
    → core_count after.machine ≡ core_count before.machine
same_count before after h l same =
    l.cores ∙ (ap (λ (program : Program). length program.entries) same.program ∙ sym h.cores)

stopped_told : (outcome : Outcome) (why : Stop) → halt_told outcome ≡ Some why → outcome ≡ Stopped why
stopped_told Plain why e = cc
stopped_told Loaded why e = cc
stopped_told (Stopped x) why e = ap Stopped (same_Some x why e)
stopped_told Idle why e = cc
stopped_told Begun why e = cc
stopped_told Inside why e = cc
stopped_told Committed why e = cc
stopped_told (Aborted status) why e = cc
stopped_told (AbortedBy by status) why e = cc
stopped_told Drained why e = cc

none_told : (outcome : Outcome) → halt_told outcome ≡ None → (why : Stop) → outcome ≢ Stopped why
none_told outcome none why = λ is. let e : None ≡ Some why = sym none ∙ ap halt_told is in cc

-- how a core is taken out that has stopped with an outcome
pub record IsTakenOut (going next : List ℕ) (core : ℕ) (outcome : Outcome) : Type 0 where
  pub stopped : (why : Stop) → outcome ≡ Stopped why
      → (other : ℕ) → Contains next other ↔ (Contains going other × (other ≢ core))
  pub goes_on : ((why : Stop) → outcome ≢ Stopped why) → next ≡ going

-- the other cores stay
other_left : (going next : List ℕ) (core other : ℕ) (outcome : Outcome) (told : Option Stop) → halt_told outcome ≡ told
    → IsTakenOut going next core outcome →
    other ≢ core → Contains next other ↔ Contains going other
other_left going next core other outcome None e taken differ =
    subst (λ (list : List ℕ). Contains list other ↔ Contains going other) (sym (taken.goes_on (none_told outcome e)))
    (λ among. among, λ among. among)
other_left going next core other outcome (Some why) e taken differ =
    let exact = taken.stopped why (stopped_told outcome why e) other in
    (λ among. (exact.0 among).0, λ among. exact.1 (among, differ))

-- the core itself stays exactly where its outcome tells of no stop
own_left : (going next : List ℕ) (core : ℕ) (outcome : Outcome) (told : Option Stop) → halt_told outcome ≡ told
    → IsTakenOut going next core outcome →
    Contains going core → Contains next core ↔ (halt_told outcome ≡ None)
own_left going next core outcome None e taken there = (
  λ among. e,
  λ none. subst (λ (list : List ℕ). Contains list core) (sym (taken.goes_on (none_told outcome e))) there,
)
own_left going next core outcome (Some why) e taken there =
    let exact = taken.stopped why (stopped_told outcome why e) core in
    (λ among. absurd ((exact.0 among).1 refl), λ none. let no : None ≡ Some why = sym none ∙ e in absurd (cc))

module _ (before after : Board) (going next : List ℕ) (core : ℕ) (outcome : Outcome) (h : IsHistory before)
    (l : IsHistory after) (same : SameBoard before after)
    (more : after.history ≡ before.history ++ (core, outcome) ∷ []) (there : Contains going core)
    (left : AreLeft before going) (taken : IsTakenOut going next core outcome) where
  other_core : (other : ℕ) → eqb other core ≡ false
      → Contains next other ↔ ((other < core_count after.machine) × ¬ (IsStopped after other))
  other_core other differs =
      let count = same_count before after h l same in
      let kept = other_left going next core other outcome (halt_told outcome) refl taken (grind (arith, nat_tests)) in
      let shows : other < core_count before.machine
      → stop_shown (shown_state after.machine other) ≡ stop_shown (shown_state before.machine other) = λ below.
      shown_is after l other (omega (arith, count, below))
      ∙ (other_same (board_setting before) h.end core outcome l.end other
      (step_is before after core outcome h l same more) differs
      ∙ sym (shown_is before h other below)) in (
        λ among.
            let was = (left other).0 (kept.0 among) in
            (omega (arith, count, was.0), no_stop _ (shows was.0 ∙ not_stopped _ was.1)),
        λ is.
            let below : other < core_count before.machine = omega (arith, count, is.0) in
            kept.1 ((left other).1 (below, no_stop _ (sym (shows below) ∙ not_stopped _ is.1))),
      )

  own_core : Contains next core ↔ ((core < core_count after.machine) × ¬ (IsStopped after core))
  own_core =
      let count = same_count before after h l same in
      let was = (left core).0 there in
      let below : core < core_count after.machine = omega (arith, count, was.0) in
      let ran : halt_of (h.end.cores core) ≡ None = sym (shown_is before h core was.0) ∙ not_stopped _ was.1 in
      let shows : stop_shown (shown_state after.machine core) ≡ halt_told outcome =
      shown_is after l core below
      ∙ own_after (board_setting before) h.end core outcome l.end (step_is before after core outcome h l same more)
      (grind (arith, nat_tests)) ran in
      let kept = own_left going next core outcome (halt_told outcome) refl taken there in (
        λ among. (below, no_stop _ (shows ∙ kept.0 among)),
        λ is. kept.1 (sym shows ∙ not_stopped _ is.1),
      )

  pub left_after : AreLeft after next
  left_after = λ other. elim (eqb other core) as (λ t. eqb other core ≡ t
      → Contains next other ↔ ((other < core_count after.machine) × ¬ (IsStopped after other))) [
        | true ↦ λ e. subst (λ (c : ℕ). Contains next c ↔ ((c < core_count after.machine) × ¬ (IsStopped after c)))
            (sym (eqb-true other core e)) own_core
        | false ↦ other_core other
      ] refl

-- ---- before the first step, and at the end

pub all_left : (b : Board) (going : List ℕ) (count : ℕ) → IsHistory b → b.history ≡ [] → count ≡ core_count b.machine
    → All (λ core. core < count) going →
    ((core : ℕ) → core < count → Contains going core) → AreLeft b going
all_left b going count h none whole below each core =
    let start : opening_state b.program ≡ h.end =
    same_Some (opening_state b.program) h.end
    (subst (λ (made : List (ℕ × Outcome)). run (board_setting b) (opening_state b.program) made ≡ Some h.end)
    none h.is_run) in
    let shows : core < core_count b.machine → stop_shown (shown_state b.machine core) ≡ None = λ within.
    shown_is b h core within ∙ ap (λ (s : State). halt_of (s.cores core)) (sym start) in (
      λ among.
          let within : core < count = subst (λ (c : ℕ). c < count) among.2 (below among.0 core among.1) in
          let there : core < core_count b.machine = omega (arith, within, whole) in
          (there, no_stop _ (shows there)),
      λ is. each core (omega (arith, is.0, whole)),
    )

none_within : (going : List ℕ) (core : ℕ) → length going ≡ 0 → Contains going core → ⊥
none_within going core none among = absurd (omega (arith, none, among.1))

some_stop : (o : Option Stop) → (o ≡ None → ⊥) → (why : Stop) × (o ≡ Some why)
some_stop None h = absurd (h refl)
some_stop (Some why) h = (why, refl)

-- where none is left each has stopped
pub has_ended : (b : Board) (going : List ℕ) → AreLeft b going → length going ≡ 0 → HasEnded b
has_ended b going left none = λ core below.
    some_stop (stop_shown (shown_state b.machine core))
    (λ runs. none_within going core none ((left core).1 (below, no_stop _ runs)))

-- a core that is left is one of the program
pub core_below : (b : Board) (going : List ℕ) (core : ℕ) → IsHistory b → AreLeft b going → Contains going core
    → core < length b.program.entries
core_below b going core h left among =
    let cores = h.cores in
    let below = ((left core).0 among).0 in
    omega (arith, cores, below)
