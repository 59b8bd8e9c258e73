-- What a file holds that a schedule is recorded in.
use Rattle.std.proofs.Common.{◌≡◌, ◌∙◌, ℕ, Bool, List, ◌++◌, Option, None, Some, Ok, Err, ap, refl, subst, sym}
use Rattle.std.specs.Borrow.{Bor}
use Rattle.std.specs.Io.KnownBytes.{Appends, Keeps}
use Rattle.std.specs.Prelude.{IfSome, OnOk, Result, is_some}
use Rattle.tm_model.specs.declared.outcome.Outcome.{Outcome}
use Rattle.tm_model.specs.declared.outcome.Pick.{Pick}
use Rattle.elide_setup.specs.Recorded.{IsRecorded}
use Rattle.elide_args.specs.declared.subcommand.ScheduleOptions.{ScheduleOptions}
use Rattle.elide_setup.specs.Drawing.{may_tell}
use Rattle.elide_setup.specs.Schedules.{AreOf, form_asked, form_of, kept_of, picks_made, picks_told, recorded_text}
use Rattle.elide_setup.specs.Schedules.{schedule_asked, schedule_made}
use Rattle.tm_schedule.specs.Schedule.{drawn_text, schedule_text}
use Rattle.elide_setup.specs.declared.plan.Course.{Course}
use Rattle.elide_setup.specs.declared.plan.Course.TheVariants as course

-- a text on a device that gathers, which handed on what it held
pub passed_on : (first begun ended last : Option (List ℕ)) (text : List ℕ) → Keeps first begun
    → Appends begun ended text → Keeps ended last → Appends first last text
passed_on None begun ended last text h k e = tt
passed_on (Some xs) None ended last text h k e = absurd h
passed_on (Some xs) (Some ys) None last text h k e = absurd k
passed_on (Some xs) (Some ys) (Some zs) None text h k e = absurd e
passed_on (Some xs) (Some ys) (Some zs) (Some ws) text h k e = e ∙ k ∙ ap (λ l. l ++ text) h

-- what holds stays true where what is written behind it may fail
pub kept_on_ok : {T E P : Type 0} (r : Result T E) → P → OnOk r P
kept_on_ok (Ok done) h = h
kept_on_ok (Err refused) h = tt

-- a text behind what was kept, and what is kept behind a text
pub kept_then : (a b c : Option (List ℕ)) (text : List ℕ) → Keeps a b → Appends b c text → Appends a c text
kept_then None b c text k h = tt
kept_then (Some xs) None c text k h = absurd k
kept_then (Some xs) (Some ys) None text k h = absurd h
kept_then (Some xs) (Some ys) (Some zs) text k h = h ∙ ap (λ l. l ++ text) k

pub then_kept : (a b c : Option (List ℕ)) (text : List ℕ) → Appends a b text → Keeps b c → Appends a c text
then_kept None b c text h k = tt
then_kept (Some xs) None c text h k = absurd h
then_kept (Some xs) (Some ys) None text h k = absurd k
then_kept (Some xs) (Some ys) (Some zs) text h k = k ∙ h

-- what is true of a text is true of what a file holds, where that is the text
pub if_held : (held : Option (List ℕ)) (text : List ℕ) (P : List ℕ → Type 0) → P text
    → IfSome held (λ h. h ≡ text) → IfSome held P
if_held None text P p h = tt
if_held (Some other) text P p h = subst P (sym h) p

pub held_same : (held : Option (List ℕ)) (text other : List ℕ) → text ≡ other → IfSome held (λ h. h ≡ text)
    → IfSome held (λ h. h ≡ other)
held_same held text other e h = if_held held text (λ l. l ≡ other) e h

-- what is kept of steps where there is a path is what is recorded there
pub recorded_kept : (content : List ℕ → Option (List ℕ)) (path : Option (Bor (List ℕ))) (asked : Course)
    (steps : List (Pick × Outcome)) (kept : List Pick) →
    kept ≡ kept_of asked (is_some path) steps → IsRecorded content path (schedule_made asked kept)
    → IsRecorded content path (schedule_made asked (picks_told steps))
recorded_kept content None asked steps kept e h = tt
recorded_kept content (Some path) (course.Listed listed) steps kept e h = h
recorded_kept content (Some path) (course.Drawn drawn) steps kept e h =
    subst (λ (picks : List Pick). IsRecorded content (Some path) (drawn_text (may_tell drawn) picks)) e h

-- it is what is to be recorded of the steps that were made
made_is : (asked : Course) (steps : List (Pick × Outcome)) → AreOf asked (picks_made steps)
    → schedule_made asked (picks_told steps) ≡ recorded_text (form_of asked) steps
made_is (course.Listed listed) steps of = ap schedule_text (sym of)
made_is (course.Drawn drawn) steps of = refl

pub recorded_as : (form : Option Bool) (content : List ℕ → Option (List ℕ)) (path : Option (Bor (List ℕ)))
    (asked : Course) (steps : List (Pick × Outcome)) → form_of asked ≡ form → AreOf asked (picks_made steps) →
    IsRecorded content path (schedule_made asked (picks_told steps))
    → IsRecorded content path (recorded_text form steps)
recorded_as form content path asked steps e of h =
    subst (λ (text : List ℕ). IsRecorded content path text)
    (made_is asked steps of ∙ ap (λ (f : Option Bool). recorded_text f steps) e) h

pub recorded_asked : (content : List ℕ → Option (List ℕ)) (path : Option (Bor (List ℕ))) (drains : Bool)
    (options : ScheduleOptions) (asked : Course) (steps : List (Pick × Outcome)) →
    form_of asked ≡ form_asked drains options → AreOf asked (picks_made steps) →
    IsRecorded content path (schedule_made asked (picks_told steps))
    → IsRecorded content path (schedule_asked drains options steps)
recorded_asked content path drains options asked steps e of h =
    recorded_as (form_asked drains options) content path asked steps e of h
