-- The reasons of steps, one step after another.
use Rattle.std.proofs.Common.{◌≡◌, ◌∙◌, ℕ, ◌+◌, ◌-◌, Bool, true, false, List, [], ◌∷◌, ◌++◌, ◌||◌, ap, arith}
use Rattle.std.proofs.Common.{length, refl, subst, sym}
use Rattle.std.specs.Prelude.{codes, if◌then◌else◌}
use Rattle.text_out.proofs.Writing.{wrote_none, wrote_then}
use Rattle.text_out.specs.Writing.{Device, Wrote}
use Rattle.tm_model.specs.declared.outcome.Outcome.{Outcome}
use Rattle.tm_model.specs.declared.outcome.Pick.{Pick}
use Rattle.elide_setup.proofs.Runs.{run_of_all}
use Rattle.elide_setup.specs.Runs.{AreMachineSteps, IsRunOf}
use Rattle.elide_setup.specs.Schedules.{AreOf, picks_made}
use Rattle.tm_core.specs.Theorem.{ShownMachine as Machine}
use Rattle.elide_setup.specs.Walks.{Leads, PartsLead, steps_in}
use Rattle.page_run.specs.Plain.{ArePlain}
use Rattle.page_run.specs.declared.stretch.Stretch.{Stretch}
use Rattle.page_run.specs.declared.window.Window.{Window}
use Rattle.elide_page.proofs.Pieces.{both_plain, same_device}
use Rattle.elide_page.specs.Reasons.{AreReasonsOf, IsPiece, ReasonedStep, ReasonsEach, ReasonsOne, Spot}
use Rattle.elide_page.specs.Reasons.{is_told, piece_text, reason_text, reasons_text, steps_of}

abbrev Steps : Type 0
Steps = List (Pick × Outcome)

-- what steps come to whose reasons are written
pub record HasReasons (before : Spot) (steps : List (Pick × Outcome)) (after : Spot) : Type 0 where
  pub told : List ReasonedStep
  pub are : steps_of told ≡ steps
  pub made : after.made ≡ before.made + length told
  pub plain : ArePlain (reasons_text before.window before.made before.some told)
  pub wrote : Wrote before.device after.device (reasons_text before.window before.made before.some told)

none : (before after : Spot) → after ≡ before → HasReasons before [] after
none before after same = record {
  told = [];
  are = refl;
  made = ap (λ (s : Spot). s.made) same ∙ sym (omega arith);
  plain = refl;
  wrote = same_device before.device after.device (ap (λ (s : Spot). s.device) same);
}

-- one step, and those behind it
one_more : (before next after : Spot) (pick : Pick) (what : Outcome) (steps : List (Pick × Outcome)) →
    ReasonsOne before pick what next → HasReasons next steps after → HasReasons before ((pick, what) ∷ steps) after
one_more before next after pick what steps one more =
    let some : Bool = before.some || is_told before.window before.made what in
    let told : List ReasonedStep = more.told in
    let first : List ℕ = piece_text before.window before.made before.some what one.piece.reason in
    let others : List ℕ = reasons_text before.window (before.made + 1) some told in
    let rest : reasons_text next.window next.made next.some told ≡ others =
    ap (λ (w : Window). reasons_text w next.made next.some told) one.window
    ∙ ap (λ n. reasons_text before.window n next.some told) one.made
    ∙ ap (λ b. reasons_text before.window (before.made + 1) b told) one.some in
    record {
      told = record { pick = pick; outcome = what; reason = one.piece.reason } ∷ told;
      are = ap (λ l. (pick, what) ∷ l) more.are;
      made = omega (arith, more.made, one.made);
      plain = both_plain first others one.piece.plain (subst ArePlain rest more.plain);
      wrote = wrote_then one.piece.wrote (subst (Wrote next.device after.device) rest more.wrote);
    }

parts_reasoned : {Maker : Type 0} {takes : Maker → List (Pick × Outcome) → Maker → Type 0} (spot : Maker → Spot)
    (each : (a : Maker) (steps : Steps) (b : Maker) → takes a steps b → ReasonsEach (spot a) steps (spot b))
    (parts : List (List (Pick × Outcome))) (a b : Maker) →
    PartsLead takes a parts b → HasReasons (spot a) (steps_in parts) (spot b)
parts_reasoned {Maker} {takes} spot each [] a b h = none (spot a) (spot b) (ap spot h)
parts_reasoned {Maker} {takes} spot each (part ∷ parts) a b h =
    let one : ReasonsEach (spot a) part (spot h.0) = each a part h.0 h.1 in
    let more : HasReasons (spot h.0) (steps_in parts) (spot b) = parts_reasoned spot each parts h.0 b h.2 in
    subst (λ (l : List (Pick × Outcome)). HasReasons (spot a) (l ++ steps_in parts) (spot b)) (sym one.2)
    (one_more (spot a) (spot h.0) (spot b) one.0 one.1 (steps_in parts) one.3 more)

parts_made : {Maker : Type 0} {takes : Maker → List (Pick × Outcome) → Maker → Type 0} (spot : Maker → Spot)
    (each : (a : Maker) (steps : Steps) (b : Maker) → takes a steps b → ReasonsEach (spot a) steps (spot b))
    (parts : List (List (Pick × Outcome))) (a b : Maker) → PartsLead takes a parts b →
    PartsLead AreMachineSteps (spot a).machine parts (spot b).machine
parts_made {Maker} {takes} spot each [] a b h = ap (λ (m : Maker). (spot m).machine) h
parts_made {Maker} {takes} spot each (part ∷ parts) a b h =
    let one : ReasonsEach (spot a) part (spot h.0) = each a part h.0 h.1 in
    let next : Machine = (spot h.0).machine in (
      next,
      subst (λ (l : List (Pick × Outcome)). AreMachineSteps (spot a).machine l next) (sym one.2) one.3.step,
      parts_made spot each parts h.0 b h.2,
    )

-- the reasons of all steps that a walk made, and the machine that made them
pub record AllReasoned (before : Spot) (steps : List (Pick × Outcome)) (after : Spot) : Type 0 where
  pub reasons : HasReasons before steps after
  pub leads : Leads AreMachineSteps before.machine steps after.machine

pub all_reasoned : {Maker : Type 0} {takes : Maker → List (Pick × Outcome) → Maker → Type 0} (spot : Maker → Spot)
    (each : (a : Maker) (steps : Steps) (b : Maker) → takes a steps b → ReasonsEach (spot a) steps (spot b))
    (steps : List (Pick × Outcome)) (a b : Maker) → Leads takes a steps b → AllReasoned (spot a) steps (spot b)
all_reasoned {Maker} {takes} spot each steps a b h = record {
  reasons = subst (λ (l : List (Pick × Outcome)). HasReasons (spot a) l (spot b)) h.1
      (parts_reasoned spot each h.0 a b h.2);
  leads = (h.0, h.1, parts_made spot each h.0 a b h.2);
}

-- those of a whole run, between the beginning and the end of their object
pub reasons_written : (stretch : Stretch) (steps : List (Pick × Outcome)) (before after : Spot) (first last : Device) →
    AreOf stretch.course.now (picks_made steps) →
    IsRunOf stretch.setup.now.program stretch.setup.now.limits [] before.machine →
    before.window ≡ stretch.window → before.made ≡ 0 → before.some ≡ false →
    AllReasoned before steps after → after.made ≡ stretch.total →
    Wrote first before.device (codes ",\n\"why\":{") → Wrote after.device last (codes "}}") →
    (text : List ℕ) × AreReasonsOf stretch text × Wrote first last text
reasons_written stretch steps before after first last course opens window made some all total begun ended =
    let told : List ReasonedStep = all.reasons.told in
    let program = stretch.setup.now.program in
    let limits = stretch.setup.now.limits in
    let reasons : List ℕ = reasons_text stretch.window 0 false told in
    let same : reasons_text before.window before.made before.some told ≡ reasons =
    ap (λ (w : Window). reasons_text w before.made before.some told) window
    ∙ ap (λ n. reasons_text stretch.window n before.some told) made
    ∙ ap (λ b. reasons_text stretch.window 0 b told) some in
    let run : IsRunOf program limits steps after.machine =
    run_of_all program limits steps before.machine after.machine opens all.leads in
    let begin : List ℕ = codes ",\n\"why\":{" in
    let end : List ℕ = codes "}}" in (
      begin ++ (reasons ++ end),
      record {
        told = told;
        course = subst (λ (l : List (Pick × Outcome)). AreOf stretch.course.now (picks_made l))
            (sym all.reasons.are) course;
        total = omega (arith, all.reasons.made, made, total);
        machine = after.machine;
        ran = subst (λ (l : List (Pick × Outcome)). IsRunOf program limits l after.machine) (sym all.reasons.are) run;
        plain = both_plain begin (reasons ++ end) refl
            (both_plain reasons end (subst ArePlain same all.reasons.plain) refl);
        is = refl;
      },
      wrote_then begun (wrote_then (subst (Wrote before.device after.device) same all.reasons.wrote) ended),
    )

-- ---- one step

-- whose reason does not stand in the page
pub none_told : (window : Window) (made : ℕ) (some : Bool) (what : Outcome) (a : Device) →
    is_told window made what ≡ false → IsPiece window made some what a a
none_told window made some what a e =
    let is : piece_text window made some what [] ≡ [] =
    ap (λ t. if t then reason_text some (made + 1 - window.from) [] else []) e in
    record {
      reason = [];
      plain = subst ArePlain (sym is) refl;
      wrote = subst (Wrote a a) (sym is) (wrote_none a);
    }

-- whose reason does, under the number of its step
pub one_told : (window : Window) (made step : ℕ) (some : Bool) (what : Outcome) (reason : List ℕ) (a b : Device) →
    is_told window made what ≡ true → step ≡ made + 1 - window.from →
    ArePlain (reason_text some step reason) → Wrote a b (reason_text some step reason) →
    IsPiece window made some what a b
one_told window made step some what reason a b e number plain wrote =
    let is : reason_text some step reason ≡ piece_text window made some what reason =
    ap (λ n. reason_text some n reason) number
    ∙ sym (ap (λ t. if t then reason_text some (made + 1 - window.from) reason else []) e) in
    record {
      reason = reason;
      plain = subst ArePlain is plain;
      wrote = subst (Wrote a b) is wrote;
    }

pub or_false : (some told : Bool) → told ≡ false → some ≡ (some || told)
or_false true told e = refl
or_false false told e = sym e

pub or_true : (some told : Bool) → told ≡ true → true ≡ (some || told)
or_true true told e = refl
or_true false told e = sym e
