-- The lines of steps, one step after another.
use Rattle.std.proofs.Common.{◌≡◌, ◌∙◌, ℕ, zero, suc, ◌+◌, ◌-◌, ◌<◌, ◌≤◌, true, false, List, [], ◌∷◌, ◌++◌, ◌&&◌}
use Rattle.std.proofs.Common.{ap, append_assoc, arith, drop, length, length-append, refl, sym, subst}
use Rattle.std.proofs.Common.{zero-add, ⊎_elim}
use Rattle.std.proofs.lemmas.Bool.{cases_eq, cases_lt, eq-eqb, le-leb, lt-leb, lt-ltb, ne_eqb}
use Rattle.std.proofs.lemmas.List.{length-map}
use Rattle.std.proofs.lemmas.List.Folds.{list_all-append}
use Rattle.std.specs.List.{list_all}
use Rattle.std.specs.Prelude.{codes, map, nat_eq, nat_le, nat_lt, if◌then◌else◌}
use Rattle.text_out.proofs.Writing.{wrote_none, wrote_then}
use Rattle.text_out.specs.Writing.{Device, Wrote}
use Rattle.tm_model.specs.declared.outcome.Outcome.{Outcome}
use Rattle.tm_model.specs.declared.outcome.Pick.{Pick}
use Rattle.elide_setup.specs.Runs.{IsRunOf}
use Rattle.elide_setup.specs.Schedules.{AreOf, picks_made}
use Rattle.tm_core.specs.Theorem.{ShownMachine as Machine}
use Rattle.elide_setup.specs.Walks.{Leads, PartsLead, steps_in}
use Rattle.page_run.specs.Plain.{ArePlain, WrotePlain, is_unmarked}
use Rattle.page_run.specs.declared.stretch.Stretch.{Stretch}
use Rattle.page_run.specs.declared.window.Window.{Window}
use Rattle.page_telling.proofs.Knowing.{IsKnown, known_behind, told_step}
use Rattle.page_telling.specs.Telling.{IsPiece, Spot, Tells, TellsOne, TellsStep, piece_of}
use Rattle.page_telling.specs.Told.{AreLinesWritten, AreStepsTold, ToldStep, line_text, lines_text}

-- ---- steps one by one

abbrev pub AllTell : Spot → List (Pick × Outcome) → Spot → Type 0
AllTell before [] after = after ≡ before
AllTell before (step ∷ steps) after = (next : Spot) × TellsStep before step next × AllTell next steps after

parts_tell : {Maker : Type 0} {takes : Maker → List (Pick × Outcome) → Maker → Type 0} (spot : Maker → Spot)
    (each : (a : Maker) (steps : List (Pick × Outcome)) (b : Maker) → takes a steps b → Tells (spot a) steps (spot b))
    (parts : List (List (Pick × Outcome))) (a b : Maker) → PartsLead takes a parts b
    → AllTell (spot a) (steps_in parts) (spot b)
parts_tell {Maker} {takes} spot each [] a b h = ap spot h
parts_tell {Maker} {takes} spot each (part ∷ parts) a b h =
    let one : Tells (spot a) part (spot h.0) = each a part h.0 h.1 in
    subst (λ (l : List (Pick × Outcome)). AllTell (spot a) (l ++ steps_in parts) (spot b)) (sym one.1)
    (spot h.0, one.2, parts_tell spot each parts h.0 b h.2)

pub all_tell : {Maker : Type 0} {takes : Maker → List (Pick × Outcome) → Maker → Type 0} (spot : Maker → Spot)
    (each : (a : Maker) (steps : List (Pick × Outcome)) (b : Maker) → takes a steps b → Tells (spot a) steps (spot b))
    (steps : List (Pick × Outcome)) (a b : Maker) → Leads takes a steps b → AllTell (spot a) steps (spot b)
all_tell {Maker} {takes} spot each steps a b h =
    subst (λ (l : List (Pick × Outcome)). AllTell (spot a) l (spot b)) h.1 (parts_tell spot each h.0 a b h.2)

-- ---- behind the last that stands in the page

record Passed (before : Spot) (count : ℕ) (after : Spot) : Type 0 where
  pub device : after.device ≡ before.device
  pub made : after.made ≡ before.made + count

passed : (before : Spot) (steps : List (Pick × Outcome)) (after : Spot) → before.window.to ≤ before.made →
    AllTell before steps after → Passed before (length steps) after
passed before [] after past h =
    record { device = ap (λ (s : Spot). s.device) h; made = ap (λ (s : Spot). s.made) h ∙ sym (omega arith) }
passed before (step ∷ steps) after past h =
    let one = h.1 in
    let next : Spot = h.0 in
    let to : next.window.to ≡ before.window.to = ap (λ (w : Window). w.to) one.window in
    let more : Passed next (length steps) after = passed next steps after (omega (arith, to, one.made, past)) h.2 in
    record {
      device = more.device ∙ one.behind past;
      made = omega (arith, more.made, one.made);
    }

-- ---- lines

abbrev lines_from : Window → ℕ → List ToldStep → List ℕ
lines_from window made told = lines_text (nat_le made window.from) (drop (window.from - made) told)

-- of steps behind so many others those that stand in the page have their lines, behind what opens it
pub record HasLines (window : Window) (made : ℕ) (told : List ToldStep) (first last : Device) : Type 0 where
  pub opening : List ℕ
  pub none : window.from ≤ made → opening ≡ []
  pub plain : ArePlain (opening ++ lines_from window made told)
  pub wrote : Wrote first last (opening ++ lines_from window made told)

pub both_plain : (x y : List ℕ) → ArePlain x → ArePlain y → ArePlain (x ++ y)
both_plain x y h k = list_all-append is_unmarked x y ∙ ap (λ t. t && list_all is_unmarked y) h ∙ k

no_lines : (window : Window) (made : ℕ) → [] ≡ lines_from window made []
no_lines window made = on (window.from - made)
  where
    on : (n : ℕ) → [] ≡ lines_text (nat_le made window.from) (drop n [])
    on zero = refl
    on (suc n) = refl

wrote_no_lines : (window : Window) (made : ℕ) (a b : Device) → b ≡ a → HasLines window made [] a b
wrote_no_lines window made a b same = record {
  opening = [];
  none = λ _. refl;
  plain = subst ArePlain (no_lines window made) refl;
  wrote = subst (Wrote a b) (no_lines window made) (subst (λ (d : Device). Wrote a d []) (sym same) (wrote_none a));
}

le_is_eq : (a b : ℕ) → b ≤ a → nat_le a b ≡ nat_eq a b
le_is_eq a b h =
    ⊎_elim (λ (e : a ≡ b). le-leb a b (omega arith) ∙ sym (eq-eqb a b e))
    (λ (e : a ≡ b → ⊥).
    lt-leb a b (⊎_elim (λ (f : b < a). f) (λ (f : a ≤ b). absurd (e (omega (arith, f, h)))) (cases_lt b a))
    ∙ sym (ne_eqb a b e))
    (cases_eq a b)

nothing : (made from : ℕ) → from ≤ made → 0 ≡ from - made
nothing made from h = omega arith

-- one that stands in the page
line_then : (window : Window) (made : ℕ) (one : ToldStep) (told : List ToldStep) (a b c : Device) →
    window.from ≤ made → made < window.to → IsPiece window made one a b → HasLines window (made + 1) told b c
    → HasLines window made (one ∷ told) a c
line_then window made one told a b c from to piece more =
    let line : List ℕ = line_text (nat_eq made window.from) one.delta one.before in
    let tests : (nat_le window.from made && nat_lt made window.to) ≡ true =
    ap (λ t. t && nat_lt made window.to) (le-leb window.from made from) ∙ lt-ltb made window.to to in
    let is : piece_of window made one piece.opening ≡ line = ap (λ t. if t then line else piece.opening) tests in
    let rest : more.opening ++ lines_from window (made + 1) told ≡ lines_text false told =
    ap (λ l. l ++ lines_from window (made + 1) told) (more.none (omega arith))
    ∙ ap (λ t. lines_text t (drop (window.from - (made + 1)) told)) (lt-leb (made + 1) window.from (omega arith))
    ∙ ap (λ n. lines_text false (drop n told)) (sym (nothing (made + 1) window.from (omega arith))) in
    let all : line ++ lines_text false told ≡ lines_from window made (one ∷ told) =
    ap (λ t. line_text t one.delta one.before ++ lines_text false told) (sym (le_is_eq made window.from from))
    ∙ ap (λ n. lines_text (nat_le made window.from) (drop n (one ∷ told))) (nothing made window.from from) in
    record {
      opening = [];
      none = λ _. refl;
      plain = subst ArePlain all
          (both_plain line (lines_text false told) (subst ArePlain is piece.plain) (subst ArePlain rest more.plain));
      wrote = subst (Wrote a c) all (wrote_then (subst (Wrote a b) is piece.wrote) (subst (Wrote b c) rest more.wrote));
    }

-- one before the first that does
opening_then : (window : Window) (made : ℕ) (one : ToldStep) (told : List ToldStep) (a b c : Device) →
    made < window.from → IsPiece window made one a b → HasLines window (made + 1) told b c
    → HasLines window made (one ∷ told) a c
opening_then window made one told a b c before piece more =
    let line : List ℕ = line_text (nat_eq made window.from) one.delta one.before in
    let tests : (nat_le window.from made && nat_lt made window.to) ≡ false =
    ap (λ t. t && nat_lt made window.to) (lt-leb window.from made before) in
    let is : piece_of window made one piece.opening ≡ piece.opening =
    ap (λ t. if t then line else piece.opening) tests in
    let all :
    piece.opening ++ (more.opening ++ lines_from window (made + 1) told)
    ≡ (piece.opening ++ more.opening) ++ lines_from window made (one ∷ told) =
    ap (λ l. piece.opening ++ (more.opening ++ l))
    (ap (λ t. lines_text t (drop (window.from - (made + 1)) told))
    (le-leb (made + 1) window.from (omega arith) ∙ sym (le-leb made window.from (omega arith)))
    ∙ ap (λ n. lines_text (nat_le made window.from) (drop n (one ∷ told))) (less made window.from before))
    ∙ sym (append_assoc piece.opening more.opening (lines_from window made (one ∷ told))) in
    record {
      opening = piece.opening ++ more.opening;
      none = λ h. absurd (omega arith);
      plain = subst ArePlain all (both_plain piece.opening (more.opening ++ lines_from window (made + 1) told)
          (subst ArePlain is piece.plain) more.plain);
      wrote = subst (Wrote a c) all (wrote_then (subst (Wrote a b) is piece.wrote) more.wrote);
    }
  where
    less : (m n : ℕ) → m < n → suc (n - (m + 1)) ≡ n - m
    less m n h = omega arith

lines_then : (window : Window) (made : ℕ) (one : ToldStep) (told : List ToldStep) (a b c : Device) →
    made < window.to → IsPiece window made one a b → HasLines window (made + 1) told b c
    → HasLines window made (one ∷ told) a c
lines_then window made one told a b c to piece more =
    ⊎_elim (λ (h : made < window.from). opening_then window made one told a b c h piece more)
    (λ (h : window.from ≤ made). line_then window made one told a b c h to piece more)
    (cases_lt made window.from)

-- ---- all

-- what a machine that is told has come to from a spot on
pub record HasTold (before : Spot) (steps : List (Pick × Outcome)) (after : Spot) : Type 0 where
  pub told : List ToldStep
  pub behind : List Pick
  pub picks : picks_made steps ≡ map (λ (one : ToldStep). one.pick) told ++ behind
  pub total : after.made ≡ before.made + (length told + length behind)
  pub count : before.made ≤ before.window.to → before.window.to ≤ after.made
      → before.made + length told ≡ before.window.to
  pub last : Machine
  pub chain : AreStepsTold before.machine told last
  pub lines : HasLines before.window before.made told before.device after.device

-- a step up to the last that stands in the page, and those behind it
tells_then : (before : Spot) (step : Pick × Outcome) (steps : List (Pick × Outcome)) (next after : Spot)
    → before.made < before.window.to →
    IsKnown before.machine before.kept → TellsStep before step next
    → (IsKnown next.machine next.kept → HasTold next steps after) → HasTold before (step ∷ steps) after
tells_then before step steps next after within known tells others =
    let one : TellsOne before step next = tells.told within in
    let more : HasTold next steps after =
    others (known_behind before.machine next.machine before.kept next.kept one.told one.made known) in
    let to : next.window.to ≡ before.window.to = ap (λ (w : Window). w.to) tells.window in
    let lines : HasLines before.window (before.made + 1) more.told next.device after.device =
    subst (λ (w : Window). HasLines w (before.made + 1) more.told next.device after.device) tells.window
    (subst (λ (n : ℕ). HasLines next.window n more.told next.device after.device) tells.made more.lines) in
    record {
      told = one.told ∷ more.told;
      behind = more.behind;
      picks = ap (λ (made : Pick × Outcome). made.0 ∷ picks_made steps) (sym one.is)
          ∙ ap (λ l. one.told.pick ∷ l) more.picks;
      total = omega (arith, more.total, tells.made);
      count = λ few all. let is = more.count (omega (arith, to, tells.made, within)) (omega (arith, to, all)) in
          omega (arith, is, to, tells.made);
      last = more.last;
      chain = (
        next.machine,
        told_step before.machine next.machine before.kept next.kept one.told one.made known,
        more.chain,
      );
      lines = lines_then before.window before.made one.told more.told before.device next.device after.device within
          one.piece lines;
    }

-- those behind it
passes_all : (before : Spot) (steps : List (Pick × Outcome)) (after : Spot) → before.window.to ≤ before.made →
    AllTell before steps after → HasTold before steps after
passes_all before steps after past h =
    let all : Passed before (length steps) after = passed before steps after past h in
    record {
      told = [];
      behind = picks_made steps;
      picks = refl;
      total = all.made
          ∙ ap (λ n. before.made + n)
          (sym (length-map steps (λ (made : Pick × Outcome). made.0)) ∙ sym (zero-add (length (picks_made steps))));
      count = λ few reached. omega (arith, few, past);
      last = before.machine;
      chain = refl;
      lines = wrote_no_lines before.window before.made before.device after.device all.device;
    }

pub has_told : (before : Spot) (steps : List (Pick × Outcome)) (after : Spot) →
    IsKnown before.machine before.kept → AllTell before steps after → HasTold before steps after
has_told before [] after known h = record {
  told = [];
  behind = [];
  picks = refl;
  total = ap (λ (s : Spot). s.made) h ∙ sym (omega arith);
  count = λ few reached. omega (arith, few, reached, ap (λ (s : Spot). s.made) h);
  last = before.machine;
  chain = refl;
  lines = wrote_no_lines before.window before.made before.device after.device (ap (λ (s : Spot). s.device) h);
}
has_told before (step ∷ steps) after known h =
    ⊎_elim
    (λ (within : before.made < before.window.to). tells_then before step steps h.0 after within known h.1
    (λ knows. has_told h.0 steps after knows h.2))
    (λ (past : before.window.to ≤ before.made). passes_all before (step ∷ steps) after past h)
    (cases_lt before.made before.window.to)

-- ---- a run

count_picks : (before : Spot) (steps : List (Pick × Outcome)) (after : Spot) (all : HasTold before steps after)
    → before.made ≡ 0 →
    length (picks_made steps) ≡ after.made
count_picks before steps after all none =
    ap length all.picks
    ∙ length-append (map (λ (one : ToldStep). one.pick) all.told) all.behind
    ∙ ap (λ n. n + length all.behind) (length-map all.told (λ (one : ToldStep). one.pick))
    ∙ sym (omega (arith, all.total, none))

-- what opens the page, the lines, and the end of their list, one behind the other
pub lines_written : (stretch : Stretch) (steps : List (Pick × Outcome)) (before after : Spot) (first last : Device) →
    AreOf stretch.course.now (picks_made steps)
    → IsRunOf stretch.setup.now.program stretch.setup.now.limits [] before.machine →
    before.made ≡ 0 → before.window ≡ stretch.window → WrotePlain first before.device → HasTold before steps after →
    after.made ≡ stretch.total → stretch.window.to ≤ after.made → Wrote after.device last (codes "]")
    → AreLinesWritten stretch first last
lines_written stretch steps before after first last course opens none window opening all total reached end =
    let window_from : before.window.from ≡ stretch.window.from = ap (λ (w : Window). w.from) window in
    let window_to : before.window.to ≡ stretch.window.to = ap (λ (w : Window). w.to) window in
    let text : List ℕ = lines_text true (drop stretch.window.from all.told) in
    let lines : lines_from before.window before.made all.told ≡ text =
    ap (λ t. lines_text t (drop (before.window.from - before.made) all.told))
    (le-leb before.made before.window.from (omega (arith, none)))
    ∙ ap (λ n. lines_text true (drop n all.told)) (omega (arith, none, window_from)) in
    let joined :
    opening.text ++ ((all.lines.opening ++ text) ++ codes "]")
    ≡ (opening.text ++ all.lines.opening) ++ (text ++ codes "]") =
    ap (λ l. opening.text ++ l) (append_assoc all.lines.opening text (codes "]"))
    ∙ sym (append_assoc opening.text all.lines.opening (text ++ codes "]")) in
    let plain : ArePlain (all.lines.opening ++ text) =
    subst (λ l. ArePlain (all.lines.opening ++ l)) lines all.lines.plain in
    let wrote : Wrote before.device after.device (all.lines.opening ++ text) =
    subst (λ l. Wrote before.device after.device (all.lines.opening ++ l)) lines all.lines.wrote in
    record {
      picks = picks_made steps;
      course = course;
      total = count_picks before steps after all none ∙ total;
      told = all.told;
      run = record {
        behind = all.behind;
        all = sym all.picks;
        count = omega (arith, all.count (omega (arith, none)) (omega (arith, reached, window_to)), none, window_to);
        start = before.machine;
        opens = opens;
        last = all.last;
        chain = all.chain;
      };
      opening = opening.text ++ all.lines.opening;
      plain = subst ArePlain joined (both_plain opening.text ((all.lines.opening ++ text) ++ codes "]") opening.plain
          (both_plain (all.lines.opening ++ text) (codes "]") plain refl));
      wrote = subst (Wrote first last) joined (wrote_then opening.wrote (wrote_then wrote end));
    }
