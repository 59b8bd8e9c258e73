-- A text of runs that is written as its steps come.
use Rattle.std.proofs.Common.{map, ◌≡◌, ℕ, ◌+◌, ◌%◌, ◌==◌, ◌&&◌, Bool, true, false, List, [], ◌∷◌, ◌++◌, refl, sym, ◌∙◌}
use Rattle.std.proofs.Common.{ap, subst, append_assoc, Option, Some, None}
use Rattle.std.specs.Prelude.{Result, IsErr, cond, nat_lt}
use Rattle.text_out.specs.TextLine.{line_end}
use Rattle.text_out.specs.Writing.{Device, Wrote, Stopped, Writes, Ahead}
use Rattle.text_out.proofs.Writing.{wrote_then, stopped_then, stopped_first, writes_err, writes_then}
use Rattle.tm_model.specs.declared.outcome.Pick.{Pick}
use Rattle.tm_schedule.specs.Picks.{is_same}
use Rattle.tm_schedule.specs.declared.schedule.runs.Run.{Run}
use Rattle.tm_schedule.specs.ScheduleRuns.{once, run_with, run_word, runs_behind}
use Rattle.tm_schedule.specs.ScheduleWords.{words_text}
use Rattle.tm_schedule.specs.ScheduleWriting.{runs_left}
use Rattle.tm_schedule.proofs.RunsOf.{behind_more}

-- the words of a run that has begun, if any, and of steps that are to come
abbrev pub words_left : ℕ → Option Run → List Pick → List ℕ
words_left column run picks = words_text 16 column (map run_word (runs_left run picks))

-- the first step
pub first_left : (column : ℕ) (run : Option Run) (pick : Pick) → run ≡ None
    → (rest : List Pick) → words_left column run (pick ∷ rest) ≡ words_left column (Some (once pick)) rest
first_left column run pick e rest = ap (λ (r : Option Run). words_left column r (pick ∷ rest)) e

some_if : (b : Bool) (x y : Run) → cond b (Some x) None ≡ Some y → (b ≡ true) × (x ≡ y)
some_if true x y h = (refl, cc)
some_if false x y h = absurd (cc)

none_if : (b : Bool) (x : Run) → cond b (Some x) None ≡ None → b ≡ false
none_if true x h = absurd (cc)
none_if false x h = refl

abbrev more : Run → Run
more run = record { pick = run.pick; count = run.count + 1 }

-- the words of a run and a step, by whether that belongs to it
abbrev words_if : ℕ → Run → Pick → List Pick → Bool → List ℕ
words_if column run pick rest b =
    words_text 16 column (map run_word (cond b (runs_behind (more run) rest) (run ∷ runs_behind (once pick) rest)))

-- a step that belongs to the run
pub longer_left : (column : ℕ) (run longer : Run) (pick : Pick) → run_with run pick ≡ Some longer → (rest : List Pick) →
    words_left column (Some run) (pick ∷ rest) ≡ words_left column (Some longer) rest
longer_left column run longer pick e rest =
    let parts = some_if (is_same pick run.pick && nat_lt run.count 16777216) (more run) longer e in
    ap (words_if column run pick rest) parts.0 ∙ ap (λ (r : Run). words_left column (Some r) rest) parts.1

-- a step that ends it
pub ended_left : (column : ℕ) (run : Run) (pick : Pick) (behind : List ℕ) → run_with run pick ≡ None
    → behind ≡ cond (column + 1 == 16) line_end (32 ∷ []) → (rest : List Pick) →
    words_left column (Some run) (pick ∷ rest)
    ≡ run_word run ++ behind ++ words_left ((column + 1) % 16) (Some (once pick)) rest
ended_left column run pick behind e same rest =
    ap (words_if column run pick rest) (none_if (is_same pick run.pick && nat_lt run.count 16777216) (more run) e)
    ∙ ap (λ text. run_word run ++ text ++ words_left ((column + 1) % 16) (Some (once pick)) rest)
    (behind_more column (once pick) rest ∙ sym same)

-- ---- a list

-- one more step of it was taken
pub step_written : {a b c : Device} {whole before bytes after : List ℕ} → before ≡ bytes ++ after
    → Ahead a b whole before → Wrote b c bytes → Ahead a c whole after
step_written {a} {b} {c} {whole} {before} {bytes} {after} e h w = record {
  front = h.front ++ bytes;
  split = h.split ∙ ap (λ text. h.front ++ text) e ∙ sym (append_assoc h.front bytes after);
  wrote = wrote_then h.wrote w;
}

pub step_stopped : {T E : Type 0} {a b c : Device} {whole before bytes : List ℕ} (after : List ℕ) (r : Result T E)
    → IsErr r → before ≡ bytes ++ after → Ahead a b whole before → Stopped b c bytes →
    Writes a c whole r
step_stopped {T} {E} {a} {b} {c} {whole} {before} {bytes} after r failed e h s =
    writes_err whole r failed
    (subst (λ (text : List ℕ). Stopped a c text) (sym (h.split ∙ ap (λ text. h.front ++ text) e))
    (stopped_then h.wrote (stopped_first after s)))

-- all were
pub steps_ended : {T E : Type 0} {a b : Device} {whole left last : List ℕ} (c : Device) (r : Result T E) → left ≡ last
    → Ahead a b whole left → Writes b c last r → Writes a c whole r
steps_ended {T} {E} {a} {b} {whole} {left} {last} c r e h w =
    subst (λ (text : List ℕ). Writes a c text r) (sym (h.split ∙ ap (λ text. h.front ++ text) e))
    (writes_then c last r h.wrote w)
