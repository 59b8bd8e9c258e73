-- The runs of a list are the list.
use Rattle.std.proofs.Common.{map, ◌≡◌, ℕ, ◌+◌, ◌≤◌, ◌==◌, ◌&&◌, Bool, true, false, List, [], ◌∷◌, ◌++◌, refl, sym, ◌∙◌}
use Rattle.std.proofs.Common.{ap, arith, append_assoc}
use Rattle.std.specs.Prelude.{cond, nat_lt}
use Rattle.std.specs.List.{AllByRecursion, flat_map}
use Rattle.std.proofs.lemmas.Bool.{ltb-true, ltb-false}
use Rattle.std.proofs.lemmas.List.{replicate_more}
use Rattle.tm_model.specs.declared.outcome.Pick.{Pick}
use Rattle.tm_schedule.specs.Picks.{is_same}
use Rattle.tm_schedule.specs.declared.schedule.picks.Form.{Form}
use Rattle.tm_schedule.specs.declared.schedule.runs.Run.{Run}
use Rattle.text_out.specs.TextLine.{line_end}
use Rattle.tm_schedule.specs.ScheduleRuns.{run_steps, once, runs_behind, runs_of, AreLongest, run_word}
use Rattle.tm_schedule.specs.ScheduleWords.{behind_word}
use Rattle.tm_schedule.proofs.WordsBack.{by_test}
use Rattle.tm_schedule.proofs.Counts.{both}
use Rattle.tm_schedule.proofs.PicksBack.{Fits, same_pick, pick_same}
use Rattle.tm_schedule.proofs.ListsBack.{AllFit}

-- a run of a step that a form can say, of 1 to 16,777,216 steps
pub record IsRun (form : Form) (run : Run) : Type 0 where
  pub pick : Fits form run.pick
  pub some : 1 ≤ run.count
  pub few : run.count ≤ 16777216

abbrev pub AreRuns : Form → List Run → Type 0
AreRuns form runs = AllByRecursion (IsRun form) runs

steps_behind : (run : Run) (picks : List Pick) → flat_map run_steps (runs_behind run picks) ≡ run_steps run ++ picks
steps_behind run [] = refl
steps_behind run (pick ∷ picks) =
    by_test (λ runs. flat_map run_steps runs ≡ run_steps run ++ pick ∷ picks)
    (is_same pick run.pick && nat_lt run.count 16777216) _ _
    (λ e. let same = same_pick pick run.pick (both (is_same pick run.pick) (nat_lt run.count 16777216) e).0 in
    steps_behind (record { pick = run.pick; count = run.count + 1 }) picks
    ∙ ap (λ steps. steps ++ picks) (sym (replicate_more run.count run.pick))
    ∙ append_assoc (run_steps run) (run.pick ∷ []) picks
    ∙ ap (λ p. run_steps run ++ p ∷ picks) (sym same))
    (λ e. ap (λ steps. run_steps run ++ steps) (steps_behind (once pick) picks))

pub runs_steps : (picks : List Pick) → flat_map run_steps (runs_of picks) ≡ picks
runs_steps [] = refl
runs_steps (pick ∷ picks) = steps_behind (once pick) picks

are_behind : (form : Form) (run : Run) (picks : List Pick) → IsRun form run → AllFit form picks
    → AreRuns form (runs_behind run picks)
are_behind form run [] r h = (r, tt)
are_behind form run (pick ∷ picks) r h =
    by_test (AreRuns form) (is_same pick run.pick && nat_lt run.count 16777216) _ _
    (λ e. let room = ltb-true run.count 16777216 (both (is_same pick run.pick) (nat_lt run.count 16777216) e).1 in
    are_behind form (record { pick = run.pick; count = run.count + 1 }) picks
    (record { pick = r.pick; some = omega arith; few = omega arith }) h.1)
    (λ e. (r, are_behind form (once pick) picks (record { pick = h.0; some = omega arith; few = omega arith }) h.1))

pub are_runs : (form : Form) (picks : List Pick) → AllFit form picks → AreRuns form (runs_of picks)
are_runs form [] h = tt
are_runs form (pick ∷ picks) h =
    are_behind form (once pick) picks (record { pick = h.0; some = omega arith; few = omega arith }) h.1

second : (a b : Bool) → (a && b) ≡ false → a ≡ true → b ≡ false
second true b e h = e
second false b e h = absurd (cc)

-- a run that doesn't go on has another step behind it, or the most steps
full : (run : Run) (pick : Pick) → run.count ≤ 16777216 → (is_same pick run.pick && nat_lt run.count 16777216) ≡ false
    → run.pick ≡ pick → run.count ≡ 16777216
full run pick few e same =
    let most = ltb-false run.count 16777216
    (second (is_same pick run.pick) (nat_lt run.count 16777216) e (pick_same pick run.pick (sym same))) in
    omega arith

longest_then : (run next : Run) (picks : List Pick) → (run.pick ≡ next.pick → run.count ≡ 16777216)
    → AreLongest (runs_behind next picks) →
    AreLongest (run ∷ runs_behind next picks)
longest_then run next [] stops = λ h. (stops, h)
longest_then run next (pick ∷ picks) stops =
    by_test (λ runs. AreLongest runs → AreLongest (run ∷ runs))
    (is_same pick next.pick && nat_lt next.count 16777216) _ _
    (λ e. longest_then run (record { pick = next.pick; count = next.count + 1 }) picks stops)
    (λ e h. (stops, h))

longest_from : (run : Run) (picks : List Pick) → run.count ≤ 16777216 → AreLongest (runs_behind run picks)
longest_from run [] few = tt
longest_from run (pick ∷ picks) few =
    by_test AreLongest (is_same pick run.pick && nat_lt run.count 16777216) _ _
    (λ e. let room = ltb-true run.count 16777216 (both (is_same pick run.pick) (nat_lt run.count 16777216) e).1 in
    longest_from (record { pick = run.pick; count = run.count + 1 }) picks (omega arith))
    (λ e. longest_then run (once pick) picks (full run pick few e) (longest_from (once pick) picks (omega arith)))

pub are_longest : (picks : List Pick) → AreLongest (runs_of picks)
are_longest [] = tt
are_longest (pick ∷ picks) = longest_from (once pick) picks (omega arith)

-- what stands behind a word that is not the last
pub behind_more : (column : ℕ) (run : Run) (picks : List Pick)
    → behind_word 16 column (map run_word (runs_behind run picks)) ≡ cond (column + 1 == 16) line_end (32 ∷ [])
behind_more column run [] = refl
behind_more column run (pick ∷ picks) =
    by_test (λ runs. behind_word 16 column (map run_word runs) ≡ cond (column + 1 == 16) line_end (32 ∷ []))
    (is_same pick run.pick && nat_lt run.count 16777216) _ _
    (λ e. behind_more column (record { pick = run.pick; count = run.count + 1 }) picks)
    (λ e. refl)
