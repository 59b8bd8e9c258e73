-- A list that is written as runs reads as that list.
use Rattle.std.proofs.Common.{◌≡◌, ℕ, suc, ◌+◌, ◌<◌, ◌≤◌, ◌==◌, Bool, true, false, List, [], ◌∷◌, ◌++◌, refl, sym, ◌∙◌}
use Rattle.std.proofs.Common.{ap, arith, length, drop, map, Some, None, Ok}
use Rattle.std.specs.Prelude.{cond, nat_lt, option_map}
use Rattle.std.specs.Char.{digit_char, digit_value, is_ascii_digit}
use Rattle.std.specs.Int.Digits.{digits_of, number_from_digits}
use Rattle.std.specs.List.{AllByRecursion, flat_map, list_all, position, position_or_len}
use Rattle.std.specs.Str.Parse.{digits_value}
use Rattle.std.proofs.lemmas.Bool.{eqb-true, lt-ltb}
use Rattle.std.proofs.lemmas.Bool.Decides.{nat_tests}
use Rattle.std.proofs.lemmas.List.{length-map, length-append}
use Rattle.std.proofs.lemmas.Int.Digits.{all_below_base_digits_of, number_digits_of, digits_value_is}
use Rattle.std.proofs.lemmas.Int.Digits.{length-digits_of_step, length-digits_of-le}
use Rattle.ia_lex.specs.Lines.{lines_of}
use Rattle.tm_model.specs.declared.outcome.Pick.{Pick}
use Rattle.tm_schedule.specs.declared.schedule.picks.Form.{Form}
use Rattle.tm_schedule.specs.declared.schedule.picks.Form.TheVariants.{Cores, Picks}
use Rattle.tm_schedule.specs.declared.schedule.runs.Run.{Run}
use Rattle.tm_schedule.specs.Picks.{AreBytes, pick_in, pick_word, has_event}
use Rattle.tm_schedule.specs.ScheduleRuns.{run_steps, is_count, in_range, count_number, run_from, run_at, word_run}
use Rattle.tm_schedule.specs.ScheduleRuns.{word_steps, runs_of, count_text, run_word}
use Rattle.tm_schedule.specs.ScheduleWords.{steps_said, words_from, words_read, unless, words_text}
use Rattle.tm_schedule.specs.Schedule.{drawn_text, schedule_of, schedule_text}
use Rattle.tm_schedule.proofs.WordsBack.{Above, above_append, above_less, differs, by_test, AreWords, AreSaid}
use Rattle.tm_schedule.proofs.WordsBack.{words_back, fault_back, said_back}
use Rattle.tm_schedule.proofs.PicksBack.{pick_above, pick_long, pick_back, take_front}
use Rattle.tm_schedule.proofs.ListsBack.{AllFit, all_fit, plain_fit}
use Rattle.tm_schedule.proofs.RunsOf.{IsRun, AreRuns, runs_steps, are_runs}

-- ---- a count

abbrev Below : List ℕ → Type 0
Below ds = AllByRecursion (λ d. d < 10) ds

digit_back : (d : ℕ) → d < 10 → digit_value (digit_char d) ≡ d
digit_back d h = grind (arith, nat_tests)

digit_yes : (d : ℕ) → d < 10 → is_ascii_digit (digit_char d) ≡ true
digit_yes d h = grind (arith, nat_tests)

digit_above : (d : ℕ) → d < 10 → 42 < digit_char d
digit_above d h = grind (arith, nat_tests)

values_back : (ds : List ℕ) → Below ds → map digit_value (map digit_char ds) ≡ ds
values_back [] h = refl
values_back (d ∷ ds) h =
    ap (λ v. v ∷ map digit_value (map digit_char ds)) (digit_back d h.0) ∙ ap (λ v. d ∷ v) (values_back ds h.1)

digits_yes : (ds : List ℕ) → Below ds → list_all is_ascii_digit (map digit_char ds) ≡ true
digits_yes [] h = refl
digits_yes (d ∷ ds) h = rw (digit_yes d h.0) (digits_yes ds h.1)

digits_above : (ds : List ℕ) → Below ds → Above 42 (map digit_char ds)
digits_above [] h = tt
digits_above (d ∷ ds) h = (digit_above d h.0, digits_above ds h.1)

count_above : (n : ℕ) → Above 42 (count_text n)
count_above n = digits_above (digits_of 10 n) (all_below_base_digits_of 10 n (omega arith))

is_count_yes : (text : List ℕ) → 0 < length text → length text ≤ 8 → list_all is_ascii_digit text ≡ true
    → is_count text ≡ true
is_count_yes text some few digits = rw digits (grind (arith, nat_tests))

in_range_yes : (n : ℕ) → 1 ≤ n → n ≤ 16777216 → in_range n ≡ Some n
in_range_yes n some few = grind (arith, nat_tests)

count_back : (n : ℕ) → 1 ≤ n → n ≤ 16777216 → count_number (count_text n) ≡ Some n
count_back n some few =
    let ds = digits_of 10 n in
    let below = all_below_base_digits_of 10 n (omega arith) in
    let long = length-map ds digit_char in
    let longer = length-digits_of_step 10 n (omega arith) (omega arith) in
    let short = length-digits_of-le 10 8 n (omega arith) (omega arith) in
    let value : digits_value 10 (count_text n) ≡ n =
    digits_value_is 10 (count_text n) ∙ ap (number_from_digits 10) (values_back ds below)
    ∙ number_digits_of 10 n (omega arith) in
    rw (is_count_yes (count_text n) (omega arith) (omega arith) (digits_yes ds below))
    (ap in_range value ∙ in_range_yes n some few)

-- ---- a word

abbrev star : ℕ → Bool
star b = b == 42

first_nowhere : (xs : List ℕ) → Above 42 xs → position_or_len star xs ≡ length xs
first_nowhere [] h = refl
first_nowhere (x ∷ xs) h = rw (differs 42 42 x (omega arith) h.0, first_nowhere xs h.1) (omega arith)

first_at : (xs ys : List ℕ) → Above 42 xs → position_or_len star (xs ++ 42 ∷ ys) ≡ length xs
first_at [] ys h = refl
first_at (x ∷ xs) ys h = rw (differs 42 42 x (omega arith) h.0, first_at xs ys h.1) (omega arith)

found : (n size : ℕ) → n < size → cond (nat_lt n size) (Some n) None ≡ Some n
found n size h = rw (lt-ltb n size h)

not_above : (n most : ℕ) → n ≤ most → nat_lt most n ≡ false
not_above n most h = grind (arith, nat_tests)

star_none : (xs : List ℕ) → Above 42 xs → position star xs ≡ None
star_none xs h = ap (λ b. cond b (Some (position_or_len star xs)) None)
    (not_above (length xs) (position_or_len star xs) (let e = first_nowhere xs h in omega arith))

star_at : (xs ys : List ℕ) → Above 42 xs → position star (xs ++ 42 ∷ ys) ≡ Some (length xs)
star_at xs ys h =
    let e = first_at xs ys h in
    let long = length-append xs (42 ∷ ys) in
    found (position_or_len star (xs ++ 42 ∷ ys)) (length (xs ++ 42 ∷ ys)) (omega arith) ∙ ap Some e

drop_front : (xs : List ℕ) (y : ℕ) (ys : List ℕ) → drop (length xs + 1) (xs ++ y ∷ ys) ≡ ys
drop_front [] y ys = refl
drop_front (x ∷ xs) y ys =
    let e : length (x ∷ xs) + 1 ≡ suc (length xs + 1) = omega arith in
    ap (λ n. drop n (x ∷ (xs ++ y ∷ ys))) e ∙ drop_front xs y ys

run_back : (form : Form) (run : Run) → IsRun form run → word_run form (run_word run) ≡ Some run
unfolding run_word
run_back form run h = by_test (λ word. word_run form word ≡ Some run) (run.count == 1) _ _
    (λ e.
    let front = pick_word run.pick in
    let same = eqb-true run.count 1 e in
    ap (run_at form front) (star_none front (pick_above run.pick))
    ∙ ap (λ pick. run_from pick (Some 1)) (pick_back form run.pick h.pick)
    ∙ ap (λ n. Some (record { pick = run.pick; count = n })) (sym same))
    (λ e.
    let front = pick_word run.pick in
    let count = count_text run.count in
    ap (run_at form (front ++ 42 ∷ count)) (star_at front count (pick_above run.pick))
    ∙ ap (λ text. run_from (pick_in form text) (count_number (drop (length front + 1) (front ++ 42 ∷ count))))
    (take_front front (42 ∷ count))
    ∙ ap (λ digits. run_from (pick_in form front) (count_number digits)) (drop_front front 42 count)
    ∙ ap (λ pick. run_from pick (count_number count)) (pick_back form run.pick h.pick)
    ∙ ap (run_from (Some run.pick)) (count_back run.count h.some h.few))

word_long : (run : Run) → 0 < length (run_word run)
unfolding run_word
word_long run = by_test (λ (word : List ℕ). 0 < length word) (run.count == 1) _ _
    (λ _. pick_long run.pick)
    (λ _. let some = pick_long run.pick in
    let long = length-append (pick_word run.pick) (42 ∷ count_text run.count) in omega arith)

word_above : (run : Run) → Above 32 (run_word run)
unfolding run_word
word_above run =
    let front = above_less 32 42 (pick_word run.pick) (omega arith) (pick_above run.pick) in
    by_test (Above 32) (run.count == 1) _ _
    (λ _. front)
    (λ _. above_append 32 (pick_word run.pick) (42 ∷ count_text run.count) front
    (omega arith, above_less 32 42 (count_text run.count) (omega arith) (count_above run.count)))

steps_back : (form : Form) (run : Run) → IsRun form run → word_steps form (run_word run) ≡ Some (run_steps run)
unfolding word_steps
steps_back form run h =
    let long = word_long run in
    let some : (length (run_word run) == 0) ≡ false = grind (arith, nat_tests) in
    rw some (ap (option_map run_steps) (run_back form run h))

-- ---- a list

are_words : (runs : List Run) → AreWords (map run_word runs)
are_words [] = tt
are_words (run ∷ runs) = (record { some = word_long run; above = word_above run }, are_words runs)

are_said : (form : Form) (runs : List Run) → AreRuns form runs → AreSaid (word_steps form) run_word run_steps runs
are_said form [] h = tt
are_said form (run ∷ runs) h = (steps_back form run h.0, are_said form runs h.1)

list_back : (form : Form) (picks : List Pick) → AllFit form picks → length picks ≤ 16777216 →
    words_read (word_steps form) (Some 16777216)
    (words_from 2 (lines_of (words_text 16 0 (map run_word (runs_of picks))))) ≡ Ok picks
list_back form picks h l =
    let runs = runs_of picks in
    let words = words_from 2 (lines_of (words_text 16 0 (map run_word runs))) in
    let same = words_back 16 0 2 (map run_word runs) (are_words runs) in
    let said = are_said form runs (are_runs form picks h) in
    let long = ap length (runs_steps picks) in
    ap (λ fault. unless fault (flat_map (steps_said (word_steps form)) words))
    (fault_back (word_steps form) (Some 16777216) run_word run_steps words runs 0 same said
    (not_above (0 + length (flat_map run_steps runs)) 16777216 (omega arith)))
    ∙ ap Ok (said_back (word_steps form) run_word run_steps words runs same said ∙ runs_steps picks)

none_under : (b : Bool) → (b ≡ true → false ≡ true) → b ≡ false
none_under true h = sym (h refl)
none_under false h = refl

pub drawn_back : (has_events : Bool) (picks : List Pick) → AreBytes picks → length picks ≤ 16777216
    → (has_event picks ≡ true → has_events ≡ true) → schedule_of (drawn_text has_events picks) ≡ Ok picks
drawn_back true picks h l under = list_back Picks picks (all_fit picks h) l
drawn_back false picks h l under = list_back Cores picks (plain_fit picks h (none_under (has_event picks) under)) l

pub runs_back : (picks : List Pick) → AreBytes picks → length picks ≤ 16777216
    → schedule_of (schedule_text picks) ≡ Ok picks
runs_back picks h l = drawn_back (has_event picks) picks h l (λ under. under)
