-- A text of words is read as those words.
use Rattle.std.proofs.Common.{◌≡◌, ℕ, ◌+◌, ◌%◌, ◌<◌, ◌≤◌, ◌==◌, Bool, true, false, List, [], ◌∷◌, ◌++◌, refl, sym, ◌∙◌}
use Rattle.std.proofs.Common.{ap, arith, append_assoc, length, map, Option, Some, None}
use Rattle.std.specs.Prelude.{cond, unwrap_or}
use Rattle.std.specs.List.{AllByRecursion, flat_map, slice_split}
use Rattle.std.proofs.lemmas.Bool.{ne_eqb}
use Rattle.std.proofs.lemmas.Bool.Decides.{nat_tests}
use Rattle.std.proofs.lemmas.List.{length-append}
use Rattle.ia_lex.specs.Lines.{onto, lines_of}
use Rattle.tm_schedule.specs.declared.schedule.ScheduleFault.TheVariants.{TooManySteps}
use Rattle.text_out.specs.TextLine.{line_end}
use Rattle.tm_model.specs.declared.outcome.Pick.{Pick}
use Rattle.tm_schedule.specs.ScheduleWords.{Word, on_line, words_from, is_above, steps_fault, steps_said, first_of}
use Rattle.tm_schedule.specs.ScheduleWords.{first_fault, behind_word, words_text}

abbrev pub Above : ℕ → List ℕ → Type 0
Above k xs = AllByRecursion (λ b. k < b) xs

pub above_append : (k : ℕ) (xs ys : List ℕ) → Above k xs → Above k ys → Above k (xs ++ ys)
above_append k [] ys a b = b
above_append k (x ∷ xs) ys a b = (a.0, above_append k xs ys a.1 b)

pub above_less : (j k : ℕ) (xs : List ℕ) → j ≤ k → Above k xs → Above j xs
above_less j k [] l a = tt
above_less j k (x ∷ xs) l a = (let h = a.0 in omega arith, above_less j k xs l a.1)

pub differs : (c k b : ℕ) → c ≤ k → k < b → (b == c) ≡ false
differs c k b l h = ne_eqb b c (λ e. omega arith)

same : (c : ℕ) → (c == c) ≡ true
same c = grind (arith, nat_tests)

pub split_end : (c k : ℕ) (xs : List ℕ) → c ≤ k → Above k xs → slice_split (λ b. b == c) xs ≡ xs ∷ []
split_end c k [] l a = refl
split_end c k (x ∷ xs) l a = rw (differs c k x l a.0, split_end c k xs l a.1)

pub split_more : (c k : ℕ) (xs ys : List ℕ) → c ≤ k → Above k xs
    → slice_split (λ b. b == c) (xs ++ c ∷ ys) ≡ xs ∷ slice_split (λ b. b == c) ys
split_more c k [] ys l a = rw (same c)
split_more c k (x ∷ xs) ys l a = rw (differs c k x l a.0, split_more c k xs ys l a.1)

pub line_more : (xs ys : List ℕ) → Above 13 xs → lines_of (xs ++ 10 ∷ ys) ≡ xs ∷ lines_of ys
line_more [] ys a = refl
line_more (x ∷ xs) ys a = rw (differs 10 13 x (omega arith) a.0, differs 13 13 x (omega arith) a.0, line_more xs ys a.1)

-- a test of a list of words or bytes, by its outcome
pub by_test : {X : Type 0} (P : X → Type 0) (b : Bool) (x y : X) → (b ≡ true → P x) → (b ≡ false → P y) → P (cond b x y)
by_test P true x y p q = p refl
by_test P false x y p q = q refl

-- ---- a line

abbrev pub texts : List Word → List (List ℕ)
texts words = map (λ (word : Word). word.text) words

abbrev spread : List ℕ → List (List ℕ) → List (List ℕ)
spread [] ls = ls
spread (b ∷ bs) ls = onto b (spread bs ls)

spread_lines : (xs ys : List ℕ) → Above 32 xs → lines_of (xs ++ ys) ≡ spread xs (lines_of ys)
spread_lines [] ys h = refl
spread_lines (x ∷ xs) ys h =
    rw (differs 10 32 x (omega arith) h.0, differs 13 32 x (omega arith) h.0, spread_lines xs ys h.1) refl

spread_front : (xs l : List ℕ) (ls : List (List ℕ)) → spread xs (l ∷ ls) ≡ (xs ++ l) ∷ ls
spread_front [] l ls = refl
spread_front (x ∷ xs) l ls = ap (onto x) (spread_front xs l ls)

first_word : (word l : List ℕ) (ls : List (List ℕ)) (n : ℕ) → Above 32 word →
    texts (words_from n (spread word (onto 32 (l ∷ ls)))) ≡ word ∷ texts (words_from n (l ∷ ls))
first_word word l ls n h =
    ap (λ lines. texts (words_from n lines)) (spread_front word (32 ∷ l) ls)
    ∙ ap (λ words. texts (on_line n words ++ words_from (n + 1) ls)) (split_more 32 32 word l (omega arith) h)

onto_word : (word : List ℕ) (b : ℕ) (ls : List (List ℕ)) (n : ℕ) → Above 32 word →
    texts (words_from n (spread word (onto 32 (onto b ls)))) ≡ word ∷ texts (words_from n (onto b ls))
onto_word word b [] n h = first_word word (b ∷ []) [] n h
onto_word word b (l ∷ ls) n h = first_word word (b ∷ l) ls n h

-- a word with a space behind it, and then another word
word_space : (word next tail : List ℕ) (n : ℕ) → Above 32 word → Above 32 next → 0 < length next →
    texts (words_from n (lines_of (word ++ 32 ∷ (next ++ tail))))
    ≡ word ∷ texts (words_from n (lines_of (next ++ tail)))
word_space word [] tail n h k some = absurd (omega arith)
word_space word (b ∷ bs) tail n h k some =
    let line : lines_of (b ∷ (bs ++ tail)) ≡ onto b (lines_of (bs ++ tail)) =
    rw (differs 10 32 b (omega arith) k.0, differs 13 32 b (omega arith) k.0) refl in
    ap (λ lines. texts (words_from n lines)) (spread_lines word (32 ∷ b ∷ (bs ++ tail)) h)
    ∙ ap (λ lines. texts (words_from n (spread word (onto 32 lines)))) line
    ∙ onto_word word b (lines_of (bs ++ tail)) n h
    ∙ ap (λ lines. word ∷ texts (words_from n lines)) (sym line)

-- a word with a line end behind it
word_end : (word tail : List ℕ) (n : ℕ) → Above 32 word →
    texts (words_from n (lines_of (word ++ 10 ∷ tail))) ≡ word ∷ texts (words_from (n + 1) (lines_of tail))
word_end word tail n h =
    ap (λ lines. texts (words_from n lines)) (line_more word tail (above_less 13 32 word (omega arith) h))
    ∙ ap (λ words. texts (on_line n words ++ words_from (n + 1) (lines_of tail))) (split_end 32 32 word (omega arith) h)

-- a word that is written: some bytes above a space
pub record IsWord (word : List ℕ) : Type 0 where
  pub some : 0 < length word
  pub above : Above 32 word

abbrev pub AreWords : List (List ℕ) → Type 0
AreWords words = AllByRecursion IsWord words

pub words_back : (size column n : ℕ) (words : List (List ℕ)) → AreWords words
    → texts (words_from n (lines_of (words_text size column words))) ≡ words
words_back size column n [] h = refl
words_back size column n (word ∷ []) h =
    ap (λ text. texts (words_from n (lines_of text))) (append_assoc word line_end [])
    ∙ word_end word [] n h.0.above
words_back size column n (word ∷ next ∷ words) h =
    let after = (column + 1) % size in
    let rest = words_text size after (next ∷ words) in
    let behind = behind_word size after words in
    let more = words_text size ((after + 1) % size) words in
    by_test (λ text. texts (words_from n (lines_of (word ++ text ++ rest))) ≡ word ∷ next ∷ words)
    (column + 1 == size) _ _
    (λ _. ap (λ text. texts (words_from n (lines_of text))) (append_assoc word line_end rest)
    ∙ word_end word rest n h.0.above
    ∙ ap (λ ws. word ∷ ws) (words_back size after (n + 1) (next ∷ words) h.1))
    (λ _. ap (λ text. texts (words_from n (lines_of text))) (append_assoc word (32 ∷ []) rest)
    ∙ ap (λ text. texts (words_from n (lines_of (word ++ 32 ∷ text)))) (append_assoc next behind more)
    ∙ word_space word next (behind ++ more) n h.0.above h.1.0.above h.1.0.some
    ∙ ap (λ text. word ∷ texts (words_from n (lines_of text))) (sym (append_assoc next behind more))
    ∙ ap (λ ws. word ∷ ws) (words_back size after n (next ∷ words) h.1))

-- ---- the steps of words

fewer : (most : Option ℕ) (a b : ℕ) → a ≤ b → is_above most b ≡ false → is_above most a ≡ false
fewer None a b h e = refl
fewer (Some most) a b h e = grind (arith, nat_tests)

-- what each of these is written as says its steps
abbrev pub AreSaid : {X : Type 0} → (List ℕ → Option (List Pick)) → (X → List ℕ) → (X → List Pick) → List X → Type 0
AreSaid {X} says write steps xs = AllByRecursion (λ (x : X). says (write x) ≡ Some (steps x)) xs

pub fault_back : {X : Type 0} (says : List ℕ → Option (List Pick)) (most : Option ℕ) (write : X → List ℕ)
    (steps : X → List Pick) (words : List Word) (xs : List X) (before : ℕ) →
    texts words ≡ map write xs → AreSaid says write steps xs
    → is_above most (before + length (flat_map steps xs)) ≡ false → first_fault says most before words ≡ None
fault_back says most write steps [] xs before e h l = refl
fault_back says most write steps (word ∷ words) [] before e h l = absurd (cc)
fault_back says most write steps (word ∷ words) (x ∷ xs) before e h l =
    let head : word.text ≡ write x = cc in
    let tail : texts words ≡ map write xs = cc in
    let said : says word.text ≡ Some (steps x) = ap says head ∙ h.0 in
    let long = length-append (steps x) (flat_map steps xs) in
    let whole :
    before + length (steps x ++ flat_map steps xs) ≡ before + length (steps x) + length (flat_map steps xs) =
    omega arith in
    ap (λ o. first_of (steps_fault most before word.line o)
    (first_fault says most (before + length (unwrap_or o [])) words)) said
    ∙ ap (λ b. first_of (cond b (Some (TooManySteps word.line)) None)
    (first_fault says most (before + length (steps x)) words))
    (fewer most (before + length (steps x)) (before + length (steps x ++ flat_map steps xs)) (omega arith) l)
    ∙ fault_back says most write steps words xs (before + length (steps x)) tail h.1
    (ap (is_above most) (sym whole) ∙ l)

pub said_back : {X : Type 0} (says : List ℕ → Option (List Pick)) (write : X → List ℕ) (steps : X → List Pick)
    (words : List Word) (xs : List X) →
    texts words ≡ map write xs → AreSaid says write steps xs → flat_map (steps_said says) words ≡ flat_map steps xs
said_back says write steps [] [] e h = refl
said_back says write steps [] (x ∷ xs) e h = absurd (cc)
said_back says write steps (word ∷ words) [] e h = absurd (cc)
said_back says write steps (word ∷ words) (x ∷ xs) e h =
    let head : word.text ≡ write x = cc in
    let tail : texts words ≡ map write xs = cc in
    let said : says word.text ≡ Some (steps x) = ap says head ∙ h.0 in
    ap (λ o. unwrap_or o [] ++ flat_map (steps_said says) words) said
    ∙ ap (λ front. steps x ++ front) (said_back says write steps words xs tail h.1)
