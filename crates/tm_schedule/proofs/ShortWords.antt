-- A word of one digit at the front of a text.
use Rattle.std.proofs.Common.{◌≡◌, ℕ, ◌+◌, ◌<◌, Bool, true, false, List, [], ◌∷◌, ◌++◌, refl, ◌∙◌, ap, arith, length}
use Rattle.std.proofs.Common.{Option, Some, None}
use Rattle.std.specs.Int.{from_bool}
use Rattle.std.specs.Prelude.{◌≤◌, if◌then◌else◌, option_map, unwrap_or}
use Rattle.std.specs.List.{flat_map}
use Rattle.ia_lex.specs.Lines.{onto, lines_of}
use Rattle.tm_model.specs.declared.outcome.Pick.{Pick}
use Rattle.tm_schedule.specs.declared.schedule.picks.Form.{Form}
use Rattle.tm_schedule.specs.declared.schedule.picks.Form.TheVariants.{Cores, Picks}
use Rattle.tm_schedule.specs.Picks.{pick_at, pick_from, pick_of_word, single_steps}
use Rattle.tm_schedule.specs.ScheduleNumbers.{BeginsWithDigit, core_number}
use Rattle.tm_schedule.specs.ScheduleWords.{Word, on_line, words_from, steps_fault, steps_said, first_of, first_fault}
use Rattle.tm_schedule.proofs.NumbersBack.{three}
use Rattle.tm_schedule.proofs.PicksBack.{digit_none}
use Rattle.tm_schedule.proofs.WordsBack.{differs, line_more, split_end, split_more}

abbrev digit : ℕ → List ℕ
digit core = (48 + core) ∷ []

abbrev word : ℕ → ℕ → Word
word n core = record { line = n; text = digit core }

abbrev pub fault : Form → ℕ → List Word → Option Rattle.tm_schedule.specs.declared.schedule.ScheduleFault.ScheduleFault
fault form before words = first_fault (single_steps form) None before words

abbrev pub steps : Form → List Word → List Pick
steps form words = flat_map (steps_said (single_steps form)) words

abbrev plain : ℕ → Pick
plain core = record { core = core; event = None }

digit_core : (core : ℕ) → core < 10 → core_number (digit core) ≡ Some core
unfolding core_number
digit_core core h = three 0 0 core core (omega arith) (omega arith) h (omega arith) (omega arith)

-- it says the step of its core
digit_says : (form : Form) (core : ℕ) → core < 10 → single_steps form (digit core) ≡ Some (plain core ∷ [])
unfolding single_steps pick_of_word
digit_says Cores core h = ap (λ c. option_map (λ (pick : Pick). pick ∷ []) (pick_from c None)) (digit_core core h)
digit_says Picks core h =
    ap (λ event. option_map (λ (pick : Pick). pick ∷ []) (pick_at (digit core) event)) (digit_none core h)
    ∙ ap (λ c. option_map (λ (pick : Pick). pick ∷ []) (pick_from c None)) (digit_core core h)

nothing_says : (form : Form) → single_steps form [] ≡ Some []
unfolding single_steps
nothing_says form = refl

word_fault : (form : Form) (core n before : ℕ) (words : List Word) → core < 10
    → fault form before (word n core ∷ words) ≡ fault form (before + 1) words
word_fault form core n before words h =
    ap (λ o. first_of (steps_fault None before n o) (fault form (before + length (unwrap_or o [])) words))
    (digit_says form core h)

word_steps : (form : Form) (core n : ℕ) (words : List Word) → core < 10
    → steps form (word n core ∷ words) ≡ plain core ∷ steps form words
word_steps form core n words h = ap (λ o. unwrap_or o [] ++ steps form words) (digit_says form core h)

empty_fault : (form : Form) (n before : ℕ) → fault form before (record { line = n; text = [] } ∷ []) ≡ None
empty_fault form n before = ap (λ o. first_of (steps_fault None before n o) None) (nothing_says form)

empty_steps : (form : Form) (n : ℕ) → steps form (record { line = n; text = [] } ∷ []) ≡ []
empty_steps form n = ap (λ o. unwrap_or o [] ++ []) (nothing_says form)

-- ---- before a space

space_lines : (core : ℕ) (rest : List ℕ) → core < 10
    → lines_of ((48 + core) ∷ 32 ∷ rest) ≡ onto (48 + core) (onto 32 (lines_of rest))
space_lines core rest h = rw
    (differs 10 32 (48 + core) (omega arith) (omega arith), differs 13 32 (48 + core) (omega arith) (omega arith)) refl

space_words : (core n : ℕ) (l : List ℕ) (ls : List (List ℕ)) → core < 10
    → words_from n (onto (48 + core) (onto 32 (l ∷ ls))) ≡ word n core ∷ words_from n (l ∷ ls)
space_words core n l ls h = ap (λ words. on_line n words ++ words_from (n + 1) ls)
    (split_more 32 32 (digit core) l (omega arith) (omega arith, tt))

last_words : (core n : ℕ) → core < 10
    → words_from n (onto (48 + core) (onto 32 [])) ≡ word n core ∷ record { line = n; text = [] } ∷ []
last_words core n h =
    ap (λ words. on_line n words ++ []) (split_more 32 32 (digit core) [] (omega arith) (omega arith, tt))

space_fault : (form : Form) (core n before : ℕ) (lines : List (List ℕ)) → core < 10
    → fault form before (words_from n (onto (48 + core) (onto 32 lines))) ≡ fault form (before + 1) (words_from n lines)
space_fault form core n before [] h = ap (fault form before) (last_words core n h)
    ∙ word_fault form core n before (record { line = n; text = [] } ∷ []) h ∙ empty_fault form n (before + 1)
space_fault form core n before (l ∷ ls) h =
    ap (fault form before) (space_words core n l ls h) ∙ word_fault form core n before (words_from n (l ∷ ls)) h

space_steps : (form : Form) (core n : ℕ) (lines : List (List ℕ)) → core < 10
    → steps form (words_from n (onto (48 + core) (onto 32 lines))) ≡ plain core ∷ steps form (words_from n lines)
space_steps form core n [] h = ap (steps form) (last_words core n h)
    ∙ word_steps form core n (record { line = n; text = [] } ∷ []) h ∙ ap (λ xs. plain core ∷ xs) (empty_steps form n)
space_steps form core n (l ∷ ls) h =
    ap (steps form) (space_words core n l ls h) ∙ word_steps form core n (words_from n (l ∷ ls)) h

-- ---- before a line end

end_words : (core n : ℕ) (rest : List ℕ) → core < 10
    → words_from n (lines_of ((48 + core) ∷ 10 ∷ rest)) ≡ word n core ∷ words_from (n + 1) (lines_of rest)
end_words core n rest h =
    ap (words_from n) (line_more (digit core) rest (omega arith, tt))
    ∙ ap (λ words. on_line n words ++ words_from (n + 1) (lines_of rest))
    (split_end 32 32 (digit core) (omega arith) (omega arith, tt))

-- ---- either

abbrev pub behind : ℕ → Bool → ℕ
behind n true = n + 1
behind n false = n

pub behind_is : (n : ℕ) (ends : Bool) → behind n ends ≡ n + from_bool ends
behind_is n true = refl
behind_is n false = omega arith

pub at_most_one : (ends : Bool) → from_bool ends ≤ 1
at_most_one true = omega arith
at_most_one false = omega arith

text_fault : (form : Form) (core n before : ℕ) (ends : Bool) (rest : List ℕ) → core < 10 →
    fault form before (words_from n (lines_of ((48 + core) ∷ (if ends then 10 else 32) ∷ rest)))
    ≡ fault form (before + 1) (words_from (behind n ends) (lines_of rest))
text_fault form core n before true rest h = ap (fault form before) (end_words core n rest h)
    ∙ word_fault form core n before (words_from (n + 1) (lines_of rest)) h
text_fault form core n before false rest h =
    ap (λ lines. fault form before (words_from n lines)) (space_lines core rest h)
    ∙ space_fault form core n before (lines_of rest) h

text_steps : (form : Form) (core n : ℕ) (ends : Bool) (rest : List ℕ) → core < 10 →
    steps form (words_from n (lines_of ((48 + core) ∷ (if ends then 10 else 32) ∷ rest)))
    ≡ plain core ∷ steps form (words_from (behind n ends) (lines_of rest))
text_steps form core n true rest h =
    ap (steps form) (end_words core n rest h) ∙ word_steps form core n (words_from (n + 1) (lines_of rest)) h
text_steps form core n false rest h =
    ap (λ lines. steps form (words_from n lines)) (space_lines core rest h) ∙ space_steps form core n (lines_of rest) h

-- what is wrong with a text that begins with such a word is wrong behind it
pub digit_fault : (form : Form) (text rest : List ℕ) (core n before : ℕ) (ends : Bool)
    → BeginsWithDigit text core ends rest →
    fault form before (words_from n (lines_of text))
    ≡ fault form (before + 1) (words_from (behind n ends) (lines_of rest))
digit_fault form text rest core n before ends h =
    ap (λ xs. fault form before (words_from n (lines_of xs))) h.1 ∙ text_fault form core n before ends rest h.0

-- and its steps are that of the word and those behind it
pub digit_steps : (form : Form) (text rest : List ℕ) (core n : ℕ) (ends : Bool) → BeginsWithDigit text core ends rest →
    steps form (words_from n (lines_of text)) ≡ plain core ∷ steps form (words_from (behind n ends) (lines_of rest))
digit_steps form text rest core n ends h =
    ap (λ xs. steps form (words_from n (lines_of xs))) h.1 ∙ text_steps form core n ends rest h.0
