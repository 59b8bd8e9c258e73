-- One word more of `--show`.
use Rattle.std.proofs.Common.{◌≡◌, ℕ, ◌<◌, List, [], ◌∷◌, ◌++◌, length, append_assoc, append-nil, subst, sym}
use Rattle.std.specs.Char.{is_not_whitespace, is_whitespace}
use Rattle.std.specs.Str.{EmptyOrStartsWithPassing, NoCharPasses}
use Rattle.elide_program.specs.declared.file.ProgramFile.{ProgramFile}
use Rattle.tm_outcomes.specs.declared.trial.Item.{Item}
use Rattle.elide_outcomes.specs.Items.{AreWords, BeginsWithWord, HasNoItem, IsItem, SaysItems, later}

-- what `split_whitespace` says of a word, as the record
pub word_of_step : (text word rest : List ℕ) →
    (gap : List ℕ) × (text ≡ gap ++ (word ++ rest)) × (0 < length word) × NoCharPasses is_not_whitespace gap
    × NoCharPasses is_whitespace word × ((more : List ℕ) × EmptyOrStartsWithPassing is_whitespace rest more) →
    BeginsWithWord text word rest
word_of_step text word rest step = record {
  gap = step.0;
  whole = step.1;
  some = step.2;
  gap_is_blank = step.3;
  word_has_none = step.4;
  rest_is_apart = step.5;
}

-- these items are said, and behind them what the rest says
abbrev pub GoesOn : ProgramFile → List ℕ → List ℕ → List Item → Type 0
GoesOn file text rest items = (others : List Item) → SaysItems file rest others → SaysItems file text (items ++ others)

pub goes_on : (file : ProgramFile) (text rest next word : List ℕ) (items items' : List Item) (item : Item) →
    GoesOn file text rest items → BeginsWithWord rest word next → IsItem file word item → items' ≡ items ++ item ∷ []
    → GoesOn file text next items'
goes_on file text rest next word items items' item before begins is same others says =
    let Says : List Item → Type 0 = λ all. SaysItems file text all in
    let said : Says (items ++ (item ∷ others)) = before (item ∷ others) (word, next, begins, is, says) in
    subst (λ (all : List Item). Says (all ++ others)) (sym same)
    (subst Says (sym (append_assoc items (item ∷ []) others)) said)

-- where a word of the rest is no item, one of the text is none
abbrev pub GoesWrong : ProgramFile → List ℕ → List ℕ → Type 0
GoesWrong file text rest = HasNoItem file rest → HasNoItem file text

pub goes_wrong : (file : ProgramFile) (text rest next word : List ℕ) → GoesWrong file text rest
    → BeginsWithWord rest word next →
    GoesWrong file text next
goes_wrong file text rest next word before begins none = before (later word next begins none)

-- no word is left
pub all_said : (file : ProgramFile) (text rest : List ℕ) (items : List Item) → GoesOn file text rest items
    → SaysItems file rest [] → SaysItems file text items
all_said file text rest items before none =
    subst (λ (all : List Item). SaysItems file text all) (append-nil items) (before [] none)

-- these words stand there, and behind them those of the rest
abbrev pub WordsGoOn : List ℕ → List ℕ → List (List ℕ) → Type 0
WordsGoOn text rest words = (others : List (List ℕ)) → AreWords rest others → AreWords text (words ++ others)

pub words_go_on : (text rest next word : List ℕ) (words words' : List (List ℕ)) → WordsGoOn text rest words →
    BeginsWithWord rest word next → words' ≡ words ++ word ∷ [] → WordsGoOn text next words'
words_go_on text rest next word words words' before begins same others are =
    let Are : List (List ℕ) → Type 0 = λ all. AreWords text all in
    let all : Are (words ++ (word ∷ others)) = before (word ∷ others) (next, begins, are) in
    subst (λ (l : List (List ℕ)). Are (l ++ others)) (sym same)
    (subst Are (sym (append_assoc words (word ∷ []) others)) all)

-- no word is left
pub all_words : (text rest : List ℕ) (words : List (List ℕ)) → WordsGoOn text rest words → AreWords rest []
    → AreWords text words
all_words text rest words before none =
    subst (λ (all : List (List ℕ)). AreWords text all) (append-nil words) (before [] none)
