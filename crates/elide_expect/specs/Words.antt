-- The words of a command: between blanks, and what stands in quotes is of one word (docs/FORMATS.md, "Tests").
use Rattle.std.specs.Prelude.{ℕ, ◌==◌, if◌then◌else◌, List, [], ◌∷◌, ◌++◌, Option, Some, None, Vec, map}
use Rattle.std.specs.Prelude.{option_map}
use Rattle.ia_lex.specs.Chars.{is_blank, is_quote}
use Rattle.ia_lex.specs.Lines.{onto}
use Rattle.elide_expect.specs.declared.words.Place.{Place}
use Rattle.elide_expect.specs.declared.words.Place.TheVariants.{Between, Quoted, Within}
use Rattle.elide_expect.specs.declared.words.WordReader.{WordReader}

-- the words of a byte and of what stands behind it, by the place that the byte leads to
abbrev pub words_behind_byte : Place → ℕ → (Place → Option (List (List ℕ))) → Option (List (List ℕ))
words_behind_byte Between b next = if is_blank b then next Between
    else if is_quote b then next (Quoted b)
    else option_map (onto b) (next Within)
words_behind_byte Within b next = if is_blank b then option_map (λ words. [] ∷ words) (next Between)
    else if is_quote b then next (Quoted b)
    else option_map (onto b) (next Within)
words_behind_byte (Quoted quote) b next = if b == quote then next Within else option_map (onto b) (next (Quoted quote))

-- from between words, from within one, and from within quotes, which have to end
abbrev pub words_in : Place → List ℕ → Option (List (List ℕ))
words_in Between [] = Some []
words_in Within [] = Some ([] ∷ [])
words_in (Quoted quote) [] = None
words_in place (b ∷ bytes) = words_behind_byte place b (λ next. words_in next bytes)

abbrev pub words_of : List ℕ → Option (List (List ℕ))
words_of text = words_in Between text

-- ---- what the code's values stand for

abbrev pub texts : {Z : Type 0} → List (Vec ℕ Z) → List (List ℕ)
texts rows = map (λ row. row.items) rows

-- what is read of a word, and the words of which it is the beginning of the first
abbrev pub onto_word : List ℕ → List (List ℕ) → List (List ℕ)
onto_word [] [] = []
onto_word (b ∷ word) [] = (b ∷ word) ∷ []
onto_word word (first ∷ words) = (word ++ first) ∷ words

abbrev pub words_with : WordReader → List ℕ → Option (List (List ℕ))
words_with reader rest =
    option_map (λ words. texts reader.words.items ++ onto_word reader.word.items words) (words_in reader.place rest)
