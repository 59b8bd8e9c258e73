-- What is left of lines of words while they are read.
use Rattle.std.specs.Prelude.{◌≡◌, ℕ, ◌+◌, List, [], ◌∷◌, ◌++◌, Option, Some, None}
use Rattle.std.specs.Borrow.{Bor}
use Rattle.ia_lex.specs.Lines.{lines_of}
use Rattle.tm_schedule.specs.ScheduleWords.{Word, words_of, words_from, on_line}
use Rattle.tm_schedule.specs.declared.schedule.words.Unread.{Unread}

-- the words of the rest of a line
abbrev pub words_left : Option (Bor (List ℕ)) → List (List ℕ)
words_left None = []
words_left (Some rest) = words_of rest.now

-- the words that are left
abbrev pub unread_words : Unread → List Word
unread_words unread =
    on_line unread.line (words_left unread.rest) ++ words_from (unread.line + 1) (lines_of unread.below.now)

-- the first of these words was taken
abbrev pub IsNextWord : Unread → Option (Bor (List ℕ) × Unread) → Type 0
IsNextWord old None = unread_words old ≡ []
IsNextWord old (Some next) = unread_words old ≡ record { line = next.1.line; text = next.0.now } ∷ unread_words next.1

-- the first word of a line was taken, the lines below being left
abbrev pub IsFirstWord : List ℕ → List ℕ → ℕ → Bor (List ℕ) × Unread → Type 0
IsFirstWord words below n next =
    (on_line n (words_of words) ++ words_from (n + 1) (lines_of below)
    ≡ record { line = n; text = next.0.now } ∷ unread_words next.1)
    × (next.1.line ≡ n)
