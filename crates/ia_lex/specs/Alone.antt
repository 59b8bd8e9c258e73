-- A line of one word.
use Rattle.std.specs.Prelude.{ℕ, Bool, true, false, Option, Some, None, List, [], ◌∷◌}
use Rattle.ia_lex.specs.Tokens.{Front, Blank, Lexeme, Word}

-- the word that is the only token
abbrev pub only_word : Option (List Lexeme) → Option (List ℕ)
only_word (Some (Word w ∷ [])) = Some w
only_word _ = None

-- ---- what the code asks

-- there is no token
abbrev pub is_bare : Option (List Lexeme) → Bool
is_bare (Some []) = true
is_bare _ = false

abbrev pub is_blank_front : Front → Bool
is_blank_front Blank = true
is_blank_front _ = false
