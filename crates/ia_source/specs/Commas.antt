-- What stands between commas.
use Rattle.std.specs.Prelude.{ℕ, ◌<◌, nat_le, Bool, false, not, ◌==◌, if◌then◌else◌, Option, Some, None, List, [], ◌∷◌}
use Rattle.std.specs.Prelude.{map, length, drop}
use denote.Bor.{Bor}
use Rattle.ia_lex.specs.declared.token.Token.{Token}
use Rattle.ia_lex.specs.Tokens.{Lexeme, Mark, lexeme_of}

abbrev pub is_mark_of : ℕ → Lexeme → Bool
is_mark_of m (Mark b) = b == m
is_mark_of m _ = false

abbrev pub is_comma : Lexeme → Bool
is_comma t = is_mark_of 44 t

abbrev pub onto_first : Lexeme → List (List Lexeme) → List (List Lexeme)
onto_first t [] = (t ∷ []) ∷ []
onto_first t (p ∷ ps) = (t ∷ p) ∷ ps

abbrev pub between_commas : List Lexeme → List (List Lexeme)
between_commas [] = [] ∷ []
between_commas (t ∷ ts) = if is_comma t then [] ∷ between_commas ts else onto_first t (between_commas ts)

-- ---- what the code's values stand for

-- a token is no comma
abbrev pub goes_on : Token → Bool
goes_on t = not (is_comma (lexeme_of t))

-- what stands behind the first comma, if there is one
abbrev pub behind_comma : Option (Bor (List Token)) → List (List Lexeme)
behind_comma None = []
behind_comma (Some rest) = between_commas (map lexeme_of rest.now)

-- fewer tokens are left
abbrev pub AreFewer : Option (Bor (List Token)) → List Token → Type 0
AreFewer None tokens = Unit {0}
AreFewer (Some rest) tokens = length rest.now < length tokens

-- what stands between commas from a place on, which is behind the last one where nothing is left
abbrev pub pieces_from : ℕ → List Token → List (List Lexeme)
pieces_from place tokens = if nat_le place (length tokens) then between_commas (map lexeme_of
    (drop place tokens)) else []
