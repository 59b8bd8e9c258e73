-- Tokens behind a colon.
use Rattle.std.proofs.Common.{◌≡◌, ◌-◌, true, false, List, [], ◌∷◌, refl, sym, ◌∙◌, ap, take, drop, length, map}
use Rattle.std.proofs.lemmas.List.{take_rest}
use Rattle.ia_lex.specs.declared.token.Token.{Token}
use Rattle.ia_lex.specs.Tokens.{lexeme_of}
use Rattle.ia_source.specs.Heads.{begins_with_colon, behind_colon}

dropped : (xs : List Token) → map lexeme_of (drop 1 xs) ≡ drop 1 (map lexeme_of xs)
dropped [] = refl
dropped (x ∷ xs) = refl

pub with_colon : (xs : List Token) → begins_with_colon (map lexeme_of xs) ≡ true
    → map lexeme_of (take (length xs - 1) (drop 1 xs)) ≡ behind_colon (map lexeme_of xs)
with_colon xs e = ap (map lexeme_of) (take_rest xs 1) ∙ dropped xs ∙ sym (rw e refl)

pub without_colon : (xs : List Token) → begins_with_colon (map lexeme_of xs) ≡ false
    → map lexeme_of xs ≡ behind_colon (map lexeme_of xs)
without_colon xs e = sym (rw e refl)
