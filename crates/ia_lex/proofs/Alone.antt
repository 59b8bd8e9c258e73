-- The front of a line of one word.
use Rattle.std.proofs.Common.{◌≡◌, ℕ, ◌+◌, ◌≤◌, false, List, [], ◌∷◌, Option, Some, None, refl, sym, ◌∙◌, ap, drop}
use Rattle.std.proofs.Common.{length}
use Rattle.std.specs.Prelude.{if◌then◌else◌}
use Rattle.std.proofs.lemmas.List.{drop-drop, drop_all}
use Rattle.ia_lex.specs.Alone.{is_bare, is_blank_front, only_word}
use Rattle.ia_lex.specs.Tokens.{Lexeme, Word, Bad, Blank, One, front, tokens_from, with_front}
use Rattle.ia_lex.proofs.Skips.{front_nil, read_bad, read_blank, read_one}

-- one more blank
pub blank_more : (i : ℕ) (line : List ℕ) → front (drop i line) ≡ Blank
    → tokens_from 0 (drop (i + 1) line) ≡ tokens_from 0 (drop i line)
blank_more i line e = ap (tokens_from 0) (sym (drop-drop 1 i line)) ∙ sym (read_blank (drop i line) e)

-- at the end there is no blank
pub blanks_end : (i : ℕ) (line : List ℕ) → length line ≤ i → is_blank_front (front (drop i line)) ≡ false
blanks_end i line h = ap (λ l. is_blank_front (front l)) (drop_all i line h) ∙ ap is_blank_front front_nil

-- whether there is no token is decided by what stands in front
pub bare_bad : (bs : List ℕ) → front bs ≡ Bad → is_bare (tokens_from 0 bs) ≡ false
bare_bad bs e = ap is_bare (read_bad bs e)

only_behind : (w : List ℕ) (r : Option (List Lexeme))
    → only_word (with_front (Word w ∷ []) r) ≡ (if is_bare r then Some w else None)
only_behind w None = refl
only_behind w (Some []) = refl
only_behind w (Some (t ∷ ts)) = refl

-- a word is the only one where there is no token behind it
pub only_one : (w : List ℕ) (n : ℕ) (bs : List ℕ) → front bs ≡ One (Word w) n → 1 ≤ n
    → only_word (tokens_from 0 bs) ≡ (if is_bare (tokens_from 0 (drop n bs)) then Some w else None)
only_one w n bs e h = ap only_word (read_one (Word w) n bs e h) ∙ only_behind w (tokens_from 0 (drop n bs))
