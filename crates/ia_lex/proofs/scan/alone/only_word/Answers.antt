use Rattle.std.proofs.Common.{◌≡◌, ◌≤◌, ◌-◌, ℕ, Bool, sym, ◌∙◌, ap, arith, List, drop, take, length, Option, Some, None}
use Rattle.std.specs.Prelude.{if◌then◌else◌}
use Rattle.std.proofs.lemmas.List.{take_rest}
use Rattle.ia_lex.specs.Alone.{is_bare, only_word}
use Rattle.ia_lex.specs.Tokens.{Word, One, front, lexeme_of, tokens_from, tokens_of}
use Rattle.ia_lex.proofs.Alone.{only_one}
use Rattle.ia_lex.proofs.scan.alone.only_word.Goals as goal

abbrev chosen : List ℕ → Bool → Option (List ℕ)
chosen w b = if b then Some w else None

abbrev behind : ℕ → List ℕ → List ℕ
behind k bytes = take (length bytes - k) (drop k bytes)

-- behind k blanks stands a word of n bytes
decided : (line : List ℕ) (k : ℕ) (w : List ℕ) (n : ℕ) (b : Bool) → tokens_from 0 (drop k line) ≡ tokens_from 0 line
    → front (behind k line) ≡ One (Word w) n → 1 ≤ n → b ≡ is_bare (tokens_from 0 (behind n (behind k line)))
    → chosen w b ≡ only_word (tokens_from 0 line)
decided line k w n b same e h bare =
    sym (ap only_word (sym (ap (tokens_from 0) (take_rest line k) ∙ same)) ∙ only_one w n (behind k line) e h
    ∙ ap (chosen w) (ap (λ l. is_bare (tokens_from 0 l)) (sym (take_rest (behind k line) n)) ∙ sym bare))

pub returns-then-is_bare : goal.returns-then-is_bare
unfolding tokens_of
returns-then-is_bare c =
    let word = sym c.in-One-Word-default.ensures.front
    ∙ ap (λ t. One (lexeme_of t) c.in-One-Word-default.n) c.in-One-Word-default.field-0-is in
    ap (chosen c.in-One-Word-default.word.now) (sym c.if-is_bare.true)
    ∙ decided c.args.line.now c.blanks.result c.in-One-Word-default.word.now c.in-One-Word-default.n c.is_bare.result
    c.blanks.ensures.same word
    (omega (arith, c.in-One-Word-default.ensures.within.0)) c.is_bare.ensures

pub returns-else-is_bare : goal.returns-else-is_bare
unfolding tokens_of
returns-else-is_bare c =
    let word = sym c.in-One-Word-default.ensures.front
    ∙ ap (λ t. One (lexeme_of t) c.in-One-Word-default.n) c.in-One-Word-default.field-0-is in
    ap (chosen c.in-One-Word-default.word.now) (sym c.if-is_bare.false)
    ∙ decided c.args.line.now c.blanks.result c.in-One-Word-default.word.now c.in-One-Word-default.n c.is_bare.result
    c.blanks.ensures.same word
    (omega (arith, c.in-One-Word-default.ensures.within.0)) c.is_bare.ensures
