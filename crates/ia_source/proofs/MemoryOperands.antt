-- Places, piece by piece.
use Rattle.std.proofs.Common.{◌≡◌, ℕ, zero, suc, ◌-◌, ◌<◌, ◌≤◌, Bool, true, false, List, [], ◌∷◌, ◌++◌, Option, Some}
use Rattle.std.proofs.Common.{None, refl, sym, ◌∙◌, ap, drop, length, map, arith, nat_lt}
use Rattle.std.proofs.lemmas.List.{map-append}
use Rattle.ia_insn.specs.declared.operand.Mem.{Mem}
use Rattle.ia_lex.specs.declared.token.Token.{Token}
use Rattle.ia_lex.specs.declared.terms.Term.{Term}
use Rattle.ia_lex.specs.Tokens.{lexeme_of}
use Rattle.ia_lex.specs.Terms.{TermContent, AtomContent, term_content}
use Rattle.ia_source.specs.MemoryOperands.{Piece, with_term, piece_at, with_piece, by_piece, by_new_piece, memory_from}

pub one_more : (xs : List Term) (t : Term) → length xs < 16
    → map term_content (xs ++ t ∷ []) ≡ map term_content xs ++ term_content t ∷ []
one_more xs t h = map-append term_content xs (t ∷ [])

long_terms : (xs : List Term) → length (map term_content xs) ≡ length xs
long_terms [] = refl
long_terms (x ∷ xs) = ap suc (long_terms xs)

-- there is room for one more part
pub has_room : (xs : List Term) (neg : Bool) (v : AtomContent) → length xs < 16
    → with_term (map term_content xs) neg v ≡ Some (map term_content xs ++ (record { negative = neg; atom = v }) ∷ [])
has_room xs neg v h =
    let e : nat_lt (length (map term_content xs)) 16 ≡ true = rw (long_terms xs) (grind arith) in
    rw e refl

pub is_full : (xs : List Term) (neg : Bool) (v : AtomContent) → 16 ≤ length xs
    → with_term (map term_content xs) neg v ≡ None
is_full xs neg v h =
    let e : nat_lt (length (map term_content xs)) 16 ≡ false = rw (long_terms xs) (grind arith) in
    rw e refl

skipped : (k : ℕ) (m : Mem) (ps : List TermContent) (j : Option (Bool × Bool)) (xs : List Token)
    → memory_from k m ps j (map lexeme_of xs) ≡ memory_from 0 m ps j (map lexeme_of (drop k xs))
skipped zero m ps j [] = refl
skipped (suc k) m ps j [] = refl
skipped zero m ps j (x ∷ xs) = refl
skipped (suc k) m ps j (x ∷ xs) = skipped k m ps j xs

-- behind a piece of so many tokens
pub behind_some : (m : Mem) (ps : List TermContent) (neg register : Bool) (xs : List Token) (p : Piece) (n : ℕ)
    (m2 : Mem) (ps2 : List TermContent)
    → Some (p, n) ≡ piece_at (map lexeme_of xs) → Some (m2, ps2) ≡ with_piece m ps neg register p → 1 ≤ n
    → memory_from 0 m ps (Some (neg, register)) (map lexeme_of xs)
    ≡ memory_from 0 m2 ps2 None (map lexeme_of (drop n xs))
behind_some m ps neg register [] p n m2 ps2 e f h = absurd (cc)
behind_some m ps neg register (x ∷ xs) p zero m2 ps2 e f h = absurd (omega arith)
behind_some m ps neg register (x ∷ xs) p (suc n) m2 ps2 e f h =
    let k : suc n - 1 ≡ n = omega arith in
    ap (λ q. by_piece m ps neg register q (λ m ps n. memory_from n m ps None (map lexeme_of xs))) (sym e)
    ∙ ap (λ j. by_new_piece j (suc n) (λ m ps n. memory_from n m ps None (map lexeme_of xs))) (sym f)
    ∙ ap (λ n. memory_from n m2 ps2 None (map lexeme_of xs)) k ∙ skipped n m2 ps2 None xs

pub behind_none : (m : Mem) (ps : List TermContent) (neg register : Bool) (xs : List Token)
    → None ≡ piece_at (map lexeme_of xs) → memory_from 0 m ps (Some (neg, register)) (map lexeme_of xs) ≡ None
behind_none m ps neg register [] e = refl
behind_none m ps neg register (x ∷ xs) e =
    ap (λ q. by_piece m ps neg register q (λ m ps n. memory_from n m ps None (map lexeme_of xs))) (sym e)

pub behind_bad : (m : Mem) (ps : List TermContent) (neg register : Bool) (xs : List Token) (p : Piece) (n : ℕ)
    → Some (p, n) ≡ piece_at (map lexeme_of xs) → None ≡ with_piece m ps neg register p
    → memory_from 0 m ps (Some (neg, register)) (map lexeme_of xs) ≡ None
behind_bad m ps neg register [] p n e f = refl
behind_bad m ps neg register (x ∷ xs) p n e f =
    ap (λ q. by_piece m ps neg register q (λ m ps n. memory_from n m ps None (map lexeme_of xs))) (sym e)
    ∙ ap (λ j. by_new_piece j n (λ m ps n. memory_from n m ps None (map lexeme_of xs))) (sym f)

-- a term for which there is room, or none
pub ruleset term_rooms = (one_more, has_room, is_full)

-- what stands behind a piece
pub ruleset behind_pieces = (behind_some, behind_none, behind_bad)
