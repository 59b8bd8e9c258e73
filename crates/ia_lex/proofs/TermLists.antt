-- Terms, one by one.
use Rattle.std.proofs.Common.{◌≡◌, ℕ, zero, suc, ◌+◌, ◌-◌, ◌<◌, Bool, false, List, [], ◌∷◌, ◌++◌, Option, Some, None}
use Rattle.std.proofs.Common.{refl, sym, ◌∙◌, ap, append_assoc, append-nil, arith}
use Rattle.ia_lex.specs.Tokens.{Lexeme}
use Rattle.ia_lex.specs.Terms.{AtomContent, TermContent, atom_of, sign_of, before, by_atom, by_sign, terms_at}
use Rattle.ia_lex.specs.Terms.{with_terms, expression_at}

pub with_before : (front : List TermContent) (p : TermContent) (more : Option (List TermContent × List Lexeme))
    → with_terms front (before p more) ≡ with_terms (front ++ p ∷ []) more
with_before front p None = refl
with_before front p (Some x) = ap (λ v. Some (v, x.1)) (sym (append_assoc front (p ∷ []) x.0))

pub parts_step : (n : ℕ) (neg : Bool) (t : Lexeme) (ts : List Lexeme) → n < 16
    → terms_at (16 - n) (Some neg) (t ∷ ts) ≡ by_atom (atom_of t) neg (terms_at (16 - (n + 1)) None ts)
parts_step n neg t ts h =
    let e : 16 - n ≡ suc (16 - (n + 1)) = omega arith in
    ap (λ k. terms_at k (Some neg) (t ∷ ts)) e

pub terms_full : (n : ℕ) (neg : Bool) (t : Lexeme) (ts : List Lexeme) → n ≡ 16
    → terms_at (16 - n) (Some neg) (t ∷ ts) ≡ None
terms_full n neg t ts h =
    let e : 16 - n ≡ zero = omega arith in
    ap (λ k. terms_at k (Some neg) (t ∷ ts)) e

-- a term is read
pub terms_one : (front : List TermContent) (n : ℕ) (neg : Bool) (v : AtomContent) (t : Lexeme) (ts : List Lexeme)
    → n < 16 → Some v ≡ atom_of t
    → with_terms front (terms_at (16 - n) (Some neg) (t ∷ ts))
    ≡ with_terms (front ++ (record { negative = neg; atom = v }) ∷ []) (terms_at (16 - (n + 1)) None ts)
terms_one front n neg v t ts h e =
    ap (with_terms front) (parts_step n neg t ts h ∙ ap (λ a. by_atom a neg (terms_at (16 - (n + 1)) None ts)) (sym e))
    ∙ with_before front (record { negative = neg; atom = v }) (terms_at (16 - (n + 1)) None ts)

pub terms_bad : (front : List TermContent) (n : ℕ) (neg : Bool) (t : Lexeme) (ts : List Lexeme) → n < 16
    → None ≡ atom_of t → with_terms front (terms_at (16 - n) (Some neg) (t ∷ ts)) ≡ None
terms_bad front n neg t ts h e =
    ap (with_terms front) (parts_step n neg t ts h ∙ ap (λ a. by_atom a neg (terms_at (16 - (n + 1)) None ts)) (sym e))

pub terms_stop : (front : List TermContent) (room : ℕ) (u : Lexeme) (us : List Lexeme) → None ≡ sign_of u
    → with_terms front (terms_at room None (u ∷ us)) ≡ Some (front, u ∷ us)
terms_stop front room u us e =
    ap (λ s. with_terms front (by_sign s (Some ([], u ∷ us)) (λ neg. terms_at room (Some neg) us))) (sym e)
    ∙ ap (λ v. Some (v, u ∷ us)) (append-nil front)

pub terms_nil : (front : List TermContent) (room : ℕ) → with_terms front (terms_at room None []) ≡ Some (front, [])
terms_nil front room = ap (λ v. Some (v, [])) (append-nil front)

pub terms_sign : (front : List TermContent) (room : ℕ) (neg : Bool) (u : Lexeme) (us : List Lexeme)
    → Some neg ≡ sign_of u
    → with_terms front (terms_at room None (u ∷ us)) ≡ with_terms front (terms_at room (Some neg) us)
terms_sign front room neg u us e =
    ap (λ s. with_terms front (by_sign s (Some ([], u ∷ us)) (λ neg. terms_at room (Some neg) us))) (sym e)

pub with_none : (r : Option (List TermContent × List Lexeme)) → with_terms [] r ≡ r
with_none None = refl
with_none (Some x) = refl

pub expr_plain : (t : Lexeme) (ts : List Lexeme) → None ≡ sign_of t
    → expression_at (t ∷ ts) ≡ terms_at 16 (Some false) (t ∷ ts)
expr_plain t ts e = ap (λ s. by_sign s (terms_at 16 (Some false) (t ∷ ts)) (λ neg. terms_at 16 (Some neg) ts)) (sym e)

pub expr_signed : (neg : Bool) (t : Lexeme) (ts : List Lexeme) → Some neg ≡ sign_of t
    → expression_at (t ∷ ts) ≡ terms_at 16 (Some neg) ts
expr_signed neg t ts e =
    ap (λ s. by_sign s (terms_at 16 (Some false) (t ∷ ts)) (λ neg. terms_at 16 (Some neg) ts)) (sym e)

-- terms that are read one by one
pub ruleset term_steps = (terms_one, terms_bad, terms_full, terms_stop, terms_nil, terms_sign)
