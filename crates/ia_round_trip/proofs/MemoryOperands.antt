-- The tokens of a printed place are read as the place.
use Rattle.std.proofs.Common.{◌≡◌, ℕ, zero, suc, ◌^◌, Bool, true, false, not, cond, List, [], ◌∷◌, ◌++◌, Option, Some}
use Rattle.std.proofs.Common.{None, refl, sym, ◌∙◌, ap, arith, is_some}
use Rattle.std.specs.Prelude.{◌==◌, ◌&&◌, ◌||◌, nat_lt}
use Rattle.std.proofs.lemmas.Bool.{ltb-true, eqb-true}
use Rattle.ia_word.specs.declared.width.Width.{Width}
use Rattle.ia_word.specs.declared.width.Width.TheVariants.{B, D}
use Rattle.ia_insn.specs.declared.operand.Mem.{Mem}
use Rattle.ia_insn.specs.Writing.{fits_base, fits_index, fits_mem}
use Rattle.ia_item.specs.Fields.{with_disp}
use Rattle.ia_lex.specs.Numbers.{small}
use Rattle.ia_lex.specs.Tokens.{Lexeme, Word, Number, Mark}
use Rattle.ia_lex.specs.Terms.{TermContent, symbol_of}
use Rattle.ia_lex.specs.Words.{register_of}
use Rattle.ia_text.specs.Names.{register_name}
use Rattle.ia_source.specs.MemoryOperands.{MemoryOperand, nowhere, if_long, if_scale, plain_or, both, of_length}
use Rattle.ia_source.specs.MemoryOperands.{keep_terms, by_new_piece, by_piece, memory_from, memory_of}
use Rattle.ia_round_trip.specs.PrintedTokens.{base_tokens, scale_value, index_tokens, disp_tokens}
use Rattle.ia_round_trip.specs.Operands.{part_of, disp_terms, displacement_terms}

pub register_known : (w : Width) (r : ℕ) → nat_lt r 8 ≡ true → register_of (register_name w r) ≡ Some (w, r)
register_known D zero h = refl
register_known D (suc zero) h = refl
register_known D (suc (suc zero)) h = refl
register_known D (suc (suc (suc zero))) h = refl
register_known D (suc (suc (suc (suc zero)))) h = refl
register_known D (suc (suc (suc (suc (suc zero))))) h = refl
register_known D (suc (suc (suc (suc (suc (suc zero)))))) h = refl
register_known D (suc (suc (suc (suc (suc (suc (suc zero))))))) h = refl
register_known D (suc (suc (suc (suc (suc (suc (suc (suc n)))))))) h = absurd (omega (arith, ltb-true _ _ h))
register_known B zero h = refl
register_known B (suc zero) h = refl
register_known B (suc (suc zero)) h = refl
register_known B (suc (suc (suc zero))) h = refl
register_known B (suc (suc (suc (suc zero)))) h = refl
register_known B (suc (suc (suc (suc (suc zero))))) h = refl
register_known B (suc (suc (suc (suc (suc (suc zero)))))) h = refl
register_known B (suc (suc (suc (suc (suc (suc (suc zero))))))) h = refl
register_known B (suc (suc (suc (suc (suc (suc (suc (suc n)))))))) h = absurd (omega (arith, ltb-true _ _ h))

-- what stands behind the registers
abbrev tail : Bool → ℕ → List Lexeme
tail z d = cond z [] ((Mark 43 ∷ []) ++ Number (small d) ∷ []) ++ Mark 93 ∷ []

abbrev tail_parts : Bool → ℕ → List TermContent
tail_parts z d = cond z [] (part_of d ∷ [])

place_end : (m : Mem) (z : Bool) (d : ℕ)
    → memory_from 0 m [] None (tail z d) ≡ Some (record { mem = m; terms = tail_parts z d })
place_end m true d = refl
place_end m false d = refl

base_alone : (w : List ℕ) (r : ℕ) (z : Bool) (d : ℕ) → register_of w ≡ Some (D, r)
    → memory_of (Word w ∷ tail z d)
    ≡ Some (record { mem = record { base = Some r; index = None; scale = 1; disp = 0 }; terms = tail_parts z d })
unfolding memory_of
base_alone w r true d e =
    ap (λ x. by_piece nowhere [] false true (of_length 1 (plain_or (if_long x) (symbol_of x w)))
    (λ m ps n. memory_from n m ps None (tail true d))) e
base_alone w r false d e =
    ap (λ x. by_piece nowhere [] false true (of_length 1 (plain_or (if_long x) (symbol_of x w)))
    (λ m ps n. memory_from n m ps None (tail false d))) e

abbrev scaled : List ℕ → ℕ → List Lexeme → List Lexeme
scaled w k ts = Word w ∷ Mark 42 ∷ Number (Some k) ∷ ts

index_step : (b : Option ℕ) (w : List ℕ) (i s k : ℕ) (ts : List Lexeme) → register_of w ≡ Some (D, i)
    → if_scale (Some k) ≡ Some s → (i == 4) ≡ false
    → memory_from 0 (record { base = b; index = None; scale = 1; disp = 0 }) [] (Some (false, true)) (scaled w k ts)
    ≡ memory_from 0 (record { base = b; index = Some i; scale = s; disp = 0 }) [] None ts
index_step b w i s k ts e f g =
    let start : Mem = record { base = b; index = None; scale = 1; disp = 0 } in
    let next : Mem → List TermContent → ℕ → Option MemoryOperand =
    λ m ps n. memory_from n m ps None (Mark 42 ∷ Number (Some k) ∷ ts) in
    ap (λ x. by_piece start [] false true (of_length 3 (both (if_long x) (if_scale (Some k)))) next) e
    ∙ ap (λ x. by_piece start [] false true (of_length 3 (both (Some i) x)) next) f
    ∙ ap
    (λ x. by_new_piece (keep_terms [] (cond x None (Some (record { base = b; index = Some i; scale = s; disp = 0 })))) 3
    next) g

-- ---- places

eq_one : (s : ℕ) → (s == 1) ≡ true → s ≡ 1
eq_one s h = eqb-true s 1 h

scale_pick : (a b c d : Bool) (s : ℕ) → ((a || b || c) || d) ≡ true → (a ≡ true → s ≡ 1) → (b ≡ true → s ≡ 2)
    → (c ≡ true → s ≡ 4) → (d ≡ true → s ≡ 8)
    → if_scale (Some (cond a 1 (cond b 2 (cond c 4 8)))) ≡ Some s
scale_pick true b c d s h p q r t = ap Some (sym (p refl))
scale_pick false true c d s h p q r t = ap Some (sym (q refl))
scale_pick false false true d s h p q r t = ap Some (sym (r refl))
scale_pick false false false true s h p q r t = ap Some (sym (t refl))
scale_pick false false false false s h p q r t = absurd cc

scale_known : (s : ℕ) → (s == 1 || s == 2 || s == 4 || s == 8) ≡ true → if_scale (Some (scale_value s)) ≡ Some s
scale_known s h =
    scale_pick (s == 1) (s == 2) (s == 4) (s == 8) s h (eqb-true s 1) (eqb-true s 2) (eqb-true s 4) (eqb-true s 8)

pub two : (a b : Bool) → (a && b) ≡ true → (a ≡ true) × (b ≡ true)
two true b e = (refl, e)
two false b e = absurd cc

not_true : (a : Bool) → not a ≡ true → a ≡ false
not_true false e = refl
not_true true e = absurd cc

-- behind an opening bracket
abbrev inner : Option ℕ → Option ℕ → ℕ → ℕ → List Lexeme
inner b i s d = base_tokens b ++ index_tokens (is_some b) i s ++ disp_tokens (is_some b || is_some i) d ++ Mark 93 ∷ []

abbrev IsPlace : Option ℕ → Option ℕ → ℕ → ℕ → Type 0
IsPlace b i s d = memory_of (inner b i s d) ≡ Some (record {
  mem = record { base = b; index = i; scale = s; disp = 0 };
  terms = disp_terms (is_some b || is_some i) d;
})

place_known : (b i : Option ℕ) (s d : ℕ) → fits_base b ≡ true → fits_index i s ≡ true → IsPlace b i s d
unfolding memory_of
place_known None None s d f g =
    ap (λ x. Some (record { mem = record { base = None; index = None; scale = x; disp = 0 }; terms = part_of d ∷ [] }))
    (sym (eq_one s g))
place_known (Some r) None s d f g =
    base_alone (register_name D r) r (d == 0) d (register_known D r f)
    ∙ ap (λ x. Some (record {
      mem = record { base = Some r; index = None; scale = x; disp = 0 };
      terms = tail_parts (d == 0) d;
    })) (sym (eq_one s g))
place_known None (Some i) s d f g =
    let (g1, g2) = two (nat_lt i 8 && not (i == 4)) (s == 1 || s == 2 || s == 4 || s == 8) g in
    let (g3, g4) = two (nat_lt i 8) (not (i == 4)) g1 in
    index_step None (register_name D i) i s (scale_value s) (tail (d == 0) d) (register_known D i g3) (scale_known s g2)
    (not_true (i == 4) g4)
    ∙ place_end (record { base = None; index = Some i; scale = s; disp = 0 }) (d == 0) d
place_known (Some r) (Some i) s d f g =
    let (g1, g2) = two (nat_lt i 8 && not (i == 4)) (s == 1 || s == 2 || s == 4 || s == 8) g in
    let (g3, g4) = two (nat_lt i 8) (not (i == 4)) g1 in
    let ts : List Lexeme = Mark 43 ∷ scaled (register_name D i) (scale_value s) (tail (d == 0) d) in
    ap (λ x. by_piece nowhere [] false true (of_length 1 (plain_or (if_long x) (symbol_of x (register_name D r))))
    (λ m ps n. memory_from n m ps None ts)) (register_known D r f)
    ∙ index_step (Some r) (register_name D i) i s (scale_value s) (tail (d == 0) d) (register_known D i g3)
    (scale_known s g2) (not_true (i == 4) g4)
    ∙ place_end (record { base = Some r; index = Some i; scale = s; disp = 0 }) (d == 0) d

pub place_again : (m : Mem) → fits_mem m ≡ true
    → memory_of (inner m.base m.index m.scale m.disp)
    ≡ Some (record { mem = with_disp m 0; terms = displacement_terms m })
place_again m e =
    let (e1, e2) = two (fits_base m.base && fits_index m.index m.scale) (nat_lt m.disp (2 ^ 32)) e in
    let (e3, e4) = two (fits_base m.base) (fits_index m.index m.scale) e1 in
    place_known m.base m.index m.scale m.disp e3 e4
