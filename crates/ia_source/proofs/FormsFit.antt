-- Every sum that is read has 1 to 16 terms, and every place at most 16.
use Rattle.std.proofs.Common.{◌≡◌, ℕ, zero, suc, ◌+◌, ◌-◌, ◌<◌, ◌≤◌, Bool, true, false, not, cond, List, [], ◌∷◌, ◌++◌}
use Rattle.std.proofs.Common.{Option, Some, None, refl, ap, subst, map, length, arith, nat_lt, length-append}
use Rattle.std.proofs.lemmas.List.{length-map}
use Rattle.std.specs.Prelude.{option_map, ◌==◌}
use Rattle.ia_word.specs.declared.width.Width.{Width}
use Rattle.ia_lex.specs.Tokens.{Lexeme, Word, Number, Text as Quoted, Mark}
use Rattle.ia_lex.specs.Terms.{AtomContent, TermContent, atom_of, sign_of, by_atom, by_sign, terms_at, expression_at}
use Rattle.ia_insn.specs.declared.operand.Mem.{Mem}
use Rattle.ia_form.specs.declared.shape.OperandShape.{OperandShape}
use Rattle.ia_form.specs.declared.shape.OperandShape.TheVariants as shape
use Rattle.ia_form.specs.declared.shape.OperandShapes.{OperandShapes}
use Rattle.ia_source.specs.declared.operand.OperandPrefix.{OperandPrefix}
use Rattle.ia_source.specs.declared.operand.OperandPrefix.TheVariants as prefix
use Rattle.ia_source.specs.MemoryOperands.{MemoryOperand, Piece, Register, Scaled, Valued, with_register, with_scaled}
use Rattle.ia_source.specs.MemoryOperands.{with_term, keep_terms, keep_mem, with_piece, by_new_piece, by_piece}
use Rattle.ia_source.specs.MemoryOperands.{memory_end, memory_from, memory_of, piece_at, nowhere}
use Rattle.ia_source.specs.Commas.{is_mark_of, between_commas}
use Rattle.ia_source.specs.Operands.{Operand, Operands, whole, expression_of, expression_operand, memory_operand}
use Rattle.ia_source.specs.Operands.{sized_memory, register_operand, prefix_of, by_prefix, operand_of, with_shape}
use Rattle.ia_source.specs.Operands.{with_terms, with_operand, by_operands, by_operand, operands_from, operands_of}
use Rattle.ia_source.specs.Operands.{empty_operands}
use Rattle.ia_source.specs.Fits.{FitsTerms}

-- ---- expressions

count : Option (List TermContent × List Lexeme) → ℕ
count None = 0
count (Some x) = length x.0

counted : Option (List TermContent) → ℕ
counted None = 0
counted (Some ps) = length ps

-- what is read has at most so many terms
abbrev Most : ℕ → Option (List TermContent × List Lexeme) → Type 0
Most n r = (x : List TermContent × List Lexeme) → r ≡ Some x → length x.0 ≤ n

by_cases : {X : Type 0} (P : X → Type 0) (s : Option Bool) (plain : X) (signed : Bool → X) → P plain
    → ((neg : Bool) → P (signed neg)) → P (by_sign s plain signed)
by_cases P None plain signed p f = p
by_cases P (Some neg) plain signed p f = f neg

more_parts : (a : Option AtomContent) (neg : Bool) (r : Option (List TermContent × List Lexeme)) (room : ℕ)
    → Most room r → Most (suc room) (by_atom a neg r)
unfolding count
more_parts None neg r room m x e = absurd (cc)
more_parts (Some v) neg None room m x e = absurd (cc)
more_parts (Some v) neg (Some y) room m x e =
    let h : length y.0 ≤ room = m y refl in
    let k : suc (length y.0) ≡ length x.0 = ap count e in
    omega (arith, k, h)

most : (room : ℕ) (after : Option Bool) (ts : List Lexeme) → Most room (terms_at room after ts)
unfolding count
most room None [] x e = let k : 0 ≡ length x.0 = ap count e in omega (arith, k)
most room None (t ∷ ts) x e = by_cases (Most room) (sign_of t) (Some ([], t ∷ ts)) (λ neg. terms_at room (Some neg) ts)
    (λ x e. let k : 0 ≡ length x.0 = ap count e in omega (arith, k)) (λ neg. most room (Some neg) ts) x e
most room (Some neg) [] x e = absurd (cc)
most zero (Some neg) (t ∷ ts) x e = absurd (cc)
most (suc room) (Some neg) (t ∷ ts) x e =
    more_parts (atom_of t) neg (terms_at room None ts) room (most room None ts) x e

one_part : (a : Option AtomContent) (neg : Bool) (r : Option (List TermContent × List Lexeme))
    (x : List TermContent × List Lexeme) → by_atom a neg r ≡ Some x → 1 ≤ length x.0
unfolding count
one_part None neg r x e = absurd (cc)
one_part (Some v) neg None x e = absurd (cc)
one_part (Some v) neg (Some y) x e = let k : suc (length y.0) ≡ length x.0 = ap count e in omega (arith, k)

has_part : (room : ℕ) (neg : Bool) (ts : List Lexeme) (x : List TermContent × List Lexeme)
    → terms_at room (Some neg) ts ≡ Some x → 1 ≤ length x.0
has_part room neg [] x e = absurd (cc)
has_part zero neg (t ∷ ts) x e = absurd (cc)
has_part (suc room) neg (t ∷ ts) x e = one_part (atom_of t) neg (terms_at room None ts) x e

abbrev ReadsParts : Option (List TermContent × List Lexeme) → Type 0
ReadsParts r = (x : List TermContent × List Lexeme) → r ≡ Some x → FitsTerms x.0

expr_fits : (ts : List Lexeme) → ReadsParts (expression_at ts)
expr_fits [] x e = absurd (cc)
expr_fits (t ∷ ts) x e =
    by_cases ReadsParts (sign_of t) (terms_at 16 (Some false) (t ∷ ts)) (λ neg. terms_at 16 (Some neg) ts)
    (λ x e. (has_part 16 false (t ∷ ts) x e, most 16 (Some false) (t ∷ ts) x e))
    (λ neg x e. (has_part 16 neg ts x e, most 16 (Some neg) ts x e)) x e

-- an expression that is read has 1 to 16 terms
abbrev pub ReadsSum : Option (List TermContent) → Type 0
ReadsSum r = (ps : List TermContent) → r ≡ Some ps → FitsTerms ps

whole_fits : (r : Option (List TermContent × List Lexeme)) → ReadsParts r → ReadsSum (whole r)
unfolding counted
whole_fits None f ps e = absurd (cc)
whole_fits (Some (qs, [])) f ps e =
    let k : length qs ≡ length ps = ap counted e in
    let h : FitsTerms qs = f (qs, []) refl in
    (omega (arith, k, h.0), omega (arith, k, h.1))
whole_fits (Some (qs, t ∷ ts)) f ps e = absurd (cc)

pub sum_fits : (ts : List Lexeme) → ReadsSum (expression_of ts)
sum_fits ts = whole_fits (expression_at ts) (expr_fits ts)

pub mapped_fits : (g : TermContent → TermContent) (r : Option (List TermContent)) → ReadsSum r
    → ReadsSum (option_map (map g) r)
unfolding counted
mapped_fits g None f qs e = absurd (cc)
mapped_fits g (Some ps) f qs e =
    let k : length (map g ps) ≡ length qs = ap counted e in
    let l : length (map g ps) ≡ length ps = length-map ps g in
    let h : FitsTerms ps = f ps refl in
    (omega (arith, k, l, h.0), omega (arith, k, l, h.1))

-- ---- places

kept : (b : Bool) (qs rs : List TermContent) → cond b (Some qs) None ≡ Some rs → (b ≡ true) × (length qs ≡ length rs)
unfolding counted
kept true qs rs e = (refl, ap counted e)
kept false qs rs e = absurd (cc)

part_fits : (ps : List TermContent) (neg : Bool) (v : AtomContent) (qs : List TermContent)
    → with_term ps neg v ≡ Some qs → length qs ≤ 16
part_fits ps neg v qs e =
    let p : TermContent = record { negative = neg; atom = v } in
    let k = kept (nat_lt (length ps) 16) (ps ++ p ∷ []) qs e in
    let l : length ps < 16 = grind (arith, k.0) in
    let a : length (ps ++ p ∷ []) ≡ length ps + 1 = length-append ps (p ∷ []) in
    omega (arith, k.1, l, a)

abbrev ReadsJoined : Option (Mem × List TermContent) → Type 0
ReadsJoined r = (x : Mem × List TermContent) → r ≡ Some x → length x.1 ≤ 16

behind_mem : Option (Mem × List TermContent) → ℕ
behind_mem None = 0
behind_mem (Some x) = length x.1

keep_fits : (o : Option Mem) (ps : List TermContent) → length ps ≤ 16 → ReadsJoined (keep_terms ps o)
unfolding behind_mem
keep_fits None ps h x e = absurd (cc)
keep_fits (Some m) ps h x e = let k : length ps ≡ length x.1 = ap behind_mem e in omega (arith, k, h)

keep_mem_fits : (o : Option (List TermContent)) (m : Mem) → ((qs : List TermContent) → o ≡ Some qs → length qs ≤ 16)
    → ReadsJoined (keep_mem m o)
unfolding behind_mem
keep_mem_fits None m f x e = absurd (cc)
keep_mem_fits (Some qs) m f x e =
    let k : length qs ≡ length x.1 = ap behind_mem e in let h : length qs ≤ 16 = f qs refl in omega (arith, k, h)

joined_fits : (m : Mem) (ps : List TermContent) (neg register : Bool) (p : Piece) → length ps ≤ 16
    → ReadsJoined (with_piece m ps neg register p)
joined_fits m ps neg true (Register r) h x e = keep_fits (with_register m r) ps h x e
joined_fits m ps neg false (Register r) h x e = absurd (cc)
joined_fits m ps neg true (Scaled r s) h x e = keep_fits (with_scaled m r s) ps h x e
joined_fits m ps neg false (Scaled r s) h x e = absurd (cc)
joined_fits m ps neg register (Valued v) h x e = keep_mem_fits (with_term ps neg v) m (part_fits ps neg v) x e

abbrev ReadsMemory : Option MemoryOperand → Type 0
ReadsMemory r = (p : MemoryOperand) → r ≡ Some p → length p.terms ≤ 16

in_memory : Option MemoryOperand → ℕ
in_memory None = 0
in_memory (Some p) = length p.terms

ended_fits : (m : Mem) (ps : List TermContent) (ts : List Lexeme) → length ps ≤ 16 → ReadsMemory (memory_end m ps ts)
unfolding in_memory
ended_fits m ps [] h p e = let k : length ps ≡ length p.terms = ap in_memory e in omega (arith, k, h)
ended_fits m ps (t ∷ ts) h p e = absurd (cc)

abbrev ReadsNext : (Mem → List TermContent → ℕ → Option MemoryOperand) → Type 0
ReadsNext next = (m : Mem) (ps : List TermContent) (n : ℕ) → length ps ≤ 16 → ReadsMemory (next m ps n)

by_joined_fits : (r : Option (Mem × List TermContent)) (n : ℕ)
    (next : Mem → List TermContent → ℕ → Option MemoryOperand) → ReadsJoined r → ReadsNext next
    → ReadsMemory (by_new_piece r n next)
by_joined_fits None n next f g p e = absurd (cc)
by_joined_fits (Some x) n next f g p e = g x.0 x.1 (n - 1) (f x refl) p e

by_piece_fits : (m : Mem) (ps : List TermContent) (neg register : Bool) (q : Option (Piece × ℕ))
    (next : Mem → List TermContent → ℕ → Option MemoryOperand) → length ps ≤ 16 → ReadsNext next
    → ReadsMemory (by_piece m ps neg register q next)
by_piece_fits m ps neg register None next h g p e = absurd (cc)
by_piece_fits m ps neg register (Some q) next h g p e =
    by_joined_fits (with_piece m ps neg register q.0) q.1 next (joined_fits m ps neg register q.0 h) g p e

by_bool : {X : Type 0} (P : X → Type 0) (b : Bool) (x y : X) → P x → P y → P (cond b x y)
by_bool P true x y p q = p
by_bool P false x y p q = q

none_read : ReadsMemory None
none_read p e = absurd (cc)

memory_from_fits : (k : ℕ) (m : Mem) (ps : List TermContent) (j : Option (Bool × Bool)) (ts : List Lexeme)
    → length ps ≤ 16 → ReadsMemory (memory_from k m ps j ts)
memory_from_fits k m ps j [] h = none_read
memory_from_fits (suc k) m ps j (t ∷ ts) h = memory_from_fits k m ps j ts h
memory_from_fits zero m ps None (t ∷ ts) h = by_bool ReadsMemory (is_mark_of 93 t) (memory_end m ps ts)
    (by_sign (sign_of t) None (λ neg. memory_from 0 m ps (Some (neg, not neg)) ts))
    (ended_fits m ps ts h)
    (by_cases ReadsMemory (sign_of t) None (λ neg. memory_from 0 m ps (Some (neg, not neg)) ts) none_read
    (λ neg. memory_from_fits 0 m ps (Some (neg, not neg)) ts h))
memory_from_fits zero m ps (Some j) (t ∷ ts) h = by_piece_fits m ps j.0 j.1 (piece_at (t ∷ ts))
    (λ m ps n. memory_from n m ps None ts) h (λ m ps n h. memory_from_fits n m ps None ts h)

memory_fits : (ts : List Lexeme) → ReadsMemory (memory_of ts)
unfolding memory_of
memory_fits [] = none_read
memory_fits (t ∷ ts) = by_cases ReadsMemory (sign_of t) (memory_from 0 nowhere [] (Some (false, true)) (t ∷ ts))
    (λ neg. memory_from 0 nowhere [] (Some (neg, false)) ts)
    (memory_from_fits 0 nowhere [] (Some (false, true)) (t ∷ ts) (omega arith))
    (λ neg. memory_from_fits 0 nowhere [] (Some (neg, false)) ts (omega arith))

-- ---- operands

abbrev ReadsOperand : Option Operand → Type 0
ReadsOperand r = (o : Operand) → r ≡ Some o → length o.terms ≤ 16

in_operand : Option Operand → ℕ
in_operand None = 0
in_operand (Some o) = length o.terms

no_operand : ReadsOperand None
no_operand o e = absurd (cc)

summed_with : (s : OperandShape) (r : Option (List TermContent)) → ReadsSum r
    → ReadsOperand (option_map (λ ps. record { shape = s; terms = ps }) r)
unfolding in_operand
summed_with s None f o e = absurd (cc)
summed_with s (Some ps) f o e =
    let k : length ps ≡ length o.terms = ap in_operand e in let h : FitsTerms ps = f ps refl in omega (arith, k, h.1)

expression_fits : (s : OperandShape) (ts : List Lexeme) → ReadsOperand (expression_operand s ts)
expression_fits s ts = summed_with s (expression_of ts) (sum_fits ts)

memory_operand_with : (size : Option Width) (r : Option MemoryOperand) → ReadsMemory r
    → ReadsOperand (option_map (λ p. record { shape = shape.Memory size p.mem; terms = p.terms }) r)
unfolding in_operand
memory_operand_with size None f o e = absurd (cc)
memory_operand_with size (Some p) f o e = let k : length p.terms ≡ length o.terms = ap in_operand e in
    let h : length p.terms ≤ 16 = f p refl in omega (arith, k, h)

memory_operand_fits : (size : Option Width) (ts : List Lexeme) → ReadsOperand (memory_operand size ts)
memory_operand_fits size ts = memory_operand_with size (memory_of ts) (memory_fits ts)

sized_fits : (w : Width) (ts : List Lexeme) → ReadsOperand (sized_memory w ts)
sized_fits w [] = no_operand
sized_fits w (Mark b ∷ ts) =
    by_bool ReadsOperand (b == 91) (memory_operand (Some w) ts) None (memory_operand_fits (Some w) ts) no_operand
sized_fits w (Word v ∷ ts) = no_operand
sized_fits w (Number n ∷ ts) = no_operand
sized_fits w (Quoted t ∷ ts) = no_operand

register_fits : (w : Width) (r : ℕ) (ts : List Lexeme) → ReadsOperand (register_operand w r ts)
unfolding in_operand
register_fits w r [] o e = let k : 0 ≡ length o.terms = ap in_operand e in omega (arith, k)
register_fits w r (t ∷ ts) o e = no_operand o e

prefix_fits : (l : Option OperandPrefix) (w : List ℕ) (ts : List Lexeme) → ReadsOperand (by_prefix l w ts)
prefix_fits None w ts = expression_fits shape.Number (Word w ∷ ts)
prefix_fits (Some (prefix.Register v r)) w ts = register_fits v r ts
prefix_fits (Some (prefix.Size v)) w ts = sized_fits v ts
prefix_fits (Some prefix.Near) w ts = expression_fits shape.Near ts
prefix_fits (Some prefix.Short) w ts = expression_fits shape.Short ts

operand_fits : (ts : List Lexeme) → ReadsOperand (operand_of ts)
unfolding operand_of
operand_fits [] = no_operand
operand_fits (Word w ∷ ts) = prefix_fits (prefix_of w) w ts
operand_fits (Mark b ∷ ts) =
    by_bool ReadsOperand (b == 91) (memory_operand None ts) (expression_operand shape.Number (Mark b ∷ ts))
    (memory_operand_fits None ts) (expression_fits shape.Number (Mark b ∷ ts))
operand_fits (Number n ∷ ts) = expression_fits shape.Number (Number n ∷ ts)
operand_fits (Quoted t ∷ ts) = expression_fits shape.Number (Quoted t ∷ ts)

-- ---- all operands

pub record FitOperands (os : Operands) : Type 0 where
  pub number : length os.number ≤ 16
  pub displacement : length os.displacement ≤ 16

abbrev pub ReadsOperands : Option Operands → Type 0
ReadsOperands r = (os : Operands) → r ≡ Some os → FitOperands os

nothing_read : ReadsOperands None
nothing_read os e = absurd (cc)

just_read : (qs : Operands) → FitOperands qs → ReadsOperands (Some qs)
just_read qs h os e = let k : qs ≡ os = cc in subst FitOperands k h

with_parts_fits : (os : Operands) (s : OperandShape) (ps : List TermContent) (shapes : OperandShapes) → FitOperands os
    → length ps ≤ 16 → FitOperands (with_terms os s ps shapes)
with_parts_fits os (shape.Register w r) ps shapes h l = record { number = h.number; displacement = h.displacement }
with_parts_fits os (shape.Memory size m) ps shapes h l = record { number = h.number; displacement = l }
with_parts_fits os shape.Number ps shapes h l = record { number = l; displacement = h.displacement }
with_parts_fits os shape.Near ps shapes h l = record { number = l; displacement = h.displacement }
with_parts_fits os shape.Short ps shapes h l = record { number = l; displacement = h.displacement }

with_shapes_fits : (os : Operands) (o : Operand) (r : Option OperandShapes) → FitOperands os → length o.terms ≤ 16
    → ReadsOperands (option_map (with_terms os o.shape o.terms) r)
with_shapes_fits os o None h l = nothing_read
with_shapes_fits os o (Some shapes) h l =
    just_read (with_terms os o.shape o.terms shapes) (with_parts_fits os o.shape o.terms shapes h l)

by_operands_fits : (r : Option Operands) (next : Operands → Option Operands) → ReadsOperands r
    → ((os : Operands) → FitOperands os → ReadsOperands (next os)) → ReadsOperands (by_operands r next)
by_operands_fits None next f g = nothing_read
by_operands_fits (Some os) next f g = g os (f os refl)

by_operand_fits : (os : Operands) (r : Option Operand) (next : Operands → Option Operands) → FitOperands os
    → ReadsOperand r → ((os : Operands) → FitOperands os → ReadsOperands (next os))
    → ReadsOperands (by_operand os r next)
by_operand_fits os None next h f g = nothing_read
by_operand_fits os (Some o) next h f g =
    by_operands_fits (with_operand os o) next (with_shapes_fits os o (with_shape os.shapes o.shape) h (f o refl)) g

from_fits : (os : Operands) (ps : List (List Lexeme)) → FitOperands os → ReadsOperands (operands_from os ps)
from_fits os [] h = just_read os h
from_fits os (p ∷ ps) h = by_operand_fits os (operand_of p) (λ more. operands_from more ps) h (operand_fits p)
    (λ more fit. from_fits more ps fit)

none_fit : FitOperands empty_operands
none_fit = record { number = omega arith; displacement = omega arith }

pub operands_fit : (ts : List Lexeme) → ReadsOperands (operands_of ts)
operands_fit [] = just_read empty_operands none_fit
operands_fit (t ∷ ts) = from_fits empty_operands (between_commas (t ∷ ts)) none_fit
