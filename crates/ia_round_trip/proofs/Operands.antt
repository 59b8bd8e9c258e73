-- The tokens of printed operands are read as the operands.
use Rattle.std.proofs.Common.{◌≡◌, ℕ, Bool, true, false, List, [], ◌∷◌, ◌++◌, Option, Some, None, refl, ◌∙◌, ap}
use Rattle.std.proofs.Common.{append_assoc, append-nil, is_some}
use Rattle.std.specs.List.{AllByRecursion}
use Rattle.std.specs.Prelude.{option_map, option_to_list, ◌==◌, ◌||◌, ◌&&◌, cond}
use Rattle.ia_word.specs.declared.width.Width.TheVariants.{B, D}
use Rattle.ia_insn.specs.declared.op.Op.{Op}
use Rattle.ia_insn.specs.declared.op.Op.TheVariants as op
use Rattle.ia_insn.specs.declared.operand.Mem.{Mem}
use Rattle.ia_lex.specs.Numbers.{small}
use Rattle.ia_lex.specs.Tokens.{Lexeme, Number, Mark}
use Rattle.ia_lex.specs.Words.{find_word}
use Rattle.ia_text.specs.declared.arg.Arg.{Arg}
use Rattle.ia_text.specs.declared.arg.Arg.TheVariants as arg
use Rattle.ia_text.specs.Names.{register_name}
use Rattle.ia_text.specs.Arguments.{first_arg, second_arg, third_arg}
use Rattle.ia_form.specs.declared.shape.OperandShape.TheVariants as shape
use Rattle.ia_source.specs.declared.operand.OperandPrefix.TheVariants.{Register}
use Rattle.ia_source.specs.Keywords.{or_else}
use Rattle.ia_source.specs.Commas.{is_comma, onto_first, between_commas}
use Rattle.ia_source.specs.Operands.{Operands, prefix_rows, by_prefix, operand_of, operands_of, operands_from}
use Rattle.ia_source.specs.Operands.{with_operand, by_operands, by_operand, empty_operands}
use Rattle.ia_round_trip.specs.PrintedTokens.{plus_tokens, base_tokens, index_tokens, disp_tokens, mem_tokens}
use Rattle.ia_round_trip.specs.PrintedTokens.{arg_tokens, behind_tokens}
use Rattle.ia_round_trip.specs.Operands.{operand_for, FitsArg, operands_for, OperandReadsBack, OperandsReadBack}
use Rattle.ia_round_trip.proofs.MemoryOperands.{register_known, place_again}

-- ---- one operand

pub operand_reads_back : OperandReadsBack
unfolding operand_of
operand_reads_back (arg.Register w r) h =
    ap (λ x. by_prefix (or_else (option_map (λ r. Register r.0 r.1) x) (find_word prefix_rows (register_name w r)))
    (register_name w r) []) (register_known w r h)
operand_reads_back (arg.Place B m) h =
    ap (option_map (λ p. record { shape = shape.Memory (Some B) p.mem; terms = p.terms })) (place_again m h)
operand_reads_back (arg.Place D m) h =
    ap (option_map (λ p. record { shape = shape.Memory (Some D) p.mem; terms = p.terms })) (place_again m h)
operand_reads_back (arg.Address m) h =
    ap (option_map (λ p. record { shape = shape.Memory None p.mem; terms = p.terms })) (place_again m h)
operand_reads_back (arg.Number n) h = refl
operand_reads_back (arg.Short n) h = refl
operand_reads_back arg.Cl h = refl

-- ---- commas

abbrev NoComma : List Lexeme → Type 0
NoComma [] = Unit {0}
NoComma (t ∷ ts) = (is_comma t ≡ false) × NoComma ts

piece_end : (ts : List Lexeme) → NoComma ts → between_commas ts ≡ ts ∷ []
piece_end [] h = refl
piece_end (t ∷ ts) h =
    ap (λ x. cond x ([] ∷ between_commas ts) (onto_first t (between_commas ts))) h.0
    ∙ ap (onto_first t) (piece_end ts h.1)

piece_more : (ts rest : List Lexeme) → NoComma ts → between_commas (ts ++ Mark 44 ∷ rest) ≡ ts ∷ between_commas rest
piece_more [] rest h = refl
piece_more (t ∷ ts) rest h =
    ap (λ x. cond x ([] ∷ between_commas (ts ++ Mark 44 ∷ rest)) (onto_first t (between_commas (ts ++ Mark 44 ∷ rest))))
    h.0
    ∙ ap (onto_first t) (piece_more ts rest h.1)

no_append : (a b : List Lexeme) → NoComma a → NoComma b → NoComma (a ++ b)
no_append [] b g h = h
no_append (t ∷ a) b g h = (g.0, no_append a b g.1 h)

base_none : (b : Option ℕ) → NoComma (base_tokens b)
base_none None = tt
base_none (Some r) = (refl, tt)

index_none : (before : Bool) (i : Option ℕ) (s : ℕ) → NoComma (index_tokens before i s)
index_none before None s = tt
index_none true (Some r) s = (refl, (refl, (refl, (refl, tt))))
index_none false (Some r) s = (refl, (refl, (refl, tt)))

disp_pick : (z before : Bool) (d : ℕ) → NoComma (cond z [] (plus_tokens before ++ Number (small d) ∷ []))
disp_pick true before d = tt
disp_pick false true d = (refl, (refl, tt))
disp_pick false false d = (refl, tt)

mem_none : (m : Mem) → NoComma (mem_tokens m)
mem_none m =
    let before : Bool = is_some m.base || is_some m.index in
    no_append
    ((Mark 91 ∷ []) ++ base_tokens m.base ++ index_tokens (is_some m.base) m.index m.scale ++ disp_tokens before m.disp)
    (Mark 93 ∷ [])
    (no_append ((Mark 91 ∷ []) ++ base_tokens m.base ++ index_tokens (is_some m.base) m.index m.scale)
    (disp_tokens before m.disp)
    (no_append ((Mark 91 ∷ []) ++ base_tokens m.base) (index_tokens (is_some m.base) m.index m.scale)
    (refl, base_none m.base)
    (index_none (is_some m.base) m.index m.scale))
    (disp_pick (before && (m.disp == 0)) before m.disp))
    (refl, tt)

arg_none : (a : Arg) → NoComma (arg_tokens a)
arg_none (arg.Register w r) = (refl, tt)
arg_none (arg.Place w m) = (refl, mem_none m)
arg_none (arg.Address m) = mem_none m
arg_none (arg.Number n) = (refl, tt)
arg_none (arg.Short n) = (refl, (refl, tt))
arg_none arg.Cl = (refl, tt)

-- ---- all operands

-- an operand has a token
resolved_insn : (a : Arg) (rest : List Lexeme)
    → operands_of (arg_tokens a ++ rest) ≡ operands_from empty_operands (between_commas (arg_tokens a ++ rest))
resolved_insn (arg.Register w r) rest = refl
resolved_insn (arg.Place w m) rest = refl
resolved_insn (arg.Address m) rest = refl
resolved_insn (arg.Number n) rest = refl
resolved_insn (arg.Short n) rest = refl
resolved_insn arg.Cl rest = refl

one_from : (os : Operands) (a : Arg) → FitsArg a
    → operands_from os (between_commas (arg_tokens a)) ≡ operands_for os (a ∷ [])
one_from os a h =
    ap (operands_from os) (piece_end (arg_tokens a) (arg_none a))
    ∙ ap (λ o. by_operand os o (λ more. operands_from more [])) (operand_reads_back a h)

same_after : (x : Option Operands) (f g : Operands → Option Operands) → ((os : Operands) → f os ≡ g os)
    → by_operands x f ≡ by_operands x g
same_after None f g k = refl
same_after (Some os) f g k = k os

more_from : (os : Operands) (a : Arg) (rest : List Lexeme) (others : List Arg) → FitsArg a
    → ((os : Operands) → operands_from os (between_commas rest) ≡ operands_for os others)
    → operands_from os (between_commas (arg_tokens a ++ Mark 44 ∷ rest)) ≡ operands_for os (a ∷ others)
more_from os a rest others h k =
    ap (operands_from os) (piece_more (arg_tokens a) rest (arg_none a))
    ∙ ap (λ o. by_operand os o (λ more. operands_from more (between_commas rest))) (operand_reads_back a h)
    ∙ same_after (with_operand os (operand_for a)) (λ more. operands_from more (between_commas rest))
    (λ more. operands_for more others) k

-- those that an operation has stand in front
abbrev InOrder : Option Arg → Option Arg → Option Arg → Type 0
InOrder None None None = Unit {0}
InOrder (Some a) None None = Unit {0}
InOrder (Some a) (Some b) None = Unit {0}
InOrder (Some a) (Some b) (Some c) = Unit {0}
InOrder _ _ _ = ⊥

abbrev listing_with : Option Arg → Option Arg → Option Arg → List Arg
listing_with a b c = option_to_list a ++ option_to_list b ++ option_to_list c

in_order : (o : Op) (at : ℕ) → InOrder (first_arg o at) (second_arg o at) (third_arg o at)
in_order (op.Alu k w m s) at = tt
in_order _ at = tt

listed_again : (a b c : Option Arg) → InOrder a b c → AllByRecursion FitsArg (listing_with a b c)
    → operands_of (behind_tokens [] a ++ behind_tokens (Mark 44 ∷ []) b ++ behind_tokens (Mark 44 ∷ []) c)
    ≡ operands_for empty_operands (listing_with a b c)
listed_again None None None k h = refl
listed_again (Some a) None None k h =
    ap operands_of (append-nil (arg_tokens a ++ [])) ∙ resolved_insn a []
    ∙ ap (λ ts. operands_from empty_operands (between_commas ts)) (append-nil (arg_tokens a))
    ∙ one_from empty_operands a h.0
listed_again (Some a) (Some b) None k h =
    let more : List Lexeme = Mark 44 ∷ arg_tokens b in
    ap operands_of (append-nil (arg_tokens a ++ more)) ∙ resolved_insn a more
    ∙ more_from empty_operands a (arg_tokens b) (b ∷ []) h.0 (λ os. one_from os b h.1.0)
listed_again (Some a) (Some b) (Some c) k h =
    let more : List Lexeme = Mark 44 ∷ (arg_tokens b ++ Mark 44 ∷ arg_tokens c) in
    ap operands_of (append_assoc (arg_tokens a) (Mark 44 ∷ arg_tokens b) (Mark 44 ∷ arg_tokens c))
    ∙ resolved_insn a more
    ∙ more_from empty_operands a (arg_tokens b ++ Mark 44 ∷ arg_tokens c) (b ∷ c ∷ []) h.0
    (λ os. more_from os b (arg_tokens c) (c ∷ []) h.1.0 (λ os. one_from os c h.1.1.0))
listed_again None None (Some c) k h = absurd k
listed_again None (Some b) c k h = absurd k
listed_again (Some a) None (Some c) k h = absurd k

pub operands_read_back : OperandsReadBack
operands_read_back o at h = listed_again (first_arg o at) (second_arg o at) (third_arg o at) (in_order o at) h
