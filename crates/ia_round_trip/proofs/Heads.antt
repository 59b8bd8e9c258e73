-- The head of a printed line is read.
use Rattle.std.proofs.Common.{◌≡◌, ℕ, Bool, true, false, not, cond, List, [], ◌∷◌, ◌++◌, Some, None, refl, ◌∙◌, ap}
use Rattle.std.proofs.Common.{codes, is_some}
use Rattle.std.specs.Prelude.{◌&&◌}
use Rattle.ia_word.specs.declared.operation.AluOp.TheVariants as alu
use Rattle.ia_word.specs.declared.operation.ShiftOp.TheVariants as shift
use Rattle.ia_word.specs.declared.operation.BitOp.TheVariants as bit
use Rattle.ia_word.specs.declared.operation.UnaryOp.TheVariants as unary
use Rattle.ia_word.specs.declared.operation.IncDecOp.TheVariants as inc_dec
use Rattle.ia_word.specs.declared.operation.ExtendOp.TheVariants as extend
use Rattle.ia_word.specs.declared.operation.ExchangeOp.TheVariants as exchange
use Rattle.ia_word.specs.declared.operation.LoopOp.TheVariants as loop
use Rattle.ia_word.specs.declared.operation.BareOp.TheVariants as bare
use Rattle.ia_word.specs.declared.condition.Condition.TheVariants as is
use Rattle.ia_insn.specs.declared.op.Op.{Op}
use Rattle.ia_insn.specs.declared.op.Op.TheVariants as op
use Rattle.ia_lex.specs.Tokens.{Lexeme, Word}
use Rattle.ia_lex.specs.Words.{register_of}
use Rattle.ia_insn.specs.Mnemonics.{mnemonic_of, name_of}
use Rattle.ia_insn.specs.Operations.{arithmetic, moves, jumps, bare_names, conditions, other_names, other_conditions}
use Rattle.ia_source.specs.declared.directive.Keyword.TheVariants.{Mnemonic as Name}
use Rattle.ia_source.specs.declared.head.Statement.TheVariants.{Code}
use Rattle.ia_source.specs.Keywords.{keyword_of, mnemonic_named, unconditional, conditional, condition_of, order_of}
use Rattle.ia_source.specs.Heads.{head_of, with_label, statement_at, behind_colon, by_keyword, statement_behind_lock}
use Rattle.ia_round_trip.specs.PrintedTokens.{args_tokens}
use Rattle.ia_round_trip.specs.Mnemonics.{HeadReadsBack}

known : (o : Op) → keyword_of (name_of (mnemonic_of o)) ≡ Some (Name (mnemonic_of o))
unfolding keyword_of mnemonic_named unconditional conditional condition_of
    arithmetic moves jumps bare_names conditions other_names
known (op.Alu alu.Add w m s) = refl
known (op.IncDec inc_dec.Inc w m) = refl
known (op.Unary unary.Not m) = refl
known (op.Shift shift.Rol m n) = refl
known (op.Jcc is.Overflow d) = refl
known (op.JccShort is.Overflow d) = refl
known (op.Setcc is.Overflow m) = refl
known (op.Cmovcc is.Overflow r m) = refl
known (op.LoopJump loop.Loop d) = refl
known (op.Extend extend.Zero r m) = refl
known (op.Exchange exchange.Compare m r) = refl
known (op.Bit bit.Bt m n) = refl
known (op.Bare bare.Leave) = refl
known _ = refl

lock_known : (w : List ℕ) (ts : List Lexeme)
    → head_of (Word (codes "lock") ∷ Word w ∷ ts) ≡ with_label None (statement_behind_lock (keyword_of w) ts)
unfolding keyword_of mnemonic_named unconditional conditional condition_of order_of
    arithmetic moves jumps bare_names conditions other_names other_conditions
lock_known w ts = refl

by_lock : (lock : Bool) (o : Op) (at : ℕ)
    → head_of (cond lock (Word (codes "lock") ∷ []) [] ++ Word (name_of (mnemonic_of o)) ∷ args_tokens o at)
    ≡ Some (record { label = None; statement = Code lock (mnemonic_of o); rest = args_tokens o at })
by_lock false o at =
    let w : List ℕ = name_of (mnemonic_of o) in
    let ts : List Lexeme = args_tokens o at in
    ap (λ k. cond (not (is_some k) && not (is_some (register_of w)))
    (with_label (Some w) (statement_at (behind_colon ts))) (with_label None (by_keyword k ts))) (known o)
by_lock true o at =
    lock_known (name_of (mnemonic_of o)) (args_tokens o at)
    ∙ ap (λ k. with_label None (statement_behind_lock k (args_tokens o at))) (known o)

pub head_reads_back : HeadReadsBack
head_reads_back i at = by_lock i.lock i.op at
