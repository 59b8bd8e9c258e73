-- The head of the line that an instruction is printed as.
use Rattle.std.specs.Prelude.{◌≡◌, ℕ, Some, None}
use Rattle.ia_insn.specs.declared.op.Insn.{Insn}
use Rattle.ia_insn.specs.Mnemonics.{mnemonic_of}
use Rattle.ia_source.specs.declared.head.Statement.TheVariants.{Code}
use Rattle.ia_source.specs.Heads.{head_of}
use Rattle.ia_round_trip.specs.PrintedTokens.{args_tokens, insn_tokens}

-- the tokens of an instruction begin with LOCK or none and its mnemonic, and go on with its operands
abbrev pub HeadReadsBack : Type 0
HeadReadsBack = (i : Insn) (at : ℕ) → head_of (insn_tokens i at)
    ≡ Some (record { label = None; statement = Code i.lock (mnemonic_of i.op); rest = args_tokens i.op at })
