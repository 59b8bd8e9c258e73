-- The text of an instruction, read as a line of a source.
use Rattle.std.specs.Prelude.{◌≡◌, ℕ, true, false, IsTrue, Option, Some, List, Ok}
use Rattle.ia_insn.specs.declared.op.Insn.{Insn}
use Rattle.ia_insn.specs.Encoding.{is_encodable}
use Rattle.ia_lex.specs.Terms.{TermContent}
use Rattle.ia_text.specs.Text.{insn_text}
use Rattle.ia_source.specs.Contents.{Code}
use Rattle.ia_source.specs.Statements.{add, with_flags, in_next_line}
use Rattle.ia_source.specs.Source.{SourceContent, line_onto}
use Rattle.ia_round_trip.specs.Resolution.{resolved_insn}

-- wherever it stands, a line is one instruction, with these expressions for its number and its displacement
abbrev pub IsReadAs : List ℕ → Insn → Option (List TermContent) → Option (List TermContent) → Type 0
IsReadAs line i number place = (s : SourceContent) → line_onto s line
    ≡ Ok (record {
      at = in_next_line (with_flags s.at false true);
      names = s.names;
      entries = add s.entries s.at
          (Code i number place);
    })

-- the text of an encodable instruction at an address is read as an instruction that is the same one, with its
-- expressions filled in at that address
abbrev pub InstructionReadsBack : Type 0
InstructionReadsBack = (i : Insn) (at : ℕ) → IsTrue (is_encodable i)
    → (t : Insn) × (number place : Option (List TermContent)) × IsReadAs (insn_text i at) t number place
    × (resolved_insn at t number place ≡ Some i)
