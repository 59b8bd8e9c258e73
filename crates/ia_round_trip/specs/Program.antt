-- A source that puts the text of an instruction at an address.
use Rattle.std.specs.Prelude.{◌≡◌, ℕ, ◌^◌, ◌<◌, IsTrue, Option, Some, List, [], ◌∷◌, ◌++◌, codes, Ok}
use Rattle.ia_insn.specs.declared.op.Insn.{Insn}
use Rattle.ia_insn.specs.Encoding.{is_encodable}
use Rattle.ia_item.specs.declared.item.Section.TheVariants as section
use Rattle.ia_lex.specs.Terms.{TermContent}
use Rattle.text_out.specs.Number.{number}
use Rattle.ia_text.specs.Text.{insn_text}
use Rattle.ia_source.specs.Contents.{EntryContent, Code, Org}
use Rattle.ia_source.specs.Source.{entries_of}
use Rattle.ia_round_trip.specs.Resolution.{resolved_insn}

-- its base is the address (NASM manual, "ORG: Binary File Program Origin")
abbrev pub source_at : Insn → ℕ → List ℕ
source_at i at = codes "org " ++ number at ++ 10 ∷ insn_text i at

abbrev pub entries_at : ℕ → Insn → Option (List TermContent) → Option (List TermContent) → List EntryContent
entries_at at i number place =
    (record { line = 1; section = section.Text; item = Org (Some at) }) ∷
    (record { line = 2; section = section.Text; item = Code i number place }) ∷ []

-- that source asks for its base and for an instruction that is the printed one, with its expressions filled in there
abbrev pub SourceReadsBack : Type 0
SourceReadsBack = (i : Insn) (at : ℕ) → at < 2 ^ 32 → IsTrue (is_encodable i)
    → (t : Insn) × (number place : Option (List TermContent)) × (entries_of (source_at i at)
    ≡ Ok (entries_at at t number place)) × (resolved_insn at t number place ≡ Some i)
