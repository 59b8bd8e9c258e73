-- The text of an instruction assembles to the bytes of the instruction.
use Rattle.std.specs.Prelude.{◌≡◌, ℕ, ◌+◌, ◌≤◌, ◌^◌, IsTrue, Option, None, option_map, List, Result, Ok, Err, length}
use Rattle.ia_insn.specs.declared.op.Insn.{Insn}
use Rattle.ia_insn.specs.Encoding.{is_encodable, insn_bytes}
use Rattle.ia_item.specs.declared.item.Template.{Template}
use Rattle.ia_item.specs.Expressions.{Env}
use Rattle.ia_lex.specs.Terms.{TermContent}
use Rattle.ia_text.specs.Text.{insn_text}
use Rattle.ia_names.specs.Namings.{Naming}
use Rattle.ia_source.specs.Contents.{expression_content}
use Rattle.ia_asm.specs.declared.fault.AsmFault.{AsmFault}
use Rattle.ia_asm.specs.declared.fault.AsmFault.TheVariants.{NoMemory}
use Rattle.ia_asm.specs.declared.assembly.Unit.{Unit as Assembly}
use Rattle.ia_resolve.specs.Items.{code_bytes, template_fault}
use Rattle.ia_asm.specs.Assembles.{Assembles}
use Rattle.ia_round_trip.specs.RoundTrip.{IsReadAs}
use Rattle.ia_round_trip.specs.Program.{source_at}

-- what a line that is one instruction with these expressions asks for
abbrev pub IsAsked : Naming → Insn → Option (List TermContent) → Option (List TermContent) → Template → Type 0
IsAsked naming i number place t = (t.insn ≡ i) × (option_map (expression_content naming) t.number
    ≡ number) × (option_map (expression_content naming) t.displacement ≡ place)

-- wherever it stands in a source, the text of an encodable instruction for an address is read as one instruction;
-- placed at that address, that has the bytes of the printed one and no sum at fault, whatever symbols there are and
-- whatever they are called
abbrev pub LineAssemblesToItsBytes : Type 0
LineAssemblesToItsBytes = (i : Insn) (at : ℕ) → IsTrue (is_encodable i)
    → (o : Insn) × (number place : Option (List TermContent)) × IsReadAs (insn_text i at) o number place
    × ((naming : Naming) (env : Env) (t : Template) → IsAsked naming o number place t → (code_bytes env at t
    ≡ insn_bytes i) × (template_fault env at t ≡ None))

-- an image at that base of these bytes, all of them code; nothing is told but that memory was refused
abbrev pub Gives : ℕ → List ℕ → Result Assembly AsmFault → Type 0
Gives base bytes (Ok u) = (u.base ≡ base) × (u.image.items ≡ bytes) × (u.code_len ≡ length bytes)
Gives base bytes (Err f) = f ≡ NoMemory

-- whatever is answered for a source that puts the text of an encodable instruction at an address, from which it ends at
-- or below 2^32
abbrev pub SourceAssemblesToItsBytes : Type 0
SourceAssemblesToItsBytes = (i : Insn) (at : ℕ) → IsTrue (is_encodable i) → at + length (insn_bytes i) ≤ 2 ^ 32
    → (answer : Result Assembly AsmFault) → Assembles (source_at i at) answer → Gives at (insn_bytes i) answer
