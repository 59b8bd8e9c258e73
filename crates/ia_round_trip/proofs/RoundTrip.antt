-- The text of an instruction is read as the instruction.
use Rattle.std.proofs.Common.{◌≡◌, ℕ, Bool, true, false, not, cond, Option, Some, None, refl, ◌∙◌, ap, arith}
use Rattle.std.specs.Prelude.{◌||◌, IsTrue, option_map}
use Rattle.ia_insn.specs.declared.op.Op.{Op}
use Rattle.ia_insn.specs.declared.op.Insn.{Insn}
use Rattle.ia_insn.specs.Spelling.{lockable}
use Rattle.ia_insn.specs.Encoding.{encodable, is_encodable}
use Rattle.ia_insn.specs.Mnemonics.{mnemonic_of}
use Rattle.ia_item.specs.declared.item.Field.{Field}
use Rattle.ia_item.specs.declared.item.Field.TheVariants as field
use Rattle.ia_item.specs.Fields.{field_of, with_number, Holds}
use Rattle.ia_text.specs.Text.{insn_text}
use Rattle.ia_source.specs.Contents.{ItemContent, Code}
use Rattle.ia_source.specs.Symbols.{terms_in_scope}
use Rattle.ia_form.specs.Forms.{by_op, op_of}
use Rattle.ia_source.specs.Operands.{Operands, empty_operands}
use Rattle.ia_source.specs.Statements.{add_some, code_item, with_flags, in_next_line}
use Rattle.ia_source.specs.Source.{or_bad, head_onto, tokens_onto, line_onto}
use Rattle.ia_resolve.proofs.FieldLemmas.{number_encodable, number_lockable, place_encodable, place_lockable}
use Rattle.ia_resolve.proofs.FieldLemmas.{insn_encodable}
use Rattle.ia_round_trip.specs.Operands.{operands_for, args_of}
use Rattle.ia_round_trip.specs.Resolution.{resolved_insn}
use Rattle.ia_round_trip.specs.Forms.{expression_of, FormReadsBack}
use Rattle.ia_round_trip.specs.RoundTrip.{IsReadAs, InstructionReadsBack}
use Rattle.ia_round_trip.proofs.PrintedTokens.{text_has_its_tokens}
use Rattle.ia_round_trip.proofs.Operands.{operands_read_back}
use Rattle.ia_round_trip.proofs.Heads.{head_reads_back}
use Rattle.ia_round_trip.proofs.MemoryOperands.{two}
use Rattle.ia_round_trip.proofs.Forms.{args_fit, bare, again}
use Rattle.ia_round_trip.proofs.Plain.{Plain, plain_operands, written_same}

-- ---- forms

none_held : (f : Field) → Holds f 0
none_held field.Byte = omega arith
none_held field.Half = omega arith
none_held field.Long = omega arith
none_held (field.Near long) = omega arith
none_held (field.Short long) = refl

bare_encodable : (l : Bool) (o : Op) → IsTrue (is_encodable (record { lock = l; op = o }))
    → IsTrue (is_encodable (record { lock = l; op = bare o }))
bare_encodable l o e =
    insn_encodable l o (bare o) e
    (λ h. place_encodable (with_number o 0) 0 (omega arith) (number_encodable o 0 (none_held (field_of o)) h))
    (place_lockable (with_number o 0) 0 ∙ number_lockable o 0)

op_encodable : (i : Insn) → IsTrue (is_encodable i) → encodable i.op ≡ true
op_encodable i e = (two (encodable i.op) (not i.lock || lockable i.op) e).0

pub form_reads_back : FormReadsBack
unfolding resolved_insn
form_reads_back i at e =
    let a = again i.op at (op_encodable i e) in
    let t : Insn = record { lock = i.lock; op = bare i.op } in (
      a.0,
      t,
      a.1,
      ap (by_op i.lock) a.2 ∙ ap (λ b. cond b (Some t) None) (bare_encodable i.lock i.op e),
      ap (option_map (λ o. record { lock = i.lock; op = o })) a.3,
    )

-- ---- lines

line_is_read : (i : Insn) (at : ℕ) → IsTrue (is_encodable i) → (os : Operands) (t : Insn)
    → operands_for empty_operands (args_of i.op at) ≡ Some os
    → by_op i.lock (op_of (mnemonic_of i.op) os.shapes) ≡ Some t
    → IsReadAs (insn_text i at) t (expression_of os.number) (expression_of os.displacement)
unfolding line_onto
line_is_read i at e os t args form s =
    let plain : Plain os = plain_operands empty_operands os (args_of i.op at) (tt, tt) args in
    let out : Option ItemContent → _ =
    λ x. or_bad s.at.line (in_next_line (with_flags s.at false true)) s.names (add_some s.entries s.at x) in
    ap (tokens_onto s) (text_has_its_tokens i at)
    ∙ ap (head_onto s) (head_reads_back i at)
    ∙ ap (λ o. out (code_item s.at.scope i.lock (mnemonic_of i.op) o))
    (operands_read_back i.op at (args_fit i.op at (op_encodable i e)) ∙ args)
    ∙ ap (λ o. out
    (option_map (λ j. Code j (terms_in_scope s.at.scope os.number) (terms_in_scope s.at.scope os.displacement)) o)) form
    ∙ ap (λ n. out (Some (Code t n (terms_in_scope s.at.scope os.displacement))))
    (written_same s.at.scope os.number plain.0)
    ∙ ap (λ p. out (Some (Code t (expression_of os.number) p))) (written_same s.at.scope os.displacement plain.1)

pub instruction_reads_back : InstructionReadsBack
instruction_reads_back i at e =
    let f = form_reads_back i at e in
    (f.1, expression_of f.0.number, expression_of f.0.displacement, line_is_read i at e f.0 f.1 f.2 f.3, f.4)
