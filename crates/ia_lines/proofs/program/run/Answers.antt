use Rattle.std.proofs.Common.{List, ◌++◌, append_assoc, ap, ◌∙◌, arith, sym}
use Rattle.std.proofs.lemmas.Bool.Decides.{nat_tests}
use Rattle.ia_lines.specs.Machine.{initial, rows_of}
use Rattle.ia_lines.specs.declared.lines.Row.{Row}
use Rattle.ia_lines.proofs.Running.{one_opcode, whole}
use Rattle.ia_lines.proofs.program.run.Goals as goal

pub opcodes-preserved : goal.opcodes-preserved
opcodes-preserved c =
    let before = c.opcodes.invariant.1 in
    let new : List Row = rows_of c.args.layout.now c.in-Some.found c.opcodes.registers in (
      omega (arith, c.in-Some.ensures.shorter, c.push_row.ensures.few, c.opcodes.invariant.0),
      (
        before.0 ++ new,
        c.in_ok-push_row.ensures.ok ∙ ap (λ (l : List Row). c.opcodes.rows.items ++ l) c.row_of.ensures
            ∙ ap (λ (l : List Row). l ++ new) before.1 ∙ append_assoc c.args.rows.now.items before.0 new,
        one_opcode c.args.layout.now initial c.opcodes.registers c.after-registers.result
            c.args.program.now c.opcodes.rest.now c.in-Some.behind.now c.in-Some.found before.0
            before.2 c.in-Some.ensures.value c.after-registers.ensures,
      ),
    )

pub returns-clause-runs : goal.returns-clause-runs
returns-clause-runs c _ =
    let before = c.opcodes.invariant.1 in
    let tested = sym c.is_empty.ensures ∙ c.opcodes-test.false in (
      before.0,
      whole c.args.layout.now initial c.opcodes.registers c.args.program.now c.opcodes.rest.now before.0
          before.2 (grind (arith, nat_tests, tested)),
      before.1,
    )
