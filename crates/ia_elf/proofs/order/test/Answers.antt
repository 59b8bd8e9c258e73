use Rattle.ia_elf.specs.Segments.{CodeInFront, EachSegment, IsExecutable, IsForThisMachine, IsLow}
use Rattle.ia_elf.proofs.FaultOrder.{before_last, before_memory}
use Rattle.ia_elf.proofs.Outcomes.{fails, holds}
use Rattle.ia_elf.proofs.order.test.Goals as goal

pub returns-then-not-is_code_in_front-clause-fault : goal.returns-then-not-is_code_in_front-clause-fault
returns-then-not-is_code_in_front-clause-fault c =
    let file = c.args.file.now in
    let code = c.in-Some-code_end.ensures.some in (
      before_last file
          (holds c.is_for_this_machine.result (IsForThisMachine file) c.is_for_this_machine.ensures
          c.if-not-is_for_this_machine.false)
          c.in-Some.ensures.some.0
          (holds c.is_executable.result (IsExecutable file) c.is_executable.ensures c.if-not-is_executable.false)
          (code.some.0, code.some.1, code.some.2)
          (holds c.is_low.result (EachSegment file IsLow) c.is_low.ensures c.if-not-is_low.false)
          c.in-Some-memory_end_in_order.ensures.some.0,
      fails c.is_code_in_front.result (CodeInFront file) c.is_code_in_front.ensures c.if-not-is_code_in_front.true,
    )

pub returns-clause-passed : goal.returns-clause-passed
returns-clause-passed c =
    let file = c.args.file.now in
    let code = c.in-Some-code_end.ensures.some in
    before_memory file
    (holds c.is_for_this_machine.result (IsForThisMachine file) c.is_for_this_machine.ensures
    c.if-not-is_for_this_machine.false)
    c.in-Some.ensures.some.0
    (holds c.is_executable.result (IsExecutable file) c.is_executable.ensures c.if-not-is_executable.false)
    (code.some.0, code.some.1, code.some.2)
    (holds c.is_low.result (EachSegment file IsLow) c.is_low.ensures c.if-not-is_low.false)
    c.in-Some-memory_end_in_order.ensures.some.0
    (holds c.is_code_in_front.result (CodeInFront file) c.is_code_in_front.ensures c.if-not-is_code_in_front.false)
