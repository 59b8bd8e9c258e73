use Rattle.std.proofs.Common.{◌<◌, arith, rules}
use Rattle.ia_elf.specs.Fields.{e_phnum}
use Rattle.ia_elf.specs.Segments.{Loads}
use Rattle.ia_elf.proofs.Ends.{ends_more, ends_none, ends_refused}
use Rattle.ia_elf.proofs.Outcomes.{fails, holds}
use Rattle.ia_elf.proofs.layout.memory_end_in_order.Goals as goal
use Rattle.ia_elf.proofs.layout.memory_end_in_order.Goals.{then-loads+else-from-end, else-loads}

pub returns-then-from-end-clause-none : goal.returns-then-from-end-clause-none
returns-then-from-end-clause-none c =
    let within : c.loop-number.number < e_phnum c.args.file.now = (search rules) in
    ends_refused c.args.file.now c.loop-number.number c.loop-number.end c.segment_at-segment.result
    c.loop-number.invariant within
    c.segment_at-segment.ensures
    (holds c.loads.result (Loads c.segment_at-segment.result) c.loads.ensures c.if-loads.true) (omega arith)

pub loop-number-preserved : goal.loop-number-preserved
loop-number-preserved c =
    let file = c.args.file.now in
    let n = c.loop-number.number in
    let s = c.segment_at-segment.result in
    elim c.if-loads.branch [
      | then-loads+else-from-end w ↦ (let loads = holds c.loads.result (Loads s) c.loads.ensures w.if-loads.true in
          rw (w.end-is, w.memory_end-end.ensures)
          (ends_more file n c.loop-number.end s c.loop-number.invariant c.segment_at-segment.ensures
          loads (omega arith)))
      | else-loads w ↦ (let idle = fails c.loads.result (Loads s) c.loads.ensures w.if-loads.false in
          rw w.end-is (ends_none file n c.loop-number.end s c.loop-number.invariant c.segment_at-segment.ensures idle))
    ]
