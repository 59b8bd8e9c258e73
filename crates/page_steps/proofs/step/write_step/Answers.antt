use Rattle.text_out.proofs.Writing.{wrote_then}
use Rattle.page_steps.proofs.step.write_step.Goals as goal

pub returns-clause-text : goal.returns-clause-text
returns-clause-text g c =
    let number = rw c.from.ensures at c.in_ok-write_number.ensures in
    let letter = rw c.kind_letter.ensures at c.in_ok-put-3.ensures in
    let listed = rw c.as_slice.ensures.value at c.in_ok-write_numbers.ensures in
    let registers = rw c.changed_registers.ensures at listed in
    wrote_then c.in_ok-put.ensures (wrote_then number (wrote_then c.in_ok-put-2.ensures (wrote_then letter
    (wrote_then c.in_ok-put-4.ensures
    (wrote_then registers (wrote_then c.in_ok-write_members.ensures c.in_ok-put-5.ensures))))))
