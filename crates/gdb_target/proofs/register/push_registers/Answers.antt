use Rattle.std.proofs.Common.{◌≡◌, ◌+◌, ap, arith}
use Rattle.gdb_target.specs.Registers.{register_of, register_text}
use Rattle.gdb_target.proofs.Ranges.{row_more}
use Rattle.gdb_target.proofs.register.push_registers.Goals as goal

pub registers-preserved : goal.registers-preserved
registers-preserved c =
    let place : c.registers.number ≡ 0 + c.registers.number = omega arith in
    record {
      text =
          row_more (λ number. register_text (register_of c.args.core.now number)) 0 c.registers.number
          c.args.row.now.items c.registers.row.items c.push_register.new.row.items _
          c.registers.invariant.text (ap (λ n. register_text (register_of c.args.core.now n)) place)
          c.push_register.ensures.text;
      few = omega arith;
    }
