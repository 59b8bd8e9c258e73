use Rattle.std.proofs.Common.{sym, ◌∙◌, arith, length-take}
use Rattle.ia_image.proofs.Sound.{sound}
use Rattle.ia_image.proofs.loader.load.Goals as goal

pub slice_bounds-decode_code-end : goal.slice_bounds-decode_code-end
slice_bounds-decode_code-end c =
    let passed = sound c.args.bytes.now c.args.base c.args.code_len c.args.mem_size c.args.entries.now
    (sym c.refusal.ensures ∙ c.in_default.is) in
    omega (arith, passed.code_fits, length-take c.args.code_len c.args.bytes.now)

pub entry_row-requires : goal.entry_row-requires
entry_row-requires c =
    let passed = sound c.args.bytes.now c.args.base c.args.code_len c.args.mem_size c.args.entries.now
    (sym c.refusal.ensures ∙ c.in_default.is) in
    passed.few_cores

pub invariant_of-result : goal.invariant_of-result
invariant_of-result c =
    let passed = sound c.args.bytes.now c.args.base c.args.code_len c.args.mem_size c.args.entries.now
    (sym c.refusal.ensures ∙ c.in_default.is) in
    rw (c.in_ok-bytes.ensures.items, c.entry_row.ensures) record {
      sound = passed;
      count = c.in_ok-decoded.ensures.row_count;
      decoded = c.in_ok-decoded.ensures.rows;
      line_count = c.in_ok-decoded.ensures.line_count;
      lined = c.in_ok-decoded.ensures.lines;
      told = c.in_ok-decoded.ensures.told;
    }
