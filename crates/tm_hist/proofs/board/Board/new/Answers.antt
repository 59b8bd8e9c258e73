use Rattle.std.proofs.Common.{◌∙◌, sym, arith}
use Rattle.tm_hist.proofs.Boards.{new_board}
use Rattle.tm_hist.proofs.board.Board.new.Goals as goal

pub invariant_of-result : goal.invariant_of-result
invariant_of-result c =
    new_board c.args.program.now c.in-Ok-copy.program c.args.limits c.args.limit c.in-Ok-with_capacity.made.items
    _ c.in-Ok.machine
    c.in-Ok-copy.ensures c.in-Ok-with_capacity.ensures.items c.in-Ok.ensures.opening c.in-Ok.ensures.rules
    c.in-Ok.ensures.cores
    (sym c.is_bad.ensures ∙ c.if-is_bad.false) (let exact = c.in-Ok-with_capacity.ensures.exact in omega arith)
