use Rattle.std.proofs.Common.{◌∙◌, ap}
use Rattle.tm_hist.specs.Board.{ShownBoard}
use Rattle.tm_hist.specs.Machine.{shown_state}
use Rattle.tm_hist.proofs.Pushes.{plain_board, plain_fewer, plain_made}
use Rattle.tm_hist.proofs.board.Board.go_on.Goals as goal

pub invariant_of-self : goal.invariant_of-self
invariant_of-self c =
    let e = c.steps_on_registers-count.ensures in
    plain_board c.steps_on_registers-count.new.self c.self.view_is c.args.core c.args.most
    c.steps_on_registers-count.result c.self.invariant e.steps c.push_plain.ensures.pairs e.most c.room-room.ensures
    c.push_plain.ensures.capacity

pub returns-clause-made : goal.returns-clause-made
returns-clause-made c =
    let e = c.steps_on_registers-count.ensures in
    plain_made c.steps_on_registers-count.new.self c.self.view_is c.args.core c.steps_on_registers-count.result
    c.self.invariant e.steps c.push_plain.ensures.pairs e.running

pub returns-clause-fewer : goal.returns-clause-fewer
returns-clause-fewer c less running =
    let e = c.steps_on_registers-count.ensures in
    let was_running = ap (λ (b : ShownBoard). shown_state b.machine c.args.core) c.self.view_is ∙ running in
    plain_fewer c.steps_on_registers-count.new.self c.self.view_is c.args.core c.args.most
    c.steps_on_registers-count.result c.self.invariant c.push_plain.ensures.pairs e.most c.room-room.ensures less
    (λ short. e.fewer short was_running)
