use Rattle.tm_hist.proofs.Pushes.{whole_board, whole_made}
use Rattle.tm_hist.proofs.board.Board.transact.Goals as goal

pub invariant_of-self : goal.invariant_of-self
invariant_of-self c =
    let e = c.in-Some.ensures in
    whole_board c.transact.new.self c.self.view_is c.args.core c.args.most c.in-Some.inside c.self.invariant e.steps
    c.push_transaction.ensures.pairs e.most c.room-room.ensures c.push_transaction.ensures.capacity

pub returns-in-Some-clause-made : goal.returns-in-Some-clause-made
returns-in-Some-clause-made c =
    let e = c.in-Some.ensures in
    whole_made c.transact.new.self c.self.view_is c.args.core c.in-Some.inside c.self.invariant e.steps
    c.push_transaction.ensures.pairs e.running
