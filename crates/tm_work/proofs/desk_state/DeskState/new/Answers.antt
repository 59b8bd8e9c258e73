use Rattle.tm_work.proofs.Disturbed.{fresh_disturbed}
use Rattle.tm_work.proofs.Turns.{fresh_agrees}
use Rattle.tm_work.proofs.desk_state.DeskState.new.Goals as goal

pub invariant_of-result : goal.invariant_of-result
invariant_of-result g c =
    let given = g.J.DeskIdentity.given in (
      fresh_agrees given c.args.board c.args.ledger c.requires.board c.requires.ledger,
      fresh_disturbed g.J.DeskIdentity.events given c.args.board c.requires.board,
    )
