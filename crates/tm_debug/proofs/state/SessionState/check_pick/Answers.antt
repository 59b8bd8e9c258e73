use Rattle.std.proofs.Common.{◌≡◌, ◌<◌, ◌∙◌, length, subst, sym}
use Rattle.tm_model.specs.declared.outcome.Pick.{Pick}
use Rattle.tm_debug.proofs.state.SessionState.check_pick.Goals as goal

pub returns-else-not-first-clause-room : goal.returns-else-not-first-clause-room
returns-else-not-first-clause-room c pick same =
    let at : c.args.pick ≡ pick = cc in (
      subst (λ (p : Pick). p.core < length c.args.self.now.board.program.entries) at c.requires.known,
      λ full. c.if-made-limit.false (c.made.ensures.made ∙ full ∙ sym c.limit.ensures.limit),
    )
