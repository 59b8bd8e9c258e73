use Rattle.std.proofs.Common.{◌∙◌, ap}
use Rattle.std.specs.Prelude.{map}
use Rattle.tm_model.specs.Setting.{Setting}
use Rattle.tm_hist.specs.History.{pair_of}
use Rattle.tm_hist.proofs.Boards.{restarted}
use Rattle.tm_hist.proofs.board.Board.restart.Goals as goal

pub reopen-requires-clause-cores : goal.reopen-requires-clause-cores
reopen-requires-clause-cores c = c.self.invariant.is_run.same.cores ∙ c.self.invariant.cores

pub reopen-requires-clause-size : goal.reopen-requires-clause-size
reopen-requires-clause-size c =
    ap (λ (setting : Setting). setting.size) (c.self.invariant.is_run.same.rules ∙ c.self.invariant.rules)

pub invariant_of-self : goal.invariant_of-self
invariant_of-self c =
    restarted c.self.inside.program c.self.inside.limits c.self.inside.limit _ _ (map pair_of c.self.inside.made.items)
    c.self.inside.machine c.reopen.new.self c.clear.new.self.items
    c.self.invariant c.clear.ensures.capacity c.clear.ensures.items c.reopen.ensures.same
    c.reopen.ensures.opening
