use Rattle.std.proofs.Common.{◌∙◌, sym}
use Rattle.elide_setup.proofs.Rounds.{one_less_going, still_going}
use Rattle.elide_setup.proofs.walk.settle.Goals as goal

pub returns-then-not-is_stop : goal.returns-then-not-is_stop
returns-then-not-is_stop c cores steps going =
    still_going cores steps c.args.going.now c.args.pick c.args.outcome
    (sym c.is_stop.ensures ∙ c.if-not-is_stop.true) going

pub returns : goal.returns
returns c cores steps going =
    one_less_going cores steps c.args.going.now c.remove.new.self c.args.pick c.args.outcome
    (sym c.is_stop.ensures ∙ c.if-not-is_stop.false) c.remove.ensures.others going
