use Rattle.std.proofs.Common.{List, ◌++◌, subst}
use Rattle.text_out.specs.TextLine.{line_end}
use Rattle.text_out.specs.Writing.{Wrote}
use Rattle.tm_hunt.specs.Cycle.{loop_of}
use Rattle.tm_model.specs.declared.outcome.Pick.{Pick}
use Rattle.elide_hunt.specs.Cycles.{loop_text}
use Rattle.elide_shell.proofs.Texts.{then_on_ok, written_on_ok}
use Rattle.elide_hunt.proofs.cycle.put_told.Goals as goal

pub returns : goal.returns
returns g c =
    let device = g.O.Out.device in
    let steps = loop_of c.args.picks.now c.args.cycle in
    let r = c.put.result in
    let words = subst
    (λ (l : List Pick). Wrote (device c.put_front.new.out) (device c.put_steps.new.out) (loop_text l))
    c.steps_of.ensures c.in_ok-put_steps.ensures in
    then_on_ok _ (loop_text steps ++ line_end) r c.in_ok-put_front.ensures
    (then_on_ok _ line_end r words (written_on_ok _ _ line_end r c.put.ensures))
