use Rattle.std.proofs.Common.{List}
use Rattle.tm_model.specs.declared.outcome.Pick.{Pick}
use Rattle.tm_hunt.proofs.KeptKinds.{keeps_empty, keeps_more}
use Rattle.tm_hunt.proofs.cuts.moved_before.Goals as goal

pub returns : goal.returns
returns c =
    let steps : List Pick = c.args.steps.now in
    let none : List Pick = c.in_ok-moved.moved.items in
    let one : List Pick = c.extend_from_slice.new.self.items in
    let two : List Pick = c.extend_from_slice-2.new.self.items in
    let three : List Pick = c.extend_from_slice-3.new.self.items in
    let four : List Pick = c.extend_from_slice-4.new.self.items in
    keeps_more steps three c.part-4.result.now four c.in_ok-extend_from_slice-4.ensures.items
    (keeps_more steps two c.part-3.result.now three c.in_ok-extend_from_slice-3.ensures.items
    (keeps_more steps one c.part-2.result.now two c.in_ok-extend_from_slice-2.ensures.items
    (keeps_more steps none c.part.result.now one c.in_ok-extend_from_slice.ensures.items
    (keeps_empty steps none c.in_ok-moved.ensures.items) c.part.ensures)
    c.part-2.ensures)
    c.part-3.ensures)
    c.part-4.ensures
