use Rattle.std.proofs.Common.{List, ◌++◌, ap, ◌∙◌, arith}
use Rattle.tm_model.specs.declared.outcome.Pick.{Pick}
use Rattle.tm_outcomes.proofs.Rounds.{made_once}
use Rattle.tm_outcomes.proofs.cycle.make.Goals as goal

pub note-requires : goal.note-requires
note-requires c =
    (let count = c.requires.place.place.count in let is_core = c.requires.pick.is_pick.is_core in omega arith)

pub returns : goal.returns
returns c = (
  c.in_ok-made.made.items,
  c.in_ok-extend_from_slice.ensures.items
      ∙ ap (λ (s : List Pick). c.args.steps.now.items ++ s) c.as_slice.ensures.value,
  made_once c.args.task.now.trial c.args.here.now c.advance.new.self c.args.noted.now c.note.new.self c.args.pick
      c.in_ok-made.made.items
      c.requires.at.0 c.requires.pick c.requires.place c.requires.at.1 c.in_ok-note.ensures.keeps
      c.in_ok-note.ensures.noted c.in_ok-made.ensures,
)
