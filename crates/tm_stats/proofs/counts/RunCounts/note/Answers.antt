use Rattle.std.proofs.Common.{refl, ap, ◌∙◌, arith, rules}
use Rattle.tm_stats.specs.Tally.{counted}
use Rattle.tm_stats.proofs.Told.{told_counts}
use Rattle.tm_stats.proofs.counts.RunCounts.note.Goals as goal

pub returns-clause-ok : goal.returns-clause-ok
returns-clause-ok c = λ steps few was. told_counts steps few was c.make_room.ensures.same (record {
  steps_told = c.plus-self.ensures;
  outside =
      λ small. c.count_if-self.ensures small ∙ ap (λ b. counted b c.make_room.new.self.outside) c.is_outside.ensures;
  idle = λ small. c.count_if-self-2.ensures small ∙ ap (λ b. counted b c.make_room.new.self.idle) c.is_idle.ensures;
  drained =
      λ small. c.count_if-self-3.ensures small ∙ ap (λ b. counted b c.make_room.new.self.drained) c.is_drained.ensures;
  longer = c.plus.ensures;
  reads_told = search rules;
  writes_told = search rules;
  own = refl;
  core = omega arith;
  cores = search rules;
  next = c.open_after.ensures;
  under_way = refl;
  places = c.count_place.ensures;
  causes = c.count_cause.ensures;
  lengths = c.count_size.ensures;
  reads = c.count_size-2.ensures;
  writes = c.count_size-3.ensures;
})
