use Rattle.std.proofs.Common.{◌≡◌, ◌∷◌, None, suc, length, arith, sym, ◌∙◌}
use Rattle.tm_stores.specs.Queues.{ShownStores}
use Rattle.tm_why.proofs.OneStep.{one_step}
use Rattle.tm_why.proofs.Queues.{none_drained, none_in}
use Rattle.tm_why.proofs.watch.Watch.note_direct.Goals as goal

pub returns-clause-watch : goal.returns-clause-watch
returns-clause-watch c = λ steps few watch.
    let same : c.saturating_add-made.result ≡ suc (length steps) = omega (arith, watch.made) in
    let stores : ShownStores = c.args.self.now.stores in
    let none : stores.most ≡ 0 = c.requires.none in
    record {
      made = same;
      room = watch.room;
      queues = λ core within.
          watch.queues core within
          ∙ none_in stores.most core steps none
          ∙ sym (none_in stores.most core ((c.args.asked.now, c.args.outcome) ∷ steps) none);
      rows = one_step stores.most c.args.self.now.rows c.take_in.new.rows c.args.asked.now c.args.outcome
          c.saturating_add-made.result None steps c.take_in.ensures watch.rows same
          (none_drained (c.args.asked.now, c.args.outcome) _
          (none_in stores.most c.args.asked.now.core steps none));
    }
