use Rattle.std.proofs.Common.{ℕ, if◌then◌else◌, refl, sym, ap, ◌∙◌}
use Rattle.std.specs.Prelude.{nat_eq}
use Rattle.std.proofs.lemmas.List.{get_or-replicate}
use Rattle.tm_why.specs.Watched.{outside}
use Rattle.tm_why.proofs.watch.Watch.new.Goals as goal

pub returns-clause-none : goal.returns-clause-none
returns-clause-none c = record {
  made = refl;
  room = c.in_ok-stores.ensures.count
      ∙ ap (λ (n : ℕ). if nat_eq n 0 then 0 else 64) (sym c.in_ok-stores.ensures.most);
  queues = λ core h. c.in_ok-stores.ensures.none core;
  rows = λ core h. get_or-replicate 64 core outside outside h;
}
