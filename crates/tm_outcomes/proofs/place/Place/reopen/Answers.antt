use Rattle.std.proofs.Common.{ℕ, List, refl, ◌∙◌, sym, subst}
use Rattle.tm_core.specs.Reopening.{IsSameElsewhere}
use Rattle.tm_outcomes.specs.Outcomes.{trial_opening}
use Rattle.tm_outcomes.proofs.place.Place.reopen.Goals as goal

pub reopen_lines-requires-clause-opening : goal.reopen_lines-requires-clause-opening
reopen_lines-requires-clause-opening c = c.as_slice.ensures.value ∙ c.requires.opening

pub reopen_lines-requires-clause-elsewhere : goal.reopen_lines-requires-clause-elsewhere
reopen_lines-requires-clause-elsewhere c =
    let memory : List ℕ = c.args.self.now.machine.memory in
    subst (λ lines. IsSameElsewhere lines memory c.as_slice.result.now) (sym c.as_slice-2.ensures.value)
    (subst (λ opening. IsSameElsewhere c.args.written.now.lines.items memory opening) (sym c.as_slice.ensures.value)
    c.requires.memory)

pub returns : goal.returns
returns c = record {
  now = trial_opening c.args.trial.now;
  is_run = refl;
  rules = c.reopen_lines.ensures.same.rules ∙ c.requires.place.rules;
  count = c.reopen_lines.ensures.same.cores ∙ c.requires.place.count;
  stands = c.reopen_lines.ensures.opening;
}
