use Rattle.std.proofs.Common.{◌≡◌, ◌-◌, suc, ap, sym, ◌∙◌, arith, take}
use Rattle.tm_hist.specs.History.{pairs_of}
use Rattle.gdb_target.specs.Shown.{last_status}
use Rattle.gdb_target.proofs.Statuses.{last_is, last_is_not}
use Rattle.gdb_target.proofs.status.last_status.Goals as goal

pub returns-in-Some : goal.returns-in-Some
returns-in-Some c =
    let next : c.steps.index ≡ suc (c.steps.index - 1) = omega arith in
    let h = last_is c.args.core c.in-Some.status (c.steps.index - 1) (pairs_of c.args.history) (omega arith)
    (sym c.status_at.ensures ∙ c.in-Some.is) in
    sym (c.steps.invariant.none_since ∙ ap (λ n. last_status c.args.core (take n (pairs_of c.args.history))) next ∙ h)

pub steps-preserved : goal.steps-preserved
steps-preserved c = record {
  none_since =
      let next : c.steps.index ≡ suc (c.steps.index - 1) = omega arith in
      let h = last_is_not c.args.core (c.steps.index - 1) (pairs_of c.args.history) (omega arith)
      (sym c.status_at.ensures ∙ c.in_default.is) in
      c.steps.invariant.none_since ∙ ap (λ n. last_status c.args.core (take n (pairs_of c.args.history))) next ∙ h;
  within = omega arith;
}
