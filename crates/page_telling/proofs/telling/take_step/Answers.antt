use Rattle.std.proofs.Common.{◌≡◌, ℕ, sym, subst}
use Rattle.tm_core.specs.Theorem.{ShownMachine as Machine}
use Rattle.tm_page.specs.Applied.{is_listed}
use Rattle.tm_page.specs.Before.{IsBefore}
use Rattle.tm_page.specs.Difference.{IsDifference}
use Rattle.page_telling.proofs.Knowing.{told_of}
use Rattle.page_telling.specs.Kept.{IsKeptBehind, is_kept}
use Rattle.page_telling.proofs.telling.take_step.Goals as goal

pub returns-clause-made : goal.returns-clause-made
returns-clause-made c =
    let machine : Machine = c.args.machine.now in
    let after : Machine = c.make_step.new.self in
    let old = c.args.behind.now.kept.bytes.items in
    let before = c.in_ok-before.before in
    let shown : IsBefore machine c.args.pick.core before = c.in_ok-before.ensures.before in
    let same : before.asked.core ≡ c.args.pick.core = shown.asked.core in
    let found = c.in_ok-delta.ensures.delta in
    let outcome = c.in_ok-outcome.outcome in
    let difference : IsDifference machine after c.args.pick.core outcome before.reach found.0 c.in_ok-delta.delta =
    subst (λ n. IsDifference machine after n outcome before.reach found.0 c.in_ok-delta.delta) same
    (found.2 machine (subst (λ n. IsBefore machine n before) (sym same) shown)) in
    let listed : (address : ℕ) → is_listed found.0 address ≡ is_kept old c.args.pick.core address =
    subst (λ n. (address : ℕ) → is_listed found.0 address ≡ is_kept old n address) same found.1 in
    record {
      step = c.in_ok-outcome.ensures.made;
      mode = sym c.in_ok-state.ensures.state;
      told = told_of machine after c.args.pick outcome before.reach found.0 old c.in_ok-delta.delta
          c.in_ok-outcome.ensures.made shown.within shown.reach listed difference;
      kept = subst (λ l. IsKeptBehind outcome c.args.pick.core l old c.take.new.self.bytes.items)
          c.as_slice.ensures.value c.in_ok-take.ensures;
    }
