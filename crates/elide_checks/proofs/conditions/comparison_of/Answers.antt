use Rattle.std.proofs.Common.{◌≡◌, ℕ, List, None, inl, inr, rules, subst}
use Rattle.elide_checks.specs.Constants.{is_among}
use Rattle.elide_checks.specs.Items.{IsItem}
use Rattle.elide_checks.specs.Misread.{IsNoItem}
use Rattle.elide_checks.specs.declared.items.Side.TheVariants.{Left, Right}
use Rattle.elide_checks.proofs.conditions.comparison_of.Goals as goal

pub returns : goal.returns
returns c = λ text sides.
    let file = c.args.scope.now.file.now in
    let names = is_among c.args.scope.now.constants.now.names.items in
    c.clause_between.ensures file names text record {
      before = c.args.before.now;
      behind = c.args.behind.now;
      sides = sides;
      on_left =
          subst (λ (w : List ℕ). IsItem file names Left w c.in_ok-left.left) c.trim.ensures.trim c.in_ok-left.ensures;
      on_right = subst (λ (w : List ℕ). IsItem file names Right w c.in_ok-right.right) c.trim-2.ensures.trim
          c.in_ok-right.ensures;
    }

pub returns-in_err-left : goal.returns-in_err-left
returns-in_err-left c =
    let none : c.from_residual.result ≡ None = search rules in
    rw none
    (inl (subst (λ (w : List ℕ). IsNoItem c.args.scope.now.file.now w) c.trim.ensures.trim c.in_err-left.ensures))

pub returns-in_err-right : goal.returns-in_err-right
returns-in_err-right c =
    let none : c.from_residual-in_err-right.result ≡ None = search rules in
    rw none
    (inr (subst (λ (w : List ℕ). IsNoItem c.args.scope.now.file.now w) c.trim-2.ensures.trim c.in_err-right.ensures))
