use Rattle.std.proofs.Common.{◌≡◌, None, inl, inr, rules, sym, ◌∙◌}
use Rattle.elide_checks.specs.Misread.{no_address}
use Rattle.elide_checks.proofs.items.sum_item.Goals as goal

pub returns-in_ok-value-in-Some : goal.returns-in_ok-value-in-Some
returns-in_ok-value-in-Some c =
    inl record {
      behind = c.in-Some.sum.now;
      has_none = c.requires;
      whole = c.in-Some.ensures;
      sum = c.in_ok-value-in-Some.ensures;
    }

pub returns-in_err-value-in-Some : goal.returns-in_err-value-in-Some
returns-in_err-value-in-Some c =
    let none : c.from_residual.result ≡ None = search rules in
    rw none (no_address c.in-Some.sum.now c.requires c.in-Some.ensures c.in_err-value-in-Some.ensures)

pub returns-then-is_address : goal.returns-then-is_address
returns-then-is_address c = record {
  has_none = c.requires;
  plain = c.in-None.ensures;
  sum = c.in_ok-value-in-None.ensures;
  taken = sym c.is_address.ensures ∙ c.if-is_address.true;
}

pub returns-else-is_address : goal.returns-else-is_address
returns-else-is_address c = inr record {
  has_none = c.requires;
  plain = c.in-None.ensures;
  sum = c.in_ok-value-in-None.ensures;
  taken = sym c.is_address.ensures ∙ c.if-is_address.false;
}
