use Rattle.std.proofs.Common.{◌∙◌, ℕ, List, ap}
use Rattle.tm_page.specs.Applied.{is_listed}
use Rattle.page_telling.proofs.telling.difference.Goals as goal

pub returns-in-Ok-clause-delta : goal.returns-in-Ok-clause-delta
returns-in-Ok-clause-delta c = (
  c.as_slice.result.now,
  λ address. ap (λ (l : List ℕ). is_listed l address) c.as_slice.ensures.value ∙ c.in_ok-row.ensures address,
  c.in-Ok.ensures,
)
