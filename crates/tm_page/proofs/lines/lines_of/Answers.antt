use Rattle.std.proofs.Common.{◌≡◌, ℕ, ap, ◌∙◌}
use Rattle.std.proofs.lemmas.Result.{IfOk-weaker}
use Rattle.std.specs.FinSet as set
use Rattle.tm_core.proofs.BufferLemmas.{list_any-from_list}
use Rattle.tm_core.specs.Theorem.{lines_shown, view_at}
use Rattle.tm_page.specs.Applied.{is_listed}
use Rattle.tm_page.proofs.lines.lines_of.Goals as goal

pub returns : goal.returns
returns c =
    IfOk-weaker c.sets.result
    (λ lines. set.from_list lines.items ≡ lines_shown (view_at c.args.machine.now c.args.core) c.args.kind)
    (λ lines. (line : ℕ)
    → is_listed lines.items line ≡ set.contains (lines_shown (view_at c.args.machine.now c.args.core) c.args.kind) line)
    (λ lines shown line. list_any-from_list lines.items line ∙ ap (λ ls. set.contains ls line) shown)
    c.sets.ensures.shown
