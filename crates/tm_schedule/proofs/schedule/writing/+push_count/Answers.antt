use Rattle.std.proofs.Common.{◌+◌, ◌/◌, ◌%◌, ◌++◌, ◌∷◌, [], ap, ◌∙◌, append_assoc}
use Rattle.tm_schedule.specs.ScheduleRuns.{count_text}
use Rattle.tm_schedule.proofs.Counts.{count_text_step}
use Rattle.tm_schedule.proofs.schedule.writing.+push_count.Goals as goal

pub returns-then-n-gt0-clause-text : goal.returns-then-n-gt0-clause-text
returns-then-n-gt0-clause-text t c =
    c.push.ensures.text ∙ ap (λ front. front ++ (48 + c.args.n % 10) ∷ []) c.push_count.ensures.text
    ∙ append_assoc c.args.row.now.items (count_text (c.args.n / 10)) ((48 + c.args.n % 10) ∷ [])
    ∙ ap (λ more. c.args.row.now.items ++ more) (count_text_step c.args.n c.if-n-gt0.true)
