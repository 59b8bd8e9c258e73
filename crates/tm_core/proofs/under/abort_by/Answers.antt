use Rattle.std.proofs.Common.{◌≡◌, ℕ, List, Some, length, get_or, refl, sym, ap, ◌∙◌}
use Rattle.std.proofs.lemmas.List.{get_or_default}
use Rattle.tm_sets.specs.Content.{Content}
use Rattle.tm_core.specs.declared.cpu.Cpu.{Cpu}
use Rattle.tm_model.specs.declared.outcome.Event.TheVariants as event
use Rattle.tm_model.specs.Owed.{cause_of_interference, status_at}
use Rattle.tm_model.specs.Setting.{Setting}
use Rattle.tm_model.specs.Shown.{view_outside}
use Rattle.tm_model.specs.Steps.{registers_after_abort}
use Rattle.tm_core.specs.Representation.{cpu_at, cpu_views, no_cpu, parts_setting}
use Rattle.tm_core.specs.StepRefinement.{StepResult, quit_by}
use Rattle.tm_core.specs.Types.{AbortedBy, Open, Running, Write}
use Rattle.tm_core.proofs.Cores.{held_after, unseen_is_step}
use Rattle.tm_core.proofs.OpenSteps.{closed_held}
use Rattle.tm_core.proofs.under.abort_by.Goals as goal

pub returns-clause-step : goal.returns-clause-step
returns-clause-step g c m =
    let a : Content = g.S.Sets.content c.args.sets.now in
    let b : Content = g.S.Sets.content c.abort-outcome.new.sets in
    let k : Setting = parts_setting c.args.code.now.bytes.now c.args.code.now.base (length m) a in
    let cpus : List Cpu = c.args.cpus.now in
    let x : Cpu = c.abort-outcome.new.cpu in
    let here : get_or cpus c.args.c c.index-cpus-c.result ≡ cpu_at cpus c.args.c =
    get_or_default cpus c.args.c c.index-cpus-c.result no_cpu c.requires.exists in
    let of_cause :
    status_at c.cause-cause.result c.args.depth ≡ status_at (cause_of_interference c.args.by) c.args.depth =
    ap (λ cause. status_at cause c.args.depth) c.cause-cause.ensures in
    let status : ℕ = status_at (cause_of_interference c.args.by) c.args.depth in
    let r : StepResult = quit_by c.args.by k m (cpu_views a cpus c.args.c) status in
    unseen_is_step (Some (event.Abort c.args.by)) k m a b cpus c.args.c x (AbortedBy c.args.by c.status.result)
    (Open c.args.depth) r
    c.requires.exists c.abort-outcome.ensures.closes.elsewhere c.requires.open refl
    (ap (AbortedBy c.args.by) (c.status.ensures.value ∙ of_cause)) refl
    (ap (λ (z : Cpu). view_outside Running (registers_after_abort k z.base status)) (sym here)
    ∙ ap (λ code. view_outside Running (registers_after_abort k (get_or cpus c.args.c c.index-cpus-c.result).base code))
    (sym of_cause)
    ∙ sym c.abort-outcome.ensures.closes.view) refl

pub returns-clause-held : goal.returns-clause-held
returns-clause-held g c =
    let a : Content = g.S.Sets.content c.args.sets.now in
    let cpus : List Cpu = c.args.cpus.now in
    let here : get_or cpus c.args.c c.index-cpus-c.result ≡ cpu_at cpus c.args.c =
    get_or_default cpus c.args.c c.index-cpus-c.result no_cpu c.requires.exists in
    held_after (a.fixed.room Write) a (g.S.Sets.content c.abort-outcome.new.sets) cpus c.args.c c.abort-outcome.new.cpu
    c.requires.exists c.abort-outcome.ensures.closes.elsewhere c.requires.held
    (closed_held (a.fixed.room Write) (ap (λ (z : Cpu). z.buffer.room) here
    ∙ (c.requires.held c.args.c c.requires.exists).same_room) c.abort-outcome.ensures.closes)
