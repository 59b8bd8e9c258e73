use Rattle.std.proofs.Common.{◌≡◌, ℕ, List, length, get_or, sym, ap, ◌∙◌}
use Rattle.std.proofs.lemmas.List.{get_or_default}
use Rattle.tm_sets.specs.Content.{Content}
use Rattle.tm_model.specs.Setting.{Setting}
use Rattle.tm_core.specs.declared.cpu.Cpu.{Cpu}
use Rattle.tm_core.specs.ExplainedViews.{reach_shown}
use Rattle.tm_core.specs.Representation.{cpu_at, cpu_view, no_cpu, parts_setting}
use Rattle.tm_core.proofs.foretell.foretell.Goals as goal

pub returns-in-Running-clause-reach : goal.returns-in-Running-clause-reach
returns-in-Running-clause-reach g c =
    let a : Content = g.S.Sets.content c.args.sets.now in
    let m : List ℕ = c.args.memory.now in
    let cpus : List Cpu = c.args.cpus.now in
    let cpu : Cpu = c.index-cpus-c.result in
    let here : get_or cpus c.args.c cpu ≡ cpu_at cpus c.args.c =
    get_or_default cpus c.args.c cpu no_cpu c.requires.exists in
    let k : Setting = parts_setting c.args.listing.now.code.bytes.now c.args.listing.now.code.base (length m) a in
    c.foretell_running.ensures.reach a
    ∙ ap (reach_shown k m (cpu_view a c.args.c cpu)) (sym c.in-Running.is)
    ∙ ap (λ (x : Cpu). reach_shown k m (cpu_view a c.args.c x) x.state) (c.index-cpus-c.is ∙ here)
