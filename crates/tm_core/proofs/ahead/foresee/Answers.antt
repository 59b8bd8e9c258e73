use Rattle.std.proofs.Common.{◌≡◌, ◌∙◌, ℕ, List, length, refl, sym, ap, subst}
use Rattle.std.proofs.lemmas.List.{get_or_default}
use Rattle.tm_sets.specs.Content.{Content}
use Rattle.tm_model.specs.Setting.{Setting}
use Rattle.tm_core.specs.declared.cpu.Cpu.{Cpu}
use Rattle.tm_core.specs.declared.ahead.Ahead.TheVariants as ahead
use Rattle.tm_core.specs.PendingStep.{core_like}
use Rattle.tm_core.specs.Representation.{cpu_at, cpu_view, kept_in, no_cpu, setting_with}
use Rattle.tm_core.specs.StepRefinement.{stepped}
use Rattle.tm_core.specs.StoreBuffers.{IsAhead}
use Rattle.tm_core.specs.Types.{AtStop, Condemned, CoreState}
use Rattle.tm_core.proofs.Aheads.{ahead_goes}
use Rattle.tm_core.proofs.ahead.foresee.Goals as goal

pub returns-in-Running : goal.returns-in-Running
returns-in-Running g c =
    let a : Content = g.S.Sets.content c.args.sets.now in
    let m : List ℕ = c.args.memory.now in
    let cpus : List Cpu = c.args.cpus.now in
    let cpu : Cpu = c.index-cpus-c.result in
    let here : cpu ≡ cpu_at cpus c.args.c =
    c.index-cpus-c.is ∙ get_or_default cpus c.args.c cpu no_cpu c.requires.exists in
    let k : Setting = setting_with c.args.code.now.bytes.now c.args.code.now.base (length m) a c.args.most in
    let at : Cpu → CoreState → Type 0 =
    λ x mode. IsAhead k m c.args.pending.now (cpu_view a c.args.c x) mode c.foresee_running.result in
    subst (λ (x : Cpu). at x x.state) here (subst (at cpu) (sym c.in-Running.is)
    (c.foresee_running.ensures a (cpu_view a c.args.c cpu) refl))

pub returns-in-Mid : goal.returns-in-Mid
returns-in-Mid g c =
    let a : Content = g.S.Sets.content c.args.sets.now in
    let m : List ℕ = c.args.memory.now in
    let cpus : List Cpu = c.args.cpus.now in
    let cpu : Cpu = c.index-cpus-c.result in
    let here : cpu ≡ cpu_at cpus c.args.c =
    c.index-cpus-c.is ∙ get_or_default cpus c.args.c cpu no_cpu c.requires.exists in
    let k : Setting = setting_with c.args.code.now.bytes.now c.args.code.now.base (length m) a c.args.most in
    let at : Cpu → CoreState → Type 0 =
    λ x mode. IsAhead k m c.args.pending.now (cpu_view a c.args.c x) mode c.foresee_mid.result in
    subst (λ (x : Cpu). at x x.state) here (subst (at cpu) (sym c.in-Mid.is)
    (c.foresee_mid.ensures a (cpu_view a c.args.c cpu) refl
    (ap (λ mode. kept_in mode cpu.kept) c.in-Mid.is)))

pub returns-in-Open : goal.returns-in-Open
returns-in-Open g c =
    let a : Content = g.S.Sets.content c.args.sets.now in
    let m : List ℕ = c.args.memory.now in
    let cpus : List Cpu = c.args.cpus.now in
    let cpu : Cpu = c.index-cpus-c.result in
    let here : cpu ≡ cpu_at cpus c.args.c =
    c.index-cpus-c.is ∙ get_or_default cpus c.args.c cpu no_cpu c.requires.exists in
    let k : Setting = setting_with c.args.code.now.bytes.now c.args.code.now.base (length m) a c.args.most in
    let at : Cpu → CoreState → Type 0 =
    λ x mode. IsAhead k m c.args.pending.now (cpu_view a c.args.c x) mode c.foresee_open.result in
    subst (λ (x : Cpu). at x x.state) here (subst (at cpu) (sym c.in-Open.is)
    (c.foresee_open.ensures c.args.most))

pub returns-in-Condemned : goal.returns-in-Condemned
returns-in-Condemned g c =
    let a : Content = g.S.Sets.content c.args.sets.now in
    let m : List ℕ = c.args.memory.now in
    let cpus : List Cpu = c.args.cpus.now in
    let cpu : Cpu = c.index-cpus-c.result in
    let here : cpu ≡ cpu_at cpus c.args.c =
    c.index-cpus-c.is ∙ get_or_default cpus c.args.c cpu no_cpu c.requires.exists in
    let k : Setting = setting_with c.args.code.now.bytes.now c.args.code.now.base (length m) a c.args.most in
    let at : Cpu → CoreState → Type 0 =
    λ x mode. IsAhead k m c.args.pending.now (cpu_view a c.args.c x) mode ahead.Goes in
    subst (λ (x : Cpu). at x x.state) here (subst (at cpu) (sym c.in-Condemned.is)
    (ahead_goes k m c.args.pending.now (core_like (cpu_view a c.args.c cpu) (Condemned c.in-Condemned._depth))
    (stepped k m (cpu_view a c.args.c cpu) (Condemned c.in-Condemned._depth)) refl refl))

pub returns-in-Stopped : goal.returns-in-Stopped
returns-in-Stopped g c =
    let a : Content = g.S.Sets.content c.args.sets.now in
    let m : List ℕ = c.args.memory.now in
    let cpus : List Cpu = c.args.cpus.now in
    let cpu : Cpu = c.index-cpus-c.result in
    let here : cpu ≡ cpu_at cpus c.args.c =
    c.index-cpus-c.is ∙ get_or_default cpus c.args.c cpu no_cpu c.requires.exists in
    let k : Setting = setting_with c.args.code.now.bytes.now c.args.code.now.base (length m) a c.args.most in
    let at : Cpu → CoreState → Type 0 =
    λ x mode. IsAhead k m c.args.pending.now (cpu_view a c.args.c x) mode ahead.Goes in
    subst (λ (x : Cpu). at x x.state) here (subst (at cpu) (sym c.in-Stopped.is)
    (ahead_goes k m c.args.pending.now (core_like (cpu_view a c.args.c cpu) (AtStop c.in-Stopped._stop))
    (stepped k m (cpu_view a c.args.c cpu) (AtStop c.in-Stopped._stop)) refl refl))
