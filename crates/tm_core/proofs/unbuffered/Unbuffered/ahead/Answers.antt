use Rattle.std.proofs.Common.{◌<◌, ℕ, List, length, sym, ap, ◌∙◌, subst}
use Rattle.std.specs.Prelude.{All}
use Rattle.tm_sets.specs.Content.{Content}
use Rattle.tm_core.specs.declared.cpu.Cpu.{Cpu}
use Rattle.tm_core.specs.Buffered.{setting_at}
use Rattle.tm_core.specs.StoreBuffers.{IsStorable, ShowsAhead}
use Rattle.tm_core.specs.Theorem.{ShownMachine, view_at}
use Rattle.tm_core.proofs.AheadTold.{ahead_shown}
use Rattle.tm_core.proofs.MachineSteps.{steppable}
use Rattle.tm_core.proofs.WholeMachine.{core_within}
use Rattle.tm_core.proofs.unbuffered.Unbuffered.ahead.Goals as goal

pub told_ahead-requires-clause-parts : goal.told_ahead-requires-clause-parts
told_ahead-requires-clause-parts g c =
    steppable c.deref.ensures.value c.deref-3.ensures.value c.deref-4.ensures.value c.self.invariant

pub told_ahead-requires-clause-exists : goal.told_ahead-requires-clause-exists
told_ahead-requires-clause-exists g c =
    subst (λ n. c.args.core < n) (ap length (sym c.deref-4.ensures.value))
    (core_within (g.S.Sets.content c.self.inside.sets) c.self.inside.cpus.items c.self.view_is c.requires.exists)

pub told_ahead-requires-clause-storable : goal.told_ahead-requires-clause-storable
told_ahead-requires-clause-storable g c =
    subst (λ (l : List ℕ). All (IsStorable (length l)) c.args.pending.now)
    (ap (λ (s : ShownMachine). s.memory) (sym c.self.view_is) ∙ sym c.deref-3.ensures.value) c.requires.storable

pub returns : goal.returns
returns g c =
    let a : Content = g.S.Sets.content c.self.inside.sets in
    let code : List ℕ = c.self.inside.code.items in
    let base : ℕ = c.self.inside.base in
    let m : List ℕ = c.self.inside.memory.items in
    let cpus : List Cpu = c.self.inside.cpus.items in
    subst (λ (s : ShownMachine). ShowsAhead (setting_at s c.args.most) s.memory c.args.pending.now
    (view_at s c.args.core) c.told_ahead.result) c.self.view_is
    (ahead_shown a code c.deref.result.now base m c.deref-3.result.now cpus c.deref-4.result.now c.args.most
    c.args.pending.now c.args.core c.told_ahead.result c.deref.ensures.value c.deref-3.ensures.value
    c.deref-4.ensures.value (core_within a cpus c.self.view_is c.requires.exists) c.told_ahead.ensures)
