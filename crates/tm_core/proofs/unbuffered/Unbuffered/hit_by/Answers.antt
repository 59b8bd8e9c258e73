use Rattle.std.proofs.Common.{◌≡◌, ◌<◌, ℕ, List, length, sym, ap, subst}
use Rattle.tm_sets.specs.Content.{Content}
use Rattle.tm_core.specs.declared.cpu.Cpu.{Cpu}
use Rattle.tm_core.specs.declared.foretell.Touches.TheVariants.{WriteSet}
use Rattle.tm_core.specs.ExplainedViews.{AreWithin, IsTold, touched_told}
use Rattle.tm_core.specs.Representation.{AreLines, IsHeld, cpu_views, kept_at}
use Rattle.tm_core.specs.Theorem.{ShownMachine, view_at}
use Rattle.tm_core.specs.Types.{Write}
use Rattle.tm_core.proofs.Previews.{hit_shown, known_lines, written}
use Rattle.tm_core.proofs.WholeMachine.{core_within}
use Rattle.tm_core.proofs.unbuffered.Unbuffered.hit_by.Goals as goal

pub hit_touched-requires-clause-exists : goal.hit_touched-requires-clause-exists
hit_touched-requires-clause-exists g c =
    subst (λ n. c.args.core < n) (ap length (sym c.deref.ensures.value))
    (core_within (g.S.Sets.content c.self.inside.sets) c.self.inside.cpus.items c.self.view_is c.requires.exists)

pub hit_touched-requires-clause-other : goal.hit_touched-requires-clause-other
hit_touched-requires-clause-other g c =
    subst (λ n. c.args.victim < n) (ap length (sym c.deref.ensures.value))
    (core_within (g.S.Sets.content c.self.inside.sets) c.self.inside.cpus.items c.self.view_is c.requires.other)

pub hit_touched-requires-clause-lines : goal.hit_touched-requires-clause-lines
hit_touched-requires-clause-lines g c =
    let a : Content = g.S.Sets.content c.self.inside.sets in
    let m : List ℕ = c.self.inside.memory.items in
    known_lines a c.self.inside.code.items c.self.inside.base m c.self.inside.cpus.items c.args.touched
    (subst (λ (s : ShownMachine). AreWithin (length s.memory) c.args.touched) (sym c.self.view_is) c.requires.within)
    c.self.invariant.within c.self.invariant.small

pub hit_touched-requires-clause-held : goal.hit_touched-requires-clause-held
hit_touched-requires-clause-held g c =
    let a : Content = g.S.Sets.content c.self.inside.sets in
    let cpus : List Cpu = c.self.inside.cpus.items in
    subst (λ (xs : List Cpu). IsHeld (a.fixed.room Write) (kept_at a xs c.args.core)) (sym c.deref.ensures.value)
    (c.self.invariant.sound.held c.args.core (core_within a cpus c.self.view_is c.requires.exists))

pub hit_touched-requires-clause-written : goal.hit_touched-requires-clause-written
hit_touched-requires-clause-written g c =
    let a : Content = g.S.Sets.content c.self.inside.sets in
    let m : List ℕ = c.self.inside.memory.items in
    let cpus : List Cpu = c.self.inside.cpus.items in
    written a c.self.inside.code.items c.self.inside.base m cpus c.args.core c.args.touched
    (core_within a cpus c.self.view_is c.requires.exists)
    (subst (λ (s : ShownMachine). c.args.touched ≡ WriteSet →
    AreLines (view_at s c.args.core).writes (length s.memory)) (sym c.self.view_is) c.requires.written)
    c.self.invariant.within

pub returns-clause-told : goal.returns-clause-told
returns-clause-told g c apart =
    let a : Content = g.S.Sets.content c.self.inside.sets in
    let code : List ℕ = c.self.inside.code.items in
    let m : List ℕ = c.self.inside.memory.items in
    let cpus : List Cpu = c.self.inside.cpus.items in
    subst (λ (s : ShownMachine). IsTold (touched_told (view_at s c.args.core).writes c.args.touched)
    (view_at s c.args.victim) c.hit_touched.result) c.self.view_is
    (hit_shown a code c.self.inside.base m cpus c.args.core c.args.victim c.args.touched c.hit_touched.result
    (core_within a cpus c.self.view_is c.requires.exists) (core_within a cpus c.self.view_is c.requires.other)
    (subst (λ (xs : List Cpu). IsTold (touched_told (a.lines c.args.core Write) c.args.touched)
    (cpu_views a xs c.args.victim) c.hit_touched.result) c.deref.ensures.value
    (record { closed = c.hit_touched.ensures.closed; opened = c.hit_touched.ensures.opened apart })))
