use Rattle.std.proofs.Common.{length, ap, ◌∙◌, sym}
use Rattle.ia_image.specs.Program.{ProgramValue as Program}
use Rattle.tm_sets.specs.Content.{Content}
use Rattle.tm_core.specs.Theorem.{ShownMachine}
use Rattle.tm_core.proofs.MachineLemmas.{length-views_list}
use Rattle.tm_core.proofs.Reopening.{reopened, same_reopened, stands_reopened}
use Rattle.tm_core.proofs.unbuffered.Unbuffered.reopen.Goals as goal

pub reopen_cpus-requires-clause-cores : goal.reopen_cpus-requires-clause-cores
reopen_cpus-requires-clause-cores g c =
    let a : Content = g.S.Sets.content c.self.inside.sets in
    ap length c.deref_mut-2.ensures.value ∙ sym (length-views_list a 0 c.self.inside.cpus.items)
    ∙ ap (λ (s : ShownMachine). length s.views) c.self.view_is ∙ c.requires.cores

pub invariant_of-self : goal.invariant_of-self
invariant_of-self g c =
    let p : Program = c.args.program.now in
    let a : Content = g.S.Sets.content c.self.inside.sets in
    let b : Content = g.S.Sets.content c.reopen_cpus.new.sets in
    reopened p c.args.self.now a b c.self.inside.code.items c.self.inside.base c.self.inside.memory.items
    c.reopen_memory.new.memory c.self.inside.cpus.items c.deref_mut-2.result.now c.reopen_cpus.new.cpus
    c.self.inside.memory.len c.self.inside.cpus.len c.self.view_is c.requires.cores
    (sym c.deref_mut.ensures.len ∙ ap length c.deref_mut.ensures.value)
    (c.reopen_memory.auto.memory ∙ ap length c.deref_mut.ensures.value) c.reopen_memory.ensures
    (sym c.deref_mut-2.ensures.len ∙ ap length c.deref_mut-2.ensures.value) c.deref_mut-2.ensures.value
    c.reopen_cpus.auto.cpus c.reopen_cpus.ensures.fixed c.reopen_cpus.ensures.starts c.reopen_cpus.ensures.empty
    c.self.inside.rows.items c.self.inside.lines.items c.self.inside.busy c.self.invariant

pub returns-clause-opening : goal.returns-clause-opening
returns-clause-opening g c =
    let p : Program = c.args.program.now in
    let a : Content = g.S.Sets.content c.self.inside.sets in
    let b : Content = g.S.Sets.content c.reopen_cpus.new.sets in
    stands_reopened p c.args.self.now a b c.self.inside.code.items c.self.inside.base c.self.inside.memory.items
    c.reopen_memory.new.memory c.self.inside.cpus.items c.deref_mut-2.result.now c.reopen_cpus.new.cpus
    c.self.inside.memory.len c.self.inside.cpus.len c.self.view_is c.requires.cores
    (sym c.deref_mut.ensures.len ∙ ap length c.deref_mut.ensures.value)
    (c.reopen_memory.auto.memory ∙ ap length c.deref_mut.ensures.value) c.reopen_memory.ensures
    (sym c.deref_mut-2.ensures.len ∙ ap length c.deref_mut-2.ensures.value) c.deref_mut-2.ensures.value
    c.reopen_cpus.auto.cpus c.reopen_cpus.ensures.fixed c.reopen_cpus.ensures.starts c.reopen_cpus.ensures.empty
    (λ i h. (c.self.invariant.sound.held i h).same_room)

pub returns-clause-same : goal.returns-clause-same
returns-clause-same g c =
    let p : Program = c.args.program.now in
    let a : Content = g.S.Sets.content c.self.inside.sets in
    let b : Content = g.S.Sets.content c.reopen_cpus.new.sets in
    same_reopened p c.args.self.now a b c.self.inside.code.items c.self.inside.base c.self.inside.memory.items
    c.reopen_memory.new.memory c.self.inside.cpus.items c.deref_mut-2.result.now c.reopen_cpus.new.cpus
    c.self.inside.memory.len c.self.inside.cpus.len c.self.view_is c.requires.cores
    (sym c.deref_mut.ensures.len ∙ ap length c.deref_mut.ensures.value)
    (c.reopen_memory.auto.memory ∙ ap length c.deref_mut.ensures.value) c.reopen_memory.ensures
    (sym c.deref_mut-2.ensures.len ∙ ap length c.deref_mut-2.ensures.value) c.deref_mut-2.ensures.value
    c.reopen_cpus.auto.cpus c.reopen_cpus.ensures.fixed c.reopen_cpus.ensures.starts c.reopen_cpus.ensures.empty
