use Rattle.std.proofs.Common.{◌<◌, ℕ, length, get_or, sym, ap, ◌∙◌, subst}
use Rattle.tm_sets.specs.Content.{Content}
use Rattle.tm_core.specs.Copying.{IsWritten}
use Rattle.tm_core.specs.Representation.{cpu_at, cpu_views}
use Rattle.tm_core.proofs.Copies.{as_many_cores, each_written, machine_copied, same_copied, stands_copied, views_copied}
use Rattle.tm_core.proofs.unbuffered.Unbuffered.copy_lines.Goals as goal

pub copy_cores-requires-clause-cores : goal.copy_cores-requires-clause-cores
copy_cores-requires-clause-cores g c =
    let a : Content = g.S.Sets.content c.self.inside.sets in
    let d : Content = g.S.Sets.content c.other.inside.sets in
    ap length c.deref_mut-2.ensures.value
    ∙ as_many_cores a d c.self.inside.code.items c.other.inside.code.items c.self.inside.base c.other.inside.base
    c.self.inside.memory.items c.other.inside.memory.items c.self.inside.cpus.items c.other.inside.cpus.items
    c.args.self.now c.args.other.now c.self.view_is c.other.view_is c.requires.same
    ∙ sym (ap length c.deref-2.ensures.value)

pub copy_cores-requires-clause-lines : goal.copy_cores-requires-clause-lines
copy_cores-requires-clause-lines g c =
    let d : Content = g.S.Sets.content c.other.inside.sets in
    subst (λ xs. (i place : ℕ) → i < length xs → place < length (cpu_at xs i).buffer.order
    → IsWritten d i (get_or (cpu_at xs i).buffer.order place 0)) (sym c.deref-2.ensures.value)
    (each_written d c.other.inside.code.items c.other.inside.base (length c.other.inside.memory.items)
    c.other.inside.cpus.items
    c.other.invariant.sound c.other.invariant.within)

pub invariant_of-self : goal.invariant_of-self
invariant_of-self g c =
    let a : Content = g.S.Sets.content c.self.inside.sets in
    let b : Content = g.S.Sets.content c.copy_cores.new.sets in
    let d : Content = g.S.Sets.content c.other.inside.sets in
    machine_copied a b d c.self.inside.code.items c.other.inside.code.items c.self.inside.base c.other.inside.base
    c.self.inside.memory.items c.reopen_each.new.memory c.other.inside.memory.items c.self.inside.cpus.items
    c.copy_cores.new.cpus c.deref_mut-2.result.now c.other.inside.cpus.items c.args.self.now c.args.other.now
    c.self.inside.memory.len c.self.inside.cpus.len c.self.view_is c.other.view_is c.requires.same
    c.requires.elsewhere.count
    (sym c.deref_mut.ensures.len ∙ ap length c.deref_mut.ensures.value) (c.reopen_each.ensures ∙ c.deref.ensures.value)
    (sym c.deref_mut-2.ensures.len ∙ ap length c.deref_mut-2.ensures.value) c.deref_mut-2.ensures.value
    c.copy_cores.auto.cpus c.copy_cores.ensures.fixed
    (λ i h. c.copy_cores.ensures.views i h ∙ ap (λ xs. cpu_views d xs i) c.deref-2.ensures.value)
    c.self.inside.rows.items c.other.inside.rows.items c.self.inside.lines.items c.other.inside.lines.items
    c.self.inside.busy c.other.inside.busy c.self.invariant c.other.invariant c.copy_cores.ensures.held

pub returns-clause-same : goal.returns-clause-same
returns-clause-same g c =
    let a : Content = g.S.Sets.content c.self.inside.sets in
    let b : Content = g.S.Sets.content c.copy_cores.new.sets in
    let d : Content = g.S.Sets.content c.other.inside.sets in
    same_copied a b d c.self.inside.code.items c.other.inside.code.items c.self.inside.base c.other.inside.base
    c.self.inside.memory.items c.reopen_each.new.memory c.other.inside.memory.items c.self.inside.cpus.items
    c.copy_cores.new.cpus c.deref_mut-2.result.now c.other.inside.cpus.items c.args.self.now c.args.other.now
    c.self.inside.memory.len c.self.inside.cpus.len c.self.view_is c.other.view_is c.requires.same
    c.requires.elsewhere.count
    (sym c.deref_mut.ensures.len ∙ ap length c.deref_mut.ensures.value) (c.reopen_each.ensures ∙ c.deref.ensures.value)
    (sym c.deref_mut-2.ensures.len ∙ ap length c.deref_mut-2.ensures.value) c.deref_mut-2.ensures.value
    c.copy_cores.auto.cpus c.copy_cores.ensures.fixed
    (λ i h. c.copy_cores.ensures.views i h ∙ ap (λ xs. cpu_views d xs i) c.deref-2.ensures.value)

pub returns-clause-views : goal.returns-clause-views
returns-clause-views g c = λ _.
    let a : Content = g.S.Sets.content c.self.inside.sets in
    let b : Content = g.S.Sets.content c.copy_cores.new.sets in
    let d : Content = g.S.Sets.content c.other.inside.sets in
    views_copied a b d c.self.inside.code.items c.other.inside.code.items c.self.inside.base c.other.inside.base
    c.self.inside.memory.items c.reopen_each.new.memory c.other.inside.memory.items c.self.inside.cpus.items
    c.copy_cores.new.cpus c.deref_mut-2.result.now c.other.inside.cpus.items c.args.self.now c.args.other.now
    c.self.inside.memory.len c.self.inside.cpus.len c.self.view_is c.other.view_is c.requires.same
    c.requires.elsewhere.count
    (sym c.deref_mut.ensures.len ∙ ap length c.deref_mut.ensures.value) (c.reopen_each.ensures ∙ c.deref.ensures.value)
    (sym c.deref_mut-2.ensures.len ∙ ap length c.deref_mut-2.ensures.value) c.deref_mut-2.ensures.value
    c.copy_cores.auto.cpus c.copy_cores.ensures.fixed
    (λ i h. c.copy_cores.ensures.views i h ∙ ap (λ xs. cpu_views d xs i) c.deref-2.ensures.value)

pub returns-clause-stands : goal.returns-clause-stands
returns-clause-stands g c = λ _.
    let a : Content = g.S.Sets.content c.self.inside.sets in
    let b : Content = g.S.Sets.content c.copy_cores.new.sets in
    let d : Content = g.S.Sets.content c.other.inside.sets in
    stands_copied a b d c.self.inside.code.items c.other.inside.code.items c.self.inside.base c.other.inside.base
    c.self.inside.memory.items c.reopen_each.new.memory c.other.inside.memory.items c.self.inside.cpus.items
    c.copy_cores.new.cpus c.deref_mut-2.result.now c.other.inside.cpus.items c.args.self.now c.args.other.now
    c.self.inside.memory.len c.self.inside.cpus.len c.self.view_is c.other.view_is c.requires.same
    c.requires.elsewhere.count
    (sym c.deref_mut.ensures.len ∙ ap length c.deref_mut.ensures.value) (c.reopen_each.ensures ∙ c.deref.ensures.value)
    (sym c.deref_mut-2.ensures.len ∙ ap length c.deref_mut-2.ensures.value) c.deref_mut-2.ensures.value
    c.copy_cores.auto.cpus c.copy_cores.ensures.fixed
    (λ i h. c.copy_cores.ensures.views i h ∙ ap (λ xs. cpu_views d xs i) c.deref-2.ensures.value)
