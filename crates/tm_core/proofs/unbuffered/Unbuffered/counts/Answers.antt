use Rattle.std.proofs.Common.{◌<◌, ◌≤◌, List, length, sym, ap, ◌∙◌, subst, arith}
use Rattle.std.specs.FinSet as finset
use Rattle.tm_sets.specs.Content.{Content}
use Rattle.tm_core.specs.declared.cpu.Cpu.{Cpu}
use Rattle.tm_model.specs.Shown.{View}
use Rattle.tm_core.specs.Theorem.{ShownMachine, view_at}
use Rattle.tm_core.proofs.MachineLemmas.{length-views_list, view_at_is}
use Rattle.tm_core.proofs.unbuffered.Unbuffered.counts.Goals as goal

pub count-requires : goal.count-requires
count-requires g c =
    let a : Content = g.S.Sets.content c.self.inside.sets in
    let cpus : List Cpu = c.self.inside.cpus.items in
    let below : c.args.core < length cpus =
    subst (λ n. c.args.core < n)
    (c.cores.ensures.count ∙ ap (λ (s : ShownMachine). length s.views) (sym c.self.view_is)
    ∙ length-views_list a 0 cpus) c.if-core-cores.false in
    let known : length cpus ≤ a.fixed.cores = c.self.invariant.known in
    omega arith

pub count-requires-2 : goal.count-requires-2
count-requires-2 g c =
    let a : Content = g.S.Sets.content c.self.inside.sets in
    let cpus : List Cpu = c.self.inside.cpus.items in
    let below : c.args.core < length cpus =
    subst (λ n. c.args.core < n)
    (c.cores.ensures.count ∙ ap (λ (s : ShownMachine). length s.views) (sym c.self.view_is)
    ∙ length-views_list a 0 cpus) c.if-core-cores.false in
    let known : length cpus ≤ a.fixed.cores = c.self.invariant.known in
    omega arith

pub returns-clause-reads : goal.returns-clause-reads
returns-clause-reads g c =
    let a : Content = g.S.Sets.content c.self.inside.sets in
    let cpus : List Cpu = c.self.inside.cpus.items in
    let below : c.args.core < length cpus =
    subst (λ n. c.args.core < n)
    (c.cores.ensures.count ∙ ap (λ (s : ShownMachine). length s.views) (sym c.self.view_is)
    ∙ length-views_list a 0 cpus) c.if-core-cores.false in
    c.count.ensures
    ∙ ap (λ (v : View). finset.len v.reads)
    (sym (view_at_is a c.self.inside.code.items c.self.inside.base c.self.inside.memory.items cpus c.args.core below))
    ∙ ap (λ (s : ShownMachine). finset.len (view_at s c.args.core).reads) c.self.view_is

pub returns-clause-writes : goal.returns-clause-writes
returns-clause-writes g c =
    let a : Content = g.S.Sets.content c.self.inside.sets in
    let cpus : List Cpu = c.self.inside.cpus.items in
    let below : c.args.core < length cpus =
    subst (λ n. c.args.core < n)
    (c.cores.ensures.count ∙ ap (λ (s : ShownMachine). length s.views) (sym c.self.view_is)
    ∙ length-views_list a 0 cpus) c.if-core-cores.false in
    c.count-2.ensures
    ∙ ap (λ (v : View). finset.len v.writes)
    (sym (view_at_is a c.self.inside.code.items c.self.inside.base c.self.inside.memory.items cpus c.args.core below))
    ∙ ap (λ (s : ShownMachine). finset.len (view_at s c.args.core).writes) c.self.view_is
