use Rattle.std.proofs.Common.{◌≡◌, ◌<◌, List, length, get_or, sym, ap, ◌∙◌, arith}
use Rattle.std.proofs.lemmas.List.{get_or_default}
use Rattle.tm_sets.specs.Content.{Content}
use Rattle.tm_core.specs.declared.cpu.Cpu.{Cpu}
use Rattle.tm_model.specs.Shown.{View}
use Rattle.tm_core.specs.Representation.{cpu_at, no_cpu}
use Rattle.tm_core.specs.Theorem.{ShownMachine, view_at}
use Rattle.tm_core.proofs.MachineLemmas.{length-views_list, view_at_is}
use Rattle.tm_core.proofs.unbuffered.Unbuffered.buffer.Goals as goal

pub bounds-as_slice-core : goal.bounds-as_slice-core
bounds-as_slice-core g c =
    let cores : length c.as_slice.result.now ≡ length c.args.self.now.views =
    ap length c.as_slice.ensures.value
    ∙ sym (length-views_list (g.S.Sets.content c.self.inside.sets) 0 c.self.inside.cpus.items)
    ∙ ap (λ (s : ShownMachine). length s.views) c.self.view_is in
    omega arith

pub returns-clause-bytes : goal.returns-clause-bytes
returns-clause-bytes g c =
    let a : Content = g.S.Sets.content c.self.inside.sets in
    let cpus : List Cpu = c.self.inside.cpus.items in
    let cores : length cpus ≡ length c.args.self.now.views =
    sym (length-views_list a 0 cpus) ∙ ap (λ (s : ShownMachine). length s.views) c.self.view_is in
    let below : c.args.core < length cpus = omega arith in
    let same : c.index-as_slice-core.result ≡ cpu_at cpus c.args.core =
    c.index-as_slice-core.is
    ∙ ap (λ xs. get_or xs c.args.core c.index-as_slice-core.result) c.as_slice.ensures.value
    ∙ get_or_default cpus c.args.core c.index-as_slice-core.result no_cpu below in
    ap (λ (x : Cpu). x.buffer.bytes) (sym c.index-as_slice-core.is)
    ∙ ap (λ (x : Cpu). x.buffer.bytes) same
    ∙ sym (ap (λ (v : View). v.buffer)
    (view_at_is a c.self.inside.code.items c.self.inside.base c.self.inside.memory.items cpus c.args.core below))
    ∙ ap (λ (s : ShownMachine). (view_at s c.args.core).buffer) c.self.view_is
