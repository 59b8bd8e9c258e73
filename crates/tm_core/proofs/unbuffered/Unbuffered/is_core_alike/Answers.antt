use Rattle.std.proofs.Common.{◌≡◌, ◌<◌, ◌≤◌, ℕ, List, length, get_or, sym, ap, ◌∙◌, arith, subst}
use Rattle.std.proofs.lemmas.List.{get_or_default}
use Rattle.tm_sets.specs.Content.{Content}
use Rattle.tm_core.specs.declared.cpu.Cpu.{Cpu}
use Rattle.tm_model.specs.Setting.{Setting}
use Rattle.tm_core.specs.Representation.{Sane, cpu_at, cpu_view, no_cpu, parts_setting}
use Rattle.tm_core.specs.Theorem.{ShownMachine, view_at}
use Rattle.tm_core.proofs.MachineLemmas.{length-views_list, view_at_is}
use Rattle.tm_core.proofs.unbuffered.Unbuffered.is_core_alike.Goals as goal

pub bounds-cpus-index : goal.bounds-cpus-index
bounds-cpus-index g c =
    let cores : length c.as_slice-cpus.result.now ≡ length c.args.self.now.views =
    ap length c.as_slice-cpus.ensures.value
    ∙ sym (length-views_list (g.S.Sets.content c.self.inside.sets) 0 c.self.inside.cpus.items)
    ∙ ap (λ (s : ShownMachine). length s.views) c.self.view_is in
    omega arith

pub bounds-twins-index : goal.bounds-twins-index
bounds-twins-index g c =
    let cores : length c.as_slice-twins.result.now ≡ length c.args.other.now.views =
    ap length c.as_slice-twins.ensures.value
    ∙ sym (length-views_list (g.S.Sets.content c.other.inside.sets) 0 c.other.inside.cpus.items)
    ∙ ap (λ (s : ShownMachine). length s.views) c.other.view_is in
    omega arith

pub is_alike-requires-clause-here : goal.is_alike-requires-clause-here
is_alike-requires-clause-here g c =
    let a : Content = g.S.Sets.content c.self.inside.sets in
    let cores : length c.self.inside.cpus.items ≡ length c.args.self.now.views =
    sym (length-views_list a 0 c.self.inside.cpus.items) ∙ ap (λ (s : ShownMachine). length s.views) c.self.view_is in
    let known : length c.self.inside.cpus.items ≤ a.fixed.cores = c.self.invariant.known in
    omega arith

pub is_alike-requires-clause-there : goal.is_alike-requires-clause-there
is_alike-requires-clause-there g c =
    let a : Content = g.S.Sets.content c.other.inside.sets in
    let cores : length c.other.inside.cpus.items ≡ length c.args.other.now.views =
    sym (length-views_list a 0 c.other.inside.cpus.items) ∙ ap (λ (s : ShownMachine). length s.views) c.other.view_is in
    let known : length c.other.inside.cpus.items ≤ a.fixed.cores = c.other.invariant.known in
    omega arith

pub returns : goal.returns
returns g c =
    let a : Content = g.S.Sets.content c.self.inside.sets in
    let b : Content = g.S.Sets.content c.other.inside.sets in
    let cpus : List Cpu = c.self.inside.cpus.items in
    let twins : List Cpu = c.other.inside.cpus.items in
    let core : ℕ = c.args.core in
    let at : c.from-index.result ≡ core = c.from-index.ensures in
    let cores : length cpus ≡ length c.args.self.now.views =
    sym (length-views_list a 0 cpus) ∙ ap (λ (s : ShownMachine). length s.views) c.self.view_is in
    let others : length twins ≡ length c.args.other.now.views =
    sym (length-views_list b 0 twins) ∙ ap (λ (s : ShownMachine). length s.views) c.other.view_is in
    let here : core < length cpus = omega arith in
    let there : core < length twins = omega arith in
    let one : c.index-cpus-index.result ≡ cpu_at cpus core =
    c.index-cpus-index.is
    ∙ (λ i. get_or (c.as_slice-cpus.ensures.value i) (at i) c.index-cpus-index.result)
    ∙ get_or_default cpus core c.index-cpus-index.result no_cpu here in
    let two : c.index-twins-index.result ≡ cpu_at twins core =
    c.index-twins-index.is
    ∙ (λ i. get_or (c.as_slice-twins.ensures.value i) (at i) c.index-twins-index.result)
    ∙ get_or_default twins core c.index-twins-index.result no_cpu there in
    let first : Setting =
    parts_setting c.self.inside.code.items c.self.inside.base (length c.self.inside.memory.items) a in
    let second : Setting =
    parts_setting c.other.inside.code.items c.other.inside.base (length c.other.inside.memory.items) b in
    let view_here : cpu_view a core c.index-cpus-index.result ≡ view_at c.args.self.now core =
    ap (cpu_view a core) one
    ∙ sym (view_at_is a c.self.inside.code.items c.self.inside.base c.self.inside.memory.items cpus core here)
    ∙ ap (λ (s : ShownMachine). view_at s core) c.self.view_is in
    let view_there : cpu_view b core c.index-twins-index.result ≡ view_at c.args.other.now core =
    ap (cpu_view b core) two
    ∙ sym (view_at_is b c.other.inside.code.items c.other.inside.base c.other.inside.memory.items twins core there)
    ∙ ap (λ (s : ShownMachine). view_at s core) c.other.view_is in
    let sane_here : Sane first (cpu_view a core c.index-cpus-index.result) c.index-cpus-index.result.state =
    subst (λ (x : Cpu). Sane first (cpu_view a core x) x.state) (sym one) (c.self.invariant.sound.sane core here) in
    let sane_there : Sane second (cpu_view b core c.index-twins-index.result) c.index-twins-index.result.state =
    subst (λ (x : Cpu). Sane second (cpu_view b core x) x.state) (sym two)
    (c.other.invariant.sound.sane core there) in (
      λ alike. sym view_here ∙ (c.is_alike.ensures first second sane_here sane_there).0 alike ∙ view_there,
      λ same. (c.is_alike.ensures first second sane_here sane_there).1 (view_here ∙ same ∙ sym view_there),
    )
