use Rattle.std.proofs.Common.{◌≡◌, ◌<◌, ℕ, Some, List, length, refl, sym, ap, ◌∙◌, subst, take, drop, ◌++◌, false}
use Rattle.tm_sets.specs.Content.{Content}
use Rattle.tm_core.specs.declared.cpu.Cpu.{Cpu}
use Rattle.tm_model.specs.declared.outcome.Event.TheVariants as event
use Rattle.tm_model.specs.Shown.{View}
use Rattle.tm_core.specs.Machine.{IsMachine, shown_by}
use Rattle.tm_core.specs.Representation.{AreClosed, IsHeld, IsStepUnder, cpu_at, cpu_views, kept_at, parts_setting}
use Rattle.tm_core.specs.Buffered.{MakesPending}
use Rattle.tm_core.specs.Theorem.{ShownMachine, view_at}
use Rattle.tm_core.specs.Types.{Open, Write}
use Rattle.tm_core.proofs.Closed.{closed_all}
use Rattle.tm_core.proofs.MachineLemmas.{held_at, length-views_list, step_at, still_machine, view_at_is, written_back}
use Rattle.tm_core.proofs.PendingParts.{aborts_pending, makes_pending}
use Rattle.tm_core.proofs.unbuffered.Unbuffered.abort_under.Goals as goal

pub invariant_of-self : goal.invariant_of-self
invariant_of-self g c =
    let a : Content = g.S.Sets.content c.self.inside.sets in
    let b : Content = g.S.Sets.content c.abort_by-outcome.new.sets in
    let code : List ℕ = c.self.inside.code.items in
    let base : ℕ = c.self.inside.base in
    let m : List ℕ = c.self.inside.memory.items in
    let cpus : List Cpu = c.self.inside.cpus.items in
    let cpus2 : List Cpu = c.abort_by-outcome.new.cpus in
    let same_cores : length cpus2 ≡ length cpus = c.abort_by-outcome.auto.cpus ∙ ap length c.deref_mut.ensures.value in
    let back : take c.self.inside.cpus.len (cpus2 ++ drop (length cpus2) cpus) ≡ cpus2 =
    written_back cpus cpus2 c.self.inside.cpus.len same_cores
    (sym c.deref_mut.ensures.len ∙ ap length c.deref_mut.ensures.value) in
    let is : IsStepUnder (Some (event.Abort c.args.by)) (parts_setting code base (length m) a) m (cpu_views a cpus)
    (length cpus) c.args.core c.abort_by-outcome.result m (cpu_views b cpus2) =
    step_at (Some (event.Abort c.args.by)) a b code c.deref.result.now base m m m cpus c.deref_mut.result.now cpus2
    c.args.core c.abort_by-outcome.result c.deref.ensures.value refl c.deref_mut.ensures.value
    (c.abort_by-outcome.ensures.step m) in
    let below : c.args.core < length cpus =
    subst (λ n. c.args.core < n)
    (ap (λ (s : ShownMachine). length s.views) (sym c.self.view_is) ∙ length-views_list a 0 cpus) c.requires.core in
    let busy2 = c.any_open-self-inside.result in
    let quiet : busy2 ≡ false → AreClosed cpus2 =
    λ e. subst AreClosed (c.deref-3.ensures.value ∙ back)
    (closed_all c.deref-3.result.now (sym c.any_open-self-inside.ensures ∙ e)) in
    let held : (j : ℕ) → j < length cpus → IsHeld (a.fixed.room Write) (kept_at b cpus2 j) =
    held_at (a.fixed.room Write) b cpus c.deref_mut.result.now cpus2 c.deref_mut.ensures.value
    c.abort_by-outcome.ensures.held in
    subst (λ x. IsMachine b code base c.self.inside.rows.items c.self.inside.lines.items m x busy2) (sym back)
    (still_machine (Some (event.Abort c.args.by)) code base m m a b cpus cpus2 c.args.core c.abort_by-outcome.result
    c.abort_by-outcome.ensures.fixed same_cores refl is c.self.inside.rows.items c.self.inside.lines.items
    c.self.inside.busy busy2 held quiet below c.self.invariant)

pub returns : goal.returns
returns g c most pending =
    let a : Content = g.S.Sets.content c.self.inside.sets in
    let b : Content = g.S.Sets.content c.abort_by-outcome.new.sets in
    let code : List ℕ = c.self.inside.code.items in
    let base : ℕ = c.self.inside.base in
    let m : List ℕ = c.self.inside.memory.items in
    let cpus : List Cpu = c.self.inside.cpus.items in
    let cpus2 : List Cpu = c.abort_by-outcome.new.cpus in
    let same_cores : length cpus2 ≡ length cpus = c.abort_by-outcome.auto.cpus ∙ ap length c.deref_mut.ensures.value in
    let back : take c.self.inside.cpus.len (cpus2 ++ drop (length cpus2) cpus) ≡ cpus2 =
    written_back cpus cpus2 c.self.inside.cpus.len same_cores
    (sym c.deref_mut.ensures.len ∙ ap length c.deref_mut.ensures.value) in
    let is : (l : List ℕ) → IsStepUnder (Some (event.Abort c.args.by)) (parts_setting code base (length l) a) l
    (cpu_views a cpus) (length cpus) c.args.core c.abort_by-outcome.result l (cpu_views b cpus2) =
    λ l. step_at (Some (event.Abort c.args.by)) a b code c.deref.result.now base l l l cpus c.deref_mut.result.now cpus2
    c.args.core c.abort_by-outcome.result c.deref.ensures.value refl c.deref_mut.ensures.value
    (c.abort_by-outcome.ensures.step l) in
    let below : c.args.core < length cpus =
    subst (λ n. c.args.core < n)
    (ap (λ (s : ShownMachine). length s.views) (sym c.self.view_is) ∙ length-views_list a 0 cpus) c.requires.core in
    let opened : (cpu_views a cpus c.args.core).mode ≡ Open c.args.depth =
    ap (λ (v : View). v.mode) (sym (view_at_is a code base m cpus c.args.core below))
    ∙ ap (λ (s : ShownMachine). (view_at s c.args.core).mode) c.self.view_is ∙ c.requires.open in
    let held : (j : ℕ) → j < length cpus → IsHeld (a.fixed.room Write) (kept_at b cpus2 j) =
    held_at (a.fixed.room Write) b cpus c.deref_mut.result.now cpus2 c.deref_mut.ensures.value
    c.abort_by-outcome.ensures.held in
    subst (λ s. MakesPending (Some (event.Abort c.args.by)) most s
    (shown_by b code base m (take c.self.inside.cpus.len (cpus2 ++ drop (length cpus2) cpus))) pending pending
    c.args.core c.abort_by-outcome.result) c.self.view_is
    (subst (λ x. MakesPending (Some (event.Abort c.args.by)) most (shown_by a code base m cpus)
    (shown_by b code base m x) pending pending c.args.core c.abort_by-outcome.result) (sym back)
    (makes_pending (Some (event.Abort c.args.by)) code base most m m a b cpus cpus2 pending pending c.args.core
    c.abort_by-outcome.result
    (aborts_pending c.args.by code base most m a b cpus cpus2 pending c.args.core c.args.depth
    c.abort_by-outcome.result opened is held c.abort_by-outcome.ensures.fixed) same_cores refl below))

pub abort_by-outcome-requires-clause-exists : goal.abort_by-outcome-requires-clause-exists
abort_by-outcome-requires-clause-exists g c =
    let a : Content = g.S.Sets.content c.self.inside.sets in
    let cpus : List Cpu = c.self.inside.cpus.items in
    subst (λ n. c.args.core < n)
    (ap (λ (s : ShownMachine). length s.views) (sym c.self.view_is) ∙ length-views_list a 0 cpus
    ∙ ap length (sym c.deref_mut.ensures.value)) c.requires.core

pub abort_by-outcome-requires-clause-open : goal.abort_by-outcome-requires-clause-open
abort_by-outcome-requires-clause-open g c =
    let a : Content = g.S.Sets.content c.self.inside.sets in
    let cpus : List Cpu = c.self.inside.cpus.items in
    let below : c.args.core < length cpus =
    subst (λ n. c.args.core < n)
    (ap (λ (s : ShownMachine). length s.views) (sym c.self.view_is) ∙ length-views_list a 0 cpus) c.requires.core in
    ap (λ xs. (cpu_at xs c.args.core).state) c.deref_mut.ensures.value
    ∙ ap (λ (v : View). v.mode)
    (sym (view_at_is a c.self.inside.code.items c.self.inside.base c.self.inside.memory.items cpus c.args.core below))
    ∙ ap (λ (s : ShownMachine). (view_at s c.args.core).mode) c.self.view_is ∙ c.requires.open
