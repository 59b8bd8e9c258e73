use Rattle.std.proofs.Common.{◌≡◌, ◌<◌, ◌≤◌, ◌∙◌, Some, get_or, length, refl, suc, sym, ap, subst, arith}
use Rattle.std.specs.Prelude.{All}
use Rattle.std.proofs.lemmas.Bool.{true≢false}
use Rattle.std.proofs.lemmas.List.{get_or_default}
use Rattle.tm_model.specs.State.{Pending}
use Rattle.tm_model.specs.declared.outcome.Event.TheVariants as event
use Rattle.tm_core.specs.Buffered.{IsRow}
use Rattle.tm_core.specs.StoreBuffers.{IsStorable}
use Rattle.tm_core.specs.Theorem.{ShownMachine}
use Rattle.tm_core.specs.Types.{Drained}
use Rattle.tm_core.proofs.Buffered.{row_at, steps_rows}
use Rattle.tm_core.proofs.MachineSteps.{steppable}
use Rattle.tm_core.proofs.PendingParts.{pending_back}
use Rattle.tm_core.proofs.StoreBuffers.{drains_by_event, others_storable}
use Rattle.tm_core.proofs.WholeMachine.{core_within}
use Rattle.tm_core.proofs.unbuffered.Unbuffered.drain_oldest.Goals as goal

pub drain_oldest-requires : goal.drain_oldest-requires
drain_oldest-requires g c =
    let rows = c.args.rows.now in
    let row = get_or rows c.args.core c.index-rows-core.result in
    let at : row ≡ get_or rows c.args.core row =
    get_or_default rows c.args.core c.index-rows-core.result row c.requires.row in
    let own : IsRow (length c.args.self.now.memory) c.args._most row =
    subst (IsRow (length c.args.self.now.memory) c.args._most) (sym at) (c.requires.rows c.args.core row
    c.requires.row) in
    let parts =
    steppable {code = c.self.inside.code.items} {base = c.self.inside.base} refl c.deref_mut.ensures.value
    c.deref_mut-2.ensures.value c.self.invariant in
    record {
      core = record {
        exists = subst (λ n. c.args.core < n) (ap length (sym c.deref_mut-2.ensures.value))
            (core_within (g.S.Sets.content c.self.inside.sets) c.self.inside.cpus.items c.self.view_is
            c.requires.exists);
        few = parts.few;
        known = parts.known;
      };
      small = parts.small;
      within = parts.within;
      some = subst (λ (p : Pending). 0 < length p) (row_at rows c.args.core row row at c.requires.row)
          c.requires.some;
      storable = subst (λ n. All (IsStorable n) row.items)
          (ap (λ (s : ShownMachine). length s.memory) (sym c.self.view_is)
          ∙ ap length (sym c.deref_mut.ensures.value)) own.storable;
    }

pub invariant_of-self : goal.invariant_of-self
invariant_of-self g c =
    let rows = c.args.rows.now in
    let row = get_or rows c.args.core c.index-rows-core.result in
    let at : row ≡ get_or rows c.args.core row =
    get_or_default rows c.args.core c.index-rows-core.result row c.requires.row in
    let own : IsRow (length c.args.self.now.memory) c.args._most row =
    subst (IsRow (length c.args.self.now.memory) c.args._most) (sym at) (c.requires.rows c.args.core row
    c.requires.row) in
    let parts =
    steppable {code = c.self.inside.code.items} {base = c.self.inside.base} refl c.deref_mut.ensures.value
    c.deref_mut-2.ensures.value c.self.invariant in
    let steps =
    drains_by_event c.self.inside.code.items c.self.inside.base c.args._most c.deref_mut.result.now
    (g.S.Sets.content c.self.inside.sets) (g.S.Sets.content c.drain_oldest.new.sets) c.deref_mut-2.result.now
    c.drain_oldest.new.cpus row.items c.args.core parts
    (subst (λ n. c.args.core < n) (ap length (sym c.deref_mut-2.ensures.value))
    (core_within (g.S.Sets.content c.self.inside.sets) c.self.inside.cpus.items c.self.view_is c.requires.exists))
    c.drain_oldest.new.memory c.drain_oldest.new.pending.items c.drain_oldest.ensures.drains in
    let back =
    pending_back steps refl c.deref_mut.ensures.value c.deref_mut-2.ensures.value c.deref_mut.ensures.len
    c.deref_mut-2.ensures.len c.drain_oldest.auto.memory c.drain_oldest.auto.cpus c.self.invariant c.self.view_is
    c.requires.exists in
    back.1 _ (λ e. absurd (true≢false e))

pub returns : goal.returns
returns g c =
    let rows = c.args.rows.now in
    let row = get_or rows c.args.core c.index-rows-core.result in
    let at : row ≡ get_or rows c.args.core row =
    get_or_default rows c.args.core c.index-rows-core.result row c.requires.row in
    let own : IsRow (length c.args.self.now.memory) c.args._most row =
    subst (IsRow (length c.args.self.now.memory) c.args._most) (sym at) (c.requires.rows c.args.core row
    c.requires.row) in
    let parts =
    steppable {code = c.self.inside.code.items} {base = c.self.inside.base} refl c.deref_mut.ensures.value
    c.deref_mut-2.ensures.value c.self.invariant in
    let steps =
    drains_by_event c.self.inside.code.items c.self.inside.base c.args._most c.deref_mut.result.now
    (g.S.Sets.content c.self.inside.sets) (g.S.Sets.content c.drain_oldest.new.sets) c.deref_mut-2.result.now
    c.drain_oldest.new.cpus row.items c.args.core parts
    (subst (λ n. c.args.core < n) (ap length (sym c.deref_mut-2.ensures.value))
    (core_within (g.S.Sets.content c.self.inside.sets) c.self.inside.cpus.items c.self.view_is c.requires.exists))
    c.drain_oldest.new.memory c.drain_oldest.new.pending.items c.drain_oldest.ensures.drains in
    let back =
    pending_back steps refl c.deref_mut.ensures.value c.deref_mut-2.ensures.value c.deref_mut.ensures.len
    c.deref_mut-2.ensures.len c.drain_oldest.auto.memory c.drain_oldest.auto.cpus c.self.invariant c.self.view_is
    c.requires.exists in
    let row2 = c.drain_oldest.new.pending in
    let drains = c.drain_oldest.ensures.drains in
    let count : length row.items ≡ suc (length row2.items) = ap length drains.was in
    steps_rows (Some event.Drain) c.args._most c.args.self.now _ rows c.args.core row row2 Drained at c.requires.row
    back.0 c.requires.rows (record {
      storable = others_storable _ row.items row2.items drains.oldest drains.was
          (subst (λ n. All (IsStorable n) row.items)
          (ap (λ (s : ShownMachine). length s.memory) (sym c.self.view_is) ∙ sym back.2) own.storable);
      few = omega (arith, count, own.few);
      room = subst (λ n. c.args._most ≤ n) (sym c.drain_oldest.ensures.capacity) own.room;
    })
