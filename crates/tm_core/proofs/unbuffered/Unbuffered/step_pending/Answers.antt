use Rattle.std.proofs.Common.{◌≡◌, ◌<◌, ◌≤◌, ◌∙◌, None, get_or, length, sym, ap, subst}
use Rattle.std.specs.Prelude.{All}
use Rattle.std.proofs.lemmas.Bool.{true≢false}
use Rattle.std.proofs.lemmas.List.{get_or_default}
use Rattle.tm_core.specs.Buffered.{IsRow}
use Rattle.tm_core.specs.StoreBuffers.{IsStorable}
use Rattle.tm_core.specs.Theorem.{ShownMachine}
use Rattle.tm_core.proofs.Buffered.{steps_rows}
use Rattle.tm_core.proofs.MachineSteps.{steppable}
use Rattle.tm_core.proofs.PendingParts.{pending_back}
use Rattle.tm_core.proofs.WholeMachine.{core_within}
use Rattle.tm_core.proofs.unbuffered.Unbuffered.step_pending.Goals as goal

pub step_pending-requires-clause-parts : goal.step_pending-requires-clause-parts
step_pending-requires-clause-parts g c =
    steppable c.deref.ensures.value c.deref_mut.ensures.value c.deref_mut-2.ensures.value c.self.invariant

pub step_pending-requires-clause-exists : goal.step_pending-requires-clause-exists
step_pending-requires-clause-exists g c =
    subst (λ n. c.args.core < n) (ap length (sym c.deref_mut-2.ensures.value))
    (core_within (g.S.Sets.content c.self.inside.sets) c.self.inside.cpus.items c.self.view_is c.requires.exists)

pub step_pending-requires-clause-storable : goal.step_pending-requires-clause-storable
step_pending-requires-clause-storable g c =
    let rows = c.args.rows.now in
    let row = get_or rows c.args.core c.index-rows-core.result in
    let at : row ≡ get_or rows c.args.core row =
    get_or_default rows c.args.core c.index-rows-core.result row c.requires.row in
    let own : IsRow (length c.args.self.now.memory) c.args.most row =
    subst (IsRow (length c.args.self.now.memory) c.args.most) (sym at) (c.requires.rows c.args.core row
    c.requires.row) in
    subst (λ n. All (IsStorable n) row.items)
    (ap (λ (s : ShownMachine). length s.memory) (sym c.self.view_is) ∙ ap length (sym c.deref_mut.ensures.value))
    own.storable

pub step_pending-requires-clause-few : goal.step_pending-requires-clause-few
step_pending-requires-clause-few g c =
    let rows = c.args.rows.now in
    let row = get_or rows c.args.core c.index-rows-core.result in
    let at : row ≡ get_or rows c.args.core row =
    get_or_default rows c.args.core c.index-rows-core.result row c.requires.row in
    let own : IsRow (length c.args.self.now.memory) c.args.most row =
    subst (IsRow (length c.args.self.now.memory) c.args.most) (sym at) (c.requires.rows c.args.core row
    c.requires.row) in
    own.few

pub step_pending-requires-clause-room : goal.step_pending-requires-clause-room
step_pending-requires-clause-room g c =
    let rows = c.args.rows.now in
    let row = get_or rows c.args.core c.index-rows-core.result in
    let at : row ≡ get_or rows c.args.core row =
    get_or_default rows c.args.core c.index-rows-core.result row c.requires.row in
    let own : IsRow (length c.args.self.now.memory) c.args.most row =
    subst (IsRow (length c.args.self.now.memory) c.args.most) (sym at) (c.requires.rows c.args.core row
    c.requires.row) in
    own.room

pub invariant_of-self : goal.invariant_of-self
invariant_of-self g c =
    let back =
    pending_back c.step_pending.ensures.step c.deref.ensures.value c.deref_mut.ensures.value
    c.deref_mut-2.ensures.value c.deref_mut.ensures.len c.deref_mut-2.ensures.len c.step_pending.auto.memory
    c.step_pending.auto.cpus c.self.invariant c.self.view_is c.requires.exists in
    back.1 _ (λ e. absurd (true≢false e))

pub returns-clause-steps : goal.returns-clause-steps
returns-clause-steps g c =
    let rows = c.args.rows.now in
    let row = get_or rows c.args.core c.index-rows-core.result in
    let at : row ≡ get_or rows c.args.core row =
    get_or_default rows c.args.core c.index-rows-core.result row c.requires.row in
    let own : IsRow (length c.args.self.now.memory) c.args.most row =
    subst (IsRow (length c.args.self.now.memory) c.args.most) (sym at) (c.requires.rows c.args.core row
    c.requires.row) in
    let back =
    pending_back c.step_pending.ensures.step c.deref.ensures.value c.deref_mut.ensures.value
    c.deref_mut-2.ensures.value c.deref_mut.ensures.len c.deref_mut-2.ensures.len c.step_pending.auto.memory
    c.step_pending.auto.cpus c.self.invariant c.self.view_is c.requires.exists in
    let row2 = c.step_pending.new.pending in
    steps_rows None c.args.most c.args.self.now _ rows c.args.core row row2 c.step_pending.result at c.requires.row
    back.0 c.requires.rows (record {
      storable = subst (λ n. All (IsStorable n) row2.items)
          (c.step_pending.auto.memory ∙ ap length c.deref_mut.ensures.value ∙ sym back.2)
          c.step_pending.ensures.storable;
      few = c.step_pending.ensures.few;
      room = subst (λ n. c.args.most ≤ n) (sym c.step_pending.ensures.capacity) own.room;
    })
