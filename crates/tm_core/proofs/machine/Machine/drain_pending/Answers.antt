use Rattle.std.proofs.Common.{◌≡◌, ◌++◌, ◌<◌, ◌∙◌, Some, [], ap, drop, length, refl, subst, sym, take}
use Rattle.std.specs.Prelude.{slice_index_or}
use Rattle.tm_model.specs.declared.outcome.Event.TheVariants as event
use Rattle.tm_core.specs.Buffered.{AreRows, IsBuffered, StepsRows, pending_in, with_pending}
use Rattle.tm_core.specs.Theorem.{SameMachine, ShownMachine, StandsFor, TakesStepUnder, pending_at}
use Rattle.tm_core.specs.Types.{Drained}
use Rattle.tm_core.proofs.Buffered.{core_of, pends_somewhere, row_same, row_takes, rows_after}
use Rattle.tm_core.proofs.MachineLemmas.{written_back}
use Rattle.tm_core.proofs.machine.Machine.drain_pending.Goals as goal

pub drain_oldest-requires : goal.drain_oldest-requires
drain_oldest-requires g c =
    let rows = c.self.inside.pending.items in
    let some : 0 < length (slice_index_or (pending_in rows) c.args.core []) =
    subst (λ (s : ShownMachine). 0 < length (pending_at s c.args.core)) (sym c.self.view_is) c.requires.some in
    record {
      exists = core_of c.self.invariant c.self.view_is c.args.core c.requires.exists;
      row = subst (λ n. c.args.core < n) (ap length (sym c.deref_mut.ensures.value))
          (pends_somewhere rows c.args.core some);
      some = subst (λ xs. 0 < length (slice_index_or (pending_in xs) c.args.core [])) (sym c.deref_mut.ensures.value)
          some;
      rows = subst (AreRows (length c.self.inside.unbuffered.memory) c.self.inside.most)
          (sym c.deref_mut.ensures.value) c.self.invariant.each;
    }

pub invariant_of-self : goal.invariant_of-self
invariant_of-self g c =
    let rows = c.self.inside.pending.items in
    let rows2 = c.drain_oldest.new.rows in
    let back : take c.self.inside.pending.len (rows2 ++ drop (length rows2) rows) ≡ rows2 =
    written_back rows rows2 c.self.inside.pending.len (c.drain_oldest.auto.rows ∙ ap length c.deref_mut.ensures.value)
    (sym c.deref_mut.ensures.len ∙ ap length c.deref_mut.ensures.value) in
    let steps : StepsRows (Some event.Drain) c.self.inside.most c.self.inside.unbuffered c.drain_oldest.new.self rows
    rows2 c.args.core Drained =
    subst (λ xs. StepsRows (Some event.Drain) c.self.inside.most c.self.inside.unbuffered c.drain_oldest.new.self xs
    rows2 c.args.core Drained) c.deref_mut.ensures.value c.drain_oldest.ensures in
    subst (λ xs. IsBuffered c.drain_oldest.new.self c.self.inside.direct c.self.inside.most xs c.self.inside.under)
    (sym back)
    (rows_after c.self.invariant c.self.view_is (Some event.Drain) c.drain_oldest.new.self rows2 c.args.core Drained
    steps c.requires.exists c.nothing_pending.ensures.most c.nothing_pending.ensures.none refl)

pub returns-clause-same : goal.returns-clause-same
returns-clause-same g c =
    let rows = c.self.inside.pending.items in
    let rows2 = c.drain_oldest.new.rows in
    let back : take c.self.inside.pending.len (rows2 ++ drop (length rows2) rows) ≡ rows2 =
    written_back rows rows2 c.self.inside.pending.len (c.drain_oldest.auto.rows ∙ ap length c.deref_mut.ensures.value)
    (sym c.deref_mut.ensures.len ∙ ap length c.deref_mut.ensures.value) in
    let steps : StepsRows (Some event.Drain) c.self.inside.most c.self.inside.unbuffered c.drain_oldest.new.self rows
    rows2 c.args.core Drained =
    subst (λ xs. StepsRows (Some event.Drain) c.self.inside.most c.self.inside.unbuffered c.drain_oldest.new.self xs
    rows2 c.args.core Drained) c.deref_mut.ensures.value c.drain_oldest.ensures in
    subst (λ xs. SameMachine c.args.self.now
    (with_pending c.drain_oldest.new.self c.self.inside.most (pending_in xs))) (sym back)
    (row_same c.self.invariant c.self.view_is (Some event.Drain) c.drain_oldest.new.self rows2 c.args.core Drained
    steps c.requires.exists)

pub returns-clause-ok : goal.returns-clause-ok
returns-clause-ok g c st d =
    let rows = c.self.inside.pending.items in
    let rows2 = c.drain_oldest.new.rows in
    let back : take c.self.inside.pending.len (rows2 ++ drop (length rows2) rows) ≡ rows2 =
    written_back rows rows2 c.self.inside.pending.len (c.drain_oldest.auto.rows ∙ ap length c.deref_mut.ensures.value)
    (sym c.deref_mut.ensures.len ∙ ap length c.deref_mut.ensures.value) in
    let steps : StepsRows (Some event.Drain) c.self.inside.most c.self.inside.unbuffered c.drain_oldest.new.self rows
    rows2 c.args.core Drained =
    subst (λ xs. StepsRows (Some event.Drain) c.self.inside.most c.self.inside.unbuffered c.drain_oldest.new.self xs
    rows2 c.args.core Drained) c.deref_mut.ensures.value c.drain_oldest.ensures in
    subst (λ xs. StandsFor c.args.self.now st d → TakesStepUnder (Some event.Drain) c.args.self.now
    (with_pending c.drain_oldest.new.self c.self.inside.most (pending_in xs)) st d c.args.core Drained) (sym back)
    (row_takes c.self.invariant c.self.view_is (Some event.Drain) c.drain_oldest.new.self rows2 c.args.core Drained
    steps c.requires.exists st d)
