use Rattle.std.proofs.Common.{◌≡◌, ◌++◌, ◌<◌, ◌∙◌, None, ap, drop, length, subst, sym, take}
use Rattle.tm_core.specs.Buffered.{AreRows, IsBuffered, StepsRows, pending_in, with_pending}
use Rattle.tm_core.specs.Stepping.{MakesStep}
use Rattle.tm_core.proofs.Buffered.{core_of, has_row, row_makes, rows_after, some_of}
use Rattle.tm_core.proofs.MachineLemmas.{written_back}
use Rattle.tm_core.proofs.machine.Machine.step_buffered.Goals as goal

pub step_pending-outcome-requires : goal.step_pending-outcome-requires
step_pending-outcome-requires g c =
    let below = core_of c.self.invariant c.self.view_is c.args.core c.requires.exists in
    let some = some_of c.self.invariant c.self.view_is c.requires.some in
    record {
      exists = below;
      row = subst (λ n. c.args.core < n) (ap length (sym c.deref_mut.ensures.value))
          (has_row c.self.invariant c.self.view_is c.args.core some below);
      some = some;
      rows = subst (AreRows (length c.self.inside.unbuffered.memory) c.self.inside.most)
          (sym c.deref_mut.ensures.value) c.self.invariant.each;
      under = c.self.invariant.laid;
    }

pub invariant_of-self : goal.invariant_of-self
invariant_of-self g c =
    let rows = c.self.inside.pending.items in
    let rows2 = c.step_pending-outcome.new.rows in
    let back : take c.self.inside.pending.len (rows2 ++ drop (length rows2) rows) ≡ rows2 =
    written_back rows rows2 c.self.inside.pending.len (c.step_pending-outcome.auto.rows
    ∙ ap length c.deref_mut.ensures.value)
    (sym c.deref_mut.ensures.len ∙ ap length c.deref_mut.ensures.value) in
    let steps : StepsRows None c.self.inside.most c.self.inside.unbuffered c.step_pending-outcome.new.self rows rows2
    c.args.core
    c.step_pending-outcome.result =
    subst (λ xs. StepsRows None c.self.inside.most c.self.inside.unbuffered c.step_pending-outcome.new.self xs rows2
    c.args.core
    c.step_pending-outcome.result) c.deref_mut.ensures.value c.step_pending-outcome.ensures.steps in
    subst (λ xs. IsBuffered c.step_pending-outcome.new.self c.self.inside.direct c.self.inside.most xs
    c.step_pending-outcome.new.under) (sym back)
    (rows_after c.self.invariant c.self.view_is None c.step_pending-outcome.new.self rows2 c.args.core
    c.step_pending-outcome.result steps c.requires.exists c.nothing_pending.ensures.most
    c.nothing_pending.ensures.none c.step_pending-outcome.ensures.under)

pub returns : goal.returns
returns g c =
    let rows = c.self.inside.pending.items in
    let rows2 = c.step_pending-outcome.new.rows in
    let back : take c.self.inside.pending.len (rows2 ++ drop (length rows2) rows) ≡ rows2 =
    written_back rows rows2 c.self.inside.pending.len (c.step_pending-outcome.auto.rows
    ∙ ap length c.deref_mut.ensures.value)
    (sym c.deref_mut.ensures.len ∙ ap length c.deref_mut.ensures.value) in
    let steps : StepsRows None c.self.inside.most c.self.inside.unbuffered c.step_pending-outcome.new.self rows rows2
    c.args.core
    c.step_pending-outcome.result =
    subst (λ xs. StepsRows None c.self.inside.most c.self.inside.unbuffered c.step_pending-outcome.new.self xs rows2
    c.args.core
    c.step_pending-outcome.result) c.deref_mut.ensures.value c.step_pending-outcome.ensures.steps in
    subst (λ xs. MakesStep c.args.self.now
    (with_pending c.step_pending-outcome.new.self c.self.inside.most (pending_in xs)) c.args.core
    c.step_pending-outcome.result) (sym back)
    (row_makes c.self.invariant c.self.view_is c.step_pending-outcome.new.self rows2 c.args.core
    c.step_pending-outcome.result steps c.requires.exists)
