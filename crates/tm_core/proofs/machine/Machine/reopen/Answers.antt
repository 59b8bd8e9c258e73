use Rattle.std.proofs.Common.{◌≡◌, ◌++◌, ◌∙◌, ap, drop, length, subst, sym, take}
use Rattle.tm_model.specs.State.{opening_state}
use Rattle.tm_core.specs.Buffered.{AreGivenUp, IsBuffered, pending_in, with_pending}
use Rattle.tm_core.specs.Theorem.{ShownMachine, StandsFor}
use Rattle.std.proofs.Common.{None}
use Rattle.tm_core.proofs.Buffered.{given_up, none_left, opened_with, same_rows}
use Rattle.tm_core.proofs.MachineLemmas.{written_back}
use Rattle.tm_core.proofs.machine.Machine.reopen.Goals as goal

pub reopen-requires : goal.reopen-requires
reopen-requires g c = record {
  cores = ap (λ (s : ShownMachine). length s.views) c.self.view_is ∙ c.requires.cores;
  size = ap (λ (s : ShownMachine). length s.memory) c.self.view_is ∙ c.requires.size;
}

pub invariant_of-self : goal.invariant_of-self
invariant_of-self g c =
    let rows = c.self.inside.pending.items in
    let rows2 = c.empty_rows.new.rows in
    let back : take c.self.inside.pending.len (rows2 ++ drop (length rows2) rows) ≡ rows2 =
    written_back rows rows2 c.self.inside.pending.len (c.empty_rows.auto.rows ∙ ap length c.deref_mut.ensures.value)
    (sym c.deref_mut.ensures.len ∙ ap length c.deref_mut.ensures.value) in
    let up : AreGivenUp rows rows2 =
    subst (λ xs. AreGivenUp xs rows2) c.deref_mut.ensures.value c.empty_rows.ensures in
    subst (λ xs. IsBuffered c.reopen.new.self c.self.inside.direct c.self.inside.most xs c.self.inside.under) (sym back)
    (given_up c.self.invariant c.reopen.new.self rows2 up.count up.each c.reopen.ensures.same
    c.nothing_pending.ensures.most c.nothing_pending.ensures.none)

pub returns-clause-opening : goal.returns-clause-opening
returns-clause-opening g c =
    let rows = c.self.inside.pending.items in
    let rows2 = c.empty_rows.new.rows in
    let back : take c.self.inside.pending.len (rows2 ++ drop (length rows2) rows) ≡ rows2 =
    written_back rows rows2 c.self.inside.pending.len (c.empty_rows.auto.rows ∙ ap length c.deref_mut.ensures.value)
    (sym c.deref_mut.ensures.len ∙ ap length c.deref_mut.ensures.value) in
    let up : AreGivenUp rows rows2 =
    subst (λ xs. AreGivenUp xs rows2) c.deref_mut.ensures.value c.empty_rows.ensures in
    subst (λ xs. StandsFor (with_pending c.reopen.new.self c.self.inside.most (pending_in xs))
    (opening_state c.args.program.now) (λ _. None)) (sym back)
    (opened_with c.args.program.now c.reopen.new.self c.self.inside.most (pending_in rows2) c.reopen.ensures.opening
    (none_left c.self.invariant c.reopen.new.self rows2 up.count up.each))

pub returns-clause-same : goal.returns-clause-same
returns-clause-same g c =
    same_rows c.self.view_is c.reopen.new.self _ c.reopen.ensures.same
