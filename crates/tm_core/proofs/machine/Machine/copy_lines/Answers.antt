use Rattle.std.proofs.Common.{◌≡◌, ◌++◌, ◌∙◌, ap, drop, length, subst, sym, take}
use Rattle.tm_core.specs.Buffered.{AreCopied, HaveRoom, IsBuffered, pending_in, with_pending}
use Rattle.tm_core.specs.Reopening.{IsSameElsewhere}
use Rattle.tm_core.specs.Theorem.{ShownMachine, StandsFor}
use Rattle.tm_core.proofs.Buffered.{as_many_rows, copied_buffered, copied_stands, rows_copied, rows_have_room}
use Rattle.tm_core.proofs.Buffered.{same_rows, unbuffered_same}
use Rattle.tm_core.proofs.MachineLemmas.{written_back}
use Rattle.tm_core.proofs.machine.Machine.copy_lines.Goals as goal

pub copy_lines-requires : goal.copy_lines-requires
copy_lines-requires g c = record {
  same = unbuffered_same c.self.invariant c.self.view_is c.other.invariant c.other.view_is c.requires.same;
  elsewhere = subst (λ (s : ShownMachine). IsSameElsewhere c.args.lines.now c.self.inside.unbuffered.memory s.memory)
      (sym c.other.view_is)
      (subst (λ (s : ShownMachine). IsSameElsewhere c.args.lines.now s.memory c.args.other.now.memory)
      (sym c.self.view_is) c.requires.elsewhere);
}

-- where nothing was copied

pub invariant_of-self : goal.invariant_of-self
invariant_of-self g c =
    subst (λ (s : ShownMachine). IsBuffered s c.self.inside.direct c.self.inside.most c.self.inside.pending.items
    c.self.inside.under) (sym (c.copy_lines.ensures.none c.if-not-copy_lines.true)) c.self.invariant

pub returns-then-not-copy_lines-clause-same : goal.returns-then-not-copy_lines-clause-same
returns-then-not-copy_lines-clause-same g c =
    same_rows c.self.view_is c.copy_lines.new.self _ c.copy_lines.ensures.same

pub returns-then-not-copy_lines-clause-none : goal.returns-then-not-copy_lines-clause-none
returns-then-not-copy_lines-clause-none g c _ =
    ap (λ (s : ShownMachine). with_pending s c.self.inside.most (pending_in c.self.inside.pending.items))
    (c.copy_lines.ensures.none c.if-not-copy_lines.true)
    ∙ c.self.view_is

-- where all was

pub copy_rows-requires : goal.copy_rows-requires
copy_rows-requires g c = record {
  count = ap length c.as_slice.ensures.value
      ∙ as_many_rows c.self.invariant c.self.view_is c.other.invariant c.other.view_is c.requires.same
      ∙ sym (ap length c.deref_mut.ensures.value);
  room = subst (λ xs. HaveRoom xs c.as_slice.result.now) (sym c.deref_mut.ensures.value)
      (subst (HaveRoom c.self.inside.pending.items) (sym c.as_slice.ensures.value)
      (rows_have_room c.self.invariant c.self.view_is c.other.invariant c.other.view_is c.requires.same));
}

pub invariant_of-self-2 : goal.invariant_of-self-2
invariant_of-self-2 g c =
    let rows = c.self.inside.pending.items in
    let twins = c.other.inside.pending.items in
    let rows2 = c.copy_rows.new.rows in
    let back : take c.self.inside.pending.len (rows2 ++ drop (length rows2) rows) ≡ rows2 =
    written_back rows rows2 c.self.inside.pending.len (c.copy_rows.auto.rows ∙ ap length c.deref_mut.ensures.value)
    (sym c.deref_mut.ensures.len ∙ ap length c.deref_mut.ensures.value) in
    let copied : AreCopied rows twins rows2 =
    subst (λ xs. AreCopied xs twins rows2) c.deref_mut.ensures.value
    (subst (λ xs. AreCopied c.deref_mut.result.now xs rows2) c.as_slice.ensures.value c.copy_rows.ensures) in
    subst (λ xs. IsBuffered c.copy_lines.new.self c.self.inside.direct c.self.inside.most xs c.self.inside.under)
    (sym back)
    (copied_buffered c.self.invariant c.self.view_is c.other.invariant c.other.view_is c.requires.same
    c.copy_lines.new.self rows2 copied c.copy_lines.ensures.same c.nothing_pending.ensures.most
    c.nothing_pending.ensures.none)

pub returns-clause-same : goal.returns-clause-same
returns-clause-same g c = same_rows c.self.view_is c.copy_lines.new.self _ c.copy_lines.ensures.same

pub returns-clause-memory : goal.returns-clause-memory
returns-clause-memory g c _ =
    c.copy_lines.ensures.memory c.if-not-copy_lines.false ∙ ap (λ (s : ShownMachine). s.memory) c.other.view_is

pub returns-clause-views : goal.returns-clause-views
returns-clause-views g c _ =
    c.copy_lines.ensures.views c.if-not-copy_lines.false ∙ ap (λ (s : ShownMachine). s.views) c.other.view_is

pub returns-clause-pending : goal.returns-clause-pending
returns-clause-pending g c _ =
    let rows = c.self.inside.pending.items in
    let twins = c.other.inside.pending.items in
    let rows2 = c.copy_rows.new.rows in
    let back : take c.self.inside.pending.len (rows2 ++ drop (length rows2) rows) ≡ rows2 =
    written_back rows rows2 c.self.inside.pending.len (c.copy_rows.auto.rows ∙ ap length c.deref_mut.ensures.value)
    (sym c.deref_mut.ensures.len ∙ ap length c.deref_mut.ensures.value) in
    let copied : AreCopied rows twins rows2 =
    subst (λ xs. AreCopied xs twins rows2) c.deref_mut.ensures.value
    (subst (λ xs. AreCopied c.deref_mut.result.now xs rows2) c.as_slice.ensures.value c.copy_rows.ensures) in
    ap pending_in back
    ∙ rows_copied c.self.invariant c.self.view_is c.other.invariant c.other.view_is c.requires.same
    c.copy_lines.new.self rows2 copied c.copy_lines.ensures.same
    ∙ ap (λ (s : ShownMachine). s.pending) c.other.view_is

pub returns-clause-stands : goal.returns-clause-stands
returns-clause-stands g c _ st d stands =
    let rows = c.self.inside.pending.items in
    let twins = c.other.inside.pending.items in
    let rows2 = c.copy_rows.new.rows in
    let back : take c.self.inside.pending.len (rows2 ++ drop (length rows2) rows) ≡ rows2 =
    written_back rows rows2 c.self.inside.pending.len (c.copy_rows.auto.rows ∙ ap length c.deref_mut.ensures.value)
    (sym c.deref_mut.ensures.len ∙ ap length c.deref_mut.ensures.value) in
    let copied : AreCopied rows twins rows2 =
    subst (λ xs. AreCopied xs twins rows2) c.deref_mut.ensures.value
    (subst (λ xs. AreCopied c.deref_mut.result.now xs rows2) c.as_slice.ensures.value c.copy_rows.ensures) in
    subst (λ xs. StandsFor (with_pending c.copy_lines.new.self c.self.inside.most (pending_in xs)) st d) (sym back)
    (copied_stands c.self.invariant c.self.view_is c.other.invariant c.other.view_is c.requires.same
    c.copy_lines.new.self rows2 copied c.copy_lines.ensures.same
    (c.copy_lines.ensures.memory c.if-not-copy_lines.false) (c.copy_lines.ensures.views c.if-not-copy_lines.false) st d
    stands)
