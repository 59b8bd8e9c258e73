use Rattle.std.proofs.Common.{◌≡◌, ◌+◌, ◌-◌, ◌^◌, ◌<◌, ◌≤◌, ℕ, true, false, Bool, List, ◌⊎◌, inl, inr, ⊎_elim, length}
use Rattle.std.proofs.Common.{get_or, sym, ap, ◌∙◌, subst, arith, rules}
use Rattle.std.proofs.lemmas.Bool.{cases_eq}
use Rattle.std.proofs.lemmas.List.{get_or_read}
use Rattle.std.proofs.lemmas.Nat.Bits.{bit_at-zero}
use Rattle.std.proofs.lemmas.Nat.{pow_pos}
use Rattle.tm_sets.specs.declared.row.Entry.{Entry}
use Rattle.tm_sets.specs.Content.{bit}
use Rattle.tm_sets.specs.Row.{entry_at}
use Rattle.tm_sets.specs.Threaded.{after_on_line, is_asked, asked, threaded_content}
use Rattle.tm_sets.specs.DirectoryRows.{rows_of}
use Rattle.tm_sets.proofs.Counting.{never}
use Rattle.tm_sets.proofs.Masks.{with_bit}
use Rattle.tm_sets.proofs.Asking.{bit_itself, bit_other, bit_still, with_bit_below, asked_there, whole_mask}
use Rattle.tm_sets.proofs.Finding.{start_walk, start_ahead, at_place, next_walk, go_ahead, visits_within, visits_all}
use Rattle.tm_sets.proofs.Walks.{Ahead}
use Rattle.tm_sets.proofs.threaded.Directory.others.Goals as goal

pub loop-at-init : goal.loop-at-init
loop-at-init c =
    let head : c.index-at.result.now ≡ get_or c.args.self.now.line_heads.items c.args.line 0 =
    get_or_read c.args.self.now.line_heads.items c.args.line c.index-at.result.now
    (omega (arith, c.requires.line, c.args.self.now.sized.lines))
    c.index-at.ensures 0 in
    record {
      walk = start_walk (rows_of c.args.self.now) c.args.self.now.threaded c.args.line c.requires.line
          c.index-at.result.now head;
      told = λ rank top t e o s. inr
          (start_ahead (rows_of c.args.self.now) c.args.line c.requires.line c.index-at.result.now head rank top t e o);
      sound = λ k t. never (bit 0 k) t (ap (λ b. Rattle.std.proofs.Common.eqb b 1) (bit_at-zero k));
      below = pow_pos (length c.args.self.now.core_heads.items);
    }

pub visit-entry-requires-clause-below : goal.visit-entry-requires-clause-below
visit-entry-requires-clause-below c =
    let at : c.loop-at.at ≡ c.loop-at.at - 1 + 1 = omega arith in
    omega (arith, (at_place c.loop-at.invariant.walk at).0)

pub visit-entry-requires-clause-few : goal.visit-entry-requires-clause-few
visit-entry-requires-clause-few c =
    let at : c.loop-at.at ≡ c.loop-at.at - 1 + 1 = omega arith in
    omega (arith, visits_within c.loop-at.invariant.walk at, c.args.self.now.few)

pub loop-at-smaller-then-is_asked : goal.loop-at-smaller-then-is_asked
loop-at-smaller-then-is_asked c =
    let at : c.loop-at.at ≡ c.loop-at.at - 1 + 1 = omega arith in
    omega (arith, visits_within c.loop-at.invariant.walk at, c.visit-entry.ensures.visited)

pub loop-at-smaller : goal.loop-at-smaller
loop-at-smaller c =
    let at : c.loop-at.at ≡ c.loop-at.at - 1 + 1 = omega arith in
    omega (arith, visits_within c.loop-at.invariant.walk at, c.visit-entry.ensures.visited)

pub loop-at-preserved-then-is_asked : goal.loop-at-preserved-then-is_asked
loop-at-preserved-then-is_asked c =
    let r = rows_of c.args.self.now in
    let l = c.loop-at in
    let entry : Entry = c.visit-entry.result in
    let at : c.loop-at.at ≡ c.loop-at.at - 1 + 1 = omega arith in
    let here = at_place l.invariant.walk at in
    let its_core : entry.core ≡ (entry_at r.entries (l.at - 1)).core = ap (λ e. e.core) c.visit-entry.ensures.entry in
    let yes : is_asked entry c.args.core c.args.written ≡ true = sym c.is_asked.ensures ∙ c.if-is_asked.true in
    let core_below : entry.core < length c.args.self.now.core_heads.items =
    omega (arith, c.args.self.now.counted.core (l.at - 1) here.0 here.1, its_core) in
    let small : entry.core < 64 = omega (arith, c.args.self.now.cores) in
    record {
      walk = next_walk l.invariant.walk at (ap (λ e. e.after_on_line) c.visit-entry.ensures.entry)
          c.visit-entry.ensures.visited;
      told = λ rank top t e o s. ⊎_elim
          (λ (i : e ≡ l.at - 1). inl (ap (λ k. bit (with_bit l.mask entry.core) (entry_at r.entries k).core) i
          ∙ sym (ap (bit (with_bit l.mask entry.core)) its_core) ∙ bit_itself l.mask entry.core small))
          (λ (i : e ≡ l.at - 1 → ⊥). ⊎_elim
          (λ (b : bit l.mask (entry_at r.entries e).core ≡ true).
          inl (bit_still l.mask entry.core (entry_at r.entries e).core small b))
          (λ (a : Ahead rank l.at e).
          inr (go_ahead l.invariant.walk at (ap (λ e. e.after_on_line) c.visit-entry.ensures.entry) rank top t e o i a))
          (l.invariant.told rank top t e o s))
          (cases_eq e (l.at - 1));
      sound = λ k t. ⊎_elim
          (λ (i : k ≡ entry.core). ap (asked (threaded_content r) c.args.written c.args.line c.args.core) i
          ∙ asked_there r c.args.line c.args.core c.args.written (l.at - 1) entry here c.visit-entry.ensures.entry yes)
          (λ (i : k ≡ entry.core → ⊥). l.invariant.sound k (sym (bit_other l.mask entry.core k small i) ∙ t))
          (cases_eq k entry.core);
      below =
          with_bit_below l.mask entry.core (length c.args.self.now.core_heads.items) small core_below l.invariant.below;
    }

pub loop-at-preserved : goal.loop-at-preserved
loop-at-preserved c =
    let es : List Entry = c.args.self.now.entries.items in
    let l = c.loop-at in
    let at : c.loop-at.at ≡ c.loop-at.at - 1 + 1 = omega arith in
    let next : c.visit-entry.result.after_on_line ≡ after_on_line es (l.at - 1) =
    ap (λ e. e.after_on_line) c.visit-entry.ensures.entry in
    let no : is_asked (entry_at es (l.at - 1)) c.args.core c.args.written ≡ false =
    sym (ap (λ e. is_asked e c.args.core c.args.written) c.visit-entry.ensures.entry) ∙ sym c.is_asked.ensures
    ∙ c.if-is_asked.false in
    record {
      walk = next_walk l.invariant.walk at next c.visit-entry.ensures.visited;
      told = λ rank top t e o s. ⊎_elim
          (λ (b : bit l.mask (entry_at es e).core ≡ true). inl b)
          (λ (a : Ahead rank l.at e). inr (go_ahead l.invariant.walk at next rank top t e o (λ i.
          never (is_asked (entry_at es e) c.args.core c.args.written) s
          (ap (λ k. is_asked (entry_at es k) c.args.core c.args.written) i ∙ no)) a))
          (l.invariant.told rank top t e o s);
      sound = l.invariant.sound;
      below = l.invariant.below;
    }

pub returns-clause-mask : goal.returns-clause-mask
returns-clause-mask c k _ =
    whole_mask (rows_of c.args.self.now) c.args.self.now.threaded c.args.line c.args.core c.args.written
    c.loop-at.at c.loop-at.mask
    c.loop-at-test.false c.loop-at.invariant.told c.loop-at.invariant.sound k

pub returns-clause-visited : goal.returns-clause-visited
returns-clause-visited c = visits_all c.loop-at.invariant.walk c.loop-at-test.false
