use Rattle.std.proofs.Common.{◌≡◌, ◌+◌, ◌-◌, List, true, get_or, sym, ap, ◌∙◌, arith}
use Rattle.std.specs.Cmp.{nat_cmp_total}
use Rattle.std.specs.FinSet as set
use Rattle.tm_sets.specs.declared.row.Entry.{Entry}
use Rattle.tm_sets.specs.Row.{entry_at, lines_in}
use Rattle.tm_sets.specs.Threaded.{after_on_core}
use Rattle.tm_sets.specs.DirectoryRows.{rows_of}
use Rattle.tm_sets.proofs.Counting.{never}
use Rattle.tm_sets.proofs.CoreWalks.{start_walk, start_ahead, at_place, next_walk, go_ahead, visits_less}
use Rattle.tm_sets.proofs.Lists.{read_at}
use Rattle.tm_sets.proofs.Within.{there, all_there}
use Rattle.tm_sets.proofs.threaded.Directory.is_within.Goals as goal

pub loop-at-init : goal.loop-at-init
loop-at-init c =
    let head : c.index-at.result.now ≡ get_or c.args.self.now.core_heads.items c.args.core 0 =
    read_at c.args.self.now.core_heads.items c.requires.here c.from.ensures c.index-at.ensures in
    record {
      walk = start_walk (rows_of c.args.self.now) c.args.self.now.threaded c.args.core c.requires.here
          c.index-at.result.now head;
      unseen = λ rank top t e o s. start_ahead (rows_of c.args.self.now) c.args.core c.requires.here
          c.index-at.result.now head rank top t e o;
    }

pub visit-entry-requires-clause-below : goal.visit-entry-requires-clause-below
visit-entry-requires-clause-below c =
    let at : c.loop-at.at ≡ c.loop-at.at - 1 + 1 = omega arith in
    omega (arith, (at_place c.loop-at.invariant.walk at).0)

pub visit-entry-requires-clause-few : goal.visit-entry-requires-clause-few
visit-entry-requires-clause-few c =
    let at : c.loop-at.at ≡ c.loop-at.at - 1 + 1 = omega arith in
    omega (arith, visits_less c.loop-at.invariant.walk at, c.args.self.now.few)

pub returns-then-not-has_line-clause-all : goal.returns-then-not-has_line-clause-all
returns-then-not-has_line-clause-all c all =
    let at : c.loop-at.at ≡ c.loop-at.at - 1 + 1 = omega arith in
    let es : List Entry = c.args.self.now.entries.items in
    let others : List Entry = c.args.other.now.entries.items in
    let entry : Entry = c.visit-entry.result in
    never c.has_line.result
    (c.has_line.ensures
    ∙ set.is_subset-contains nat_cmp_total (lines_in es c.args.core entry.kind) (lines_in others c.args.core entry.kind)
    (all entry.kind) entry.line
    (there es c.args.core (c.loop-at.at - 1) entry (at_place c.loop-at.invariant.walk at) c.visit-entry.ensures.entry))
    c.if-not-has_line.true

pub loop-at-smaller : goal.loop-at-smaller
loop-at-smaller c =
    let at : c.loop-at.at ≡ c.loop-at.at - 1 + 1 = omega arith in
    omega (arith, visits_less c.loop-at.invariant.walk at, c.visit-entry.ensures.visited)

pub loop-at-preserved : goal.loop-at-preserved
loop-at-preserved c =
    let at : c.loop-at.at ≡ c.loop-at.at - 1 + 1 = omega arith in
    let es : List Entry = c.args.self.now.entries.items in
    let others : List Entry = c.args.other.now.entries.items in
    let next : c.visit-entry.result.after_on_core ≡ after_on_core es (c.loop-at.at - 1) =
    ap (λ e. e.after_on_core) c.visit-entry.ensures.entry in
    let found :
    set.contains (lines_in others c.args.core (entry_at es (c.loop-at.at - 1)).kind)
    (entry_at es (c.loop-at.at - 1)).line ≡ true =
    sym (ap (λ e. set.contains (lines_in others c.args.core e.kind) e.line) c.visit-entry.ensures.entry)
    ∙ sym c.has_line.ensures ∙ c.if-not-has_line.false in
    record {
      walk = next_walk c.loop-at.invariant.walk at next c.visit-entry.ensures.visited;
      unseen = λ rank top t e o s. go_ahead c.loop-at.invariant.walk at next rank top t e o (λ i.
          never (set.contains (lines_in others c.args.core (entry_at es e).kind) (entry_at es e).line)
          (ap (λ k. set.contains (lines_in others c.args.core (entry_at es k).kind) (entry_at es k).line) i ∙ found) s)
          (c.loop-at.invariant.unseen rank top t e o s);
    }

pub returns-clause-within : goal.returns-clause-within
returns-clause-within c _ kind = all_there c.loop-at.invariant.walk c.args.other.now.entries.items c.loop-at-test.false
    c.loop-at.invariant.unseen kind
